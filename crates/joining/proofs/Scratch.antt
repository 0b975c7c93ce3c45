-- Lists held in arrays, and what one turn of each walk does to them.
use mathlib.Core.Path.{◌≡◌, refl, sym, ◌∙◌, ap}
use mathlib.Core.List.{List, [], ◌∷◌, ◌++◌, map}
use mathlib.Core.Bool.{Bool, true, false, not, cond}
use Prim.Native.Nat.{ℕ, zero, suc, ◌+◌, ◌≤◌, ◌<◌}
use native.Mathlib.Omega.{arith}
use lib.Dec.{eqb}
use lib.ListN.{length, get_or, take, drop, length-append}
use borrow.Author.Tests.{ne_eqb}
use Rattle.std.specs.List.{position, position_or_len}
use Rattle.std.specs.Option.{unwrap_or}
use Rattle.std.proofs.Common.{Some, None, nat_lt}
use Rattle.lists.specs.declared.Held.{Held}
use Rattle.lists.specs.Lists.{up_from, keep_if, index_of}
use Rattle.lists.specs.Arrays.{held, held_in, pushed}
use Rattle.lists.proofs.Arrays.{take_exactly, set_exactly}
use Rattle.lists.proofs.Walks.{keep_if_more, keep_if_short, up_from_more, up_from_length}
use Rattle.calculus.specs.Merging.{apart}

-- ---- what is held

pub held_count : {A : Type 0} {N : ℕ} {h k : Held A N} → h ≡ k → h.n ≡ k.n
held_count {A} {N} e = ap (λ (o : Held A N). o.n) e

module _ {A : Type 0} {N : ℕ} (d : A) (xs : List A) where
  -- It can be read back.
  pub held_read : {h : Held A N} → length xs ≤ N → h ≡ held N d xs → held_in h ≡ xs
  held_read k e = ap held_in e ∙ take_exactly d N xs k

  pub held_again : {h : Held A N} → length xs ≤ N → h ≡ held N d xs → h ≡ held N d (held_in h)
  held_again k e = e ∙ ap (held N d) (sym (held_read k e))

  -- One more, after the others
  pub held_more : (x : A) → length xs < N → pushed (held N d xs) x ≡ held N d (xs ++ (x ∷ []))
  held_more x k = λ i. record { n = sym (length-append xs (x ∷ [])) i; at = set_exactly d N xs x k i }

-- What a list that is changed slot by slot has at the next slot
pub not_yet : {A : Type 0} (f : A → A) (t : List A) (j : ℕ) (d : A) → j < length t → get_or (map f (take j t) ++ drop j t) j d ≡ get_or t j d
not_yet f [] j d h = absurd (omega arith)
not_yet f (x ∷ t) zero d h = refl
not_yet f (x ∷ t) (suc j) d h = not_yet f t j d (omega arith)

-- ---- a clause whose variables follow no others

pub apart_none : apart 0 ≡ (λ x. x)
apart_none = λ i x. go x i
  where
    go : (x : ℕ) → apart 0 x ≡ x
    go zero = refl
    go (suc x) = rw (ne_eqb (suc x) 0 (λ e. omega arith)) (omega arith)

-- ---- the table at the start

pub start_turn : (N x : ℕ) {h : Held ℕ N} → x < N → h ≡ held N 0 (up_from 1 x) → pushed h (x + 1) ≡ held N 0 (up_from 1 (x + 1))
start_turn N x h e =
    ap (λ (o : Held ℕ N). pushed o (x + 1)) e ∙ held_more 0 (up_from 1 x) (x + 1) (omega (arith, up_from_length 1 x))
    ∙ ap (held N 0) (ap (λ (k : ℕ). up_from 1 x ++ (k ∷ [])) (omega arith) ∙ sym (up_from_more 1 x))

-- ---- the variables that are kept

module _ (p : ℕ → Bool) (x : ℕ) where
  pub kept_short : length (keep_if p (up_from 1 x)) ≤ x
  kept_short = omega (arith, keep_if_short p (up_from 1 x), up_from_length 1 x)

  next : up_from 1 (x + 1) ≡ up_from 1 x ++ ((x + 1) ∷ [])
  next = up_from_more 1 x ∙ ap (λ (k : ℕ). up_from 1 x ++ (k ∷ [])) (omega arith)

  kept_next : keep_if p (up_from 1 (x + 1)) ≡ cond (p (x + 1)) (keep_if p (up_from 1 x) ++ ((x + 1) ∷ [])) (keep_if p (up_from 1 x))
  kept_next = ap (keep_if p) next ∙ keep_if_more p (up_from 1 x) (x + 1)

  pub kept_turn : (N : ℕ) {h : Held ℕ N} → x < N → p (x + 1) ≡ true → h ≡ held N 0 (keep_if p (up_from 1 x)) → pushed h (x + 1) ≡ held N 0 (keep_if p (up_from 1 (x + 1)))
  kept_turn N k t e =
      ap (λ (o : Held ℕ N). pushed o (x + 1)) e ∙ held_more 0 (keep_if p (up_from 1 x)) (x + 1) (omega (arith, kept_short))
      ∙ ap (held N 0) (sym (kept_next ∙ ap (λ (b : Bool). cond b (keep_if p (up_from 1 x) ++ ((x + 1) ∷ [])) (keep_if p (up_from 1 x))) t))

  pub left_turn : (N : ℕ) {h : Held ℕ N} → p (x + 1) ≡ false → h ≡ held N 0 (keep_if p (up_from 1 x)) → h ≡ held N 0 (keep_if p (up_from 1 (x + 1)))
  left_turn N f e = e ∙ ap (held N 0) (sym (kept_next ∙ ap (λ (b : Bool). cond b (keep_if p (up_from 1 x) ++ ((x + 1) ∷ [])) (keep_if p (up_from 1 x))) f))

-- ---- the new number of a variable

module _ (x : ℕ) where
  place : (ks : List ℕ) → position_or_len (eqb x) ks ≡ index_of x ks
  place [] = refl
  place (k ∷ ks) = go (eqb x k) (place ks)
    where
      go : (b : Bool) {m n : ℕ} → m ≡ n → cond (not b) (1 + m) 0 ≡ cond b 0 (suc n)
      go true e = refl
      go false e = omega arith

  pub place_short : (ks : List ℕ) → index_of x ks ≤ length ks
  place_short [] = omega arith
  place_short (k ∷ ks) = go (eqb x k) (place_short ks)
    where
      go : (b : Bool) {m : ℕ} → m ≤ length ks → cond b 0 (suc m) ≤ suc (length ks)
      go true h = omega arith
      go false h = omega arith

  -- Where x stands first, or the length
  pub place_or_length : (ks : List ℕ) → unwrap_or (position (eqb x) ks) (length ks) ≡ index_of x ks
  place_or_length ks = go (nat_lt (position_or_len (eqb x) ks) (length ks)) refl
    where
      go : (b : Bool) → nat_lt (position_or_len (eqb x) ks) (length ks) ≡ b → unwrap_or (cond b (Some (position_or_len (eqb x) ks)) None) (length ks) ≡ index_of x ks
      go true e = place ks
      go false e = omega (arith, place ks, place_short ks, borrow.Author.Tests.ltb-false (position_or_len (eqb x) ks) (length ks) e)

  pub closed_past : (ks : List ℕ) → (x ≡ 0 → ⊥) → index_of x (0 ∷ ks) ≡ suc (index_of x ks)
  closed_past ks n = rw (ne_eqb x 0 n)
