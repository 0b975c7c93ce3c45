-- What a walk over a trail or over literals knows at its next turn and at its end.
use mathlib.Core.Path.{◌∙◌, ◌≡◌, ap, ap₂, refl, subst, sym}
use mathlib.Core.List.{List, [], ◌∷◌}
use mathlib.Core.Bool.{Bool, ◌||◌, cond, false, not, true}
use Prim.Native.Nat.{◌+◌, ◌<◌, ◌≤◌, max, suc, zero, ℕ}
use native.Mathlib.Decide.{dec_lt}
use native.Mathlib.Nat.{max-eq_left, max-eq_right, max-le}
use native.Mathlib.Numerals.{add-one}
use native.Mathlib.Omega.{arith}
use lib.Dec.{leb}
use lib.ListN.{get_or, length, take}
use lib.Seq.{get_or-take, length-take-le, take-length, take-suc}
use borrow.Author.Tests.{le-leb}
use Rattle.basis.specs.declared.Literal.{Literal}
use Rattle.lists.proofs.Walks.{any_of_more}
use Rattle.lists.specs.Lists.{any_of}
use Rattle.trail.specs.Answers.{is_about}
use Rattle.trail.specs.Entries.{entries_of, entry_of, past_end, trail_of}
use Rattle.trail.specs.declared.Entry.{Entry}
use Rattle.calculus.proofs.Levels.{decisions_more, level_le}
use Rattle.calculus.specs.Clauses.{complement}
use Rattle.calculus.specs.Trails as calculus
use Rattle.calculus.specs.Trails.{Trail, cut, decisions, is_decision, is_literal, largest_level, level_of, on_trail, undefined}

pub trail_length : (es : List Entry) (n : ℕ) → length (trail_of es n) ≡ n
trail_length es zero = refl
trail_length es (suc n) = ap suc (trail_length es n)

pub or_true : (b : Bool) → (b || true) ≡ true
or_true true = refl
or_true false = refl

-- ---- whether some entry passes a test

module _ (p : calculus.Entry → Bool) (es : List Entry) where
  pub any_found : (k n : ℕ) → k < n → p (entry_of (get_or es k past_end)) ≡ true → any_of p (trail_of es n) ≡ true
  any_found k zero h e = absurd (omega arith)
  any_found k (suc n) h e = elim (dec_lt k n) [ yes i ↦ ap (λ b. p (entry_of (get_or es n past_end)) || b) (any_found k n i e) ∙ or_true (p (entry_of (get_or es n past_end))) | no i ↦ here (omega arith) ]
    where
      here : k ≡ n → any_of p (trail_of es (suc n)) ≡ true
      here q = ap (λ b. b || any_of p (trail_of es n)) (subst (λ j. p (entry_of (get_or es j past_end)) ≡ true) q e)

-- .. told of the records, from the first on
pub any_entries : (p : calculus.Entry → Bool) (es : List Entry) (n : ℕ) → n ≤ length es → any_of p (trail_of es n) ≡ any_of (λ e. p (entry_of e)) (take n es)
any_entries p es zero h = refl
any_entries p es (suc n) h =
    let e = get_or es n past_end in
    ap (λ b. p (entry_of e) || b) (any_entries p es n (omega arith))
    ∙ swapped (p (entry_of e)) (any_of (λ e. p (entry_of e)) (take n es))
    ∙ sym (any_of_more (λ e. p (entry_of e)) (take n es) e)
    ∙ ap (any_of (λ e. p (entry_of e))) (sym (take-suc es n past_end h))
  where
    swapped : (a b : Bool) → (a || b) ≡ (b || a)
    swapped true true = refl
    swapped true false = refl
    swapped false true = refl
    swapped false false = refl

pub any_of_entries : (p : calculus.Entry → Bool) (es : List Entry) → any_of p (entries_of es) ≡ any_of (λ e. p (entry_of e)) es
any_of_entries p es = any_entries p es (length es) (omega arith) ∙ ap (any_of (λ e. p (entry_of e))) (take-length es)

-- The first n entries of an array, as a slice
pub entries_first : (es : List Entry) (n : ℕ) → n ≤ length es → entries_of (take n es) ≡ trail_of es n
entries_first es n h = ap (trail_of (take n es)) (length-take-le n es h) ∙ same n (omega arith)
  where
    same : (k : ℕ) → k ≤ n → trail_of (take n es) k ≡ trail_of es k
    same zero q = refl
    same (suc k) q = ap₂ {C = Trail} (λ e t. entry_of e ∷ t) (get_or-take n es k past_end (omega arith)) (same k (omega arith))

pub either_on : (l : Literal) (t : Trail) → (on_trail l t || on_trail (complement l) t) ≡ any_of (is_about l) t
either_on l [] = refl
either_on l (e ∷ t) = go (is_literal l e) (is_literal (complement l) e) (on_trail l t) (on_trail (complement l) t) ∙ ap (λ b. is_about l e || b) (either_on l t)
  where
    go : (a b c d : Bool) → ((a || c) || (b || d)) ≡ ((a || b) || (c || d))
    go true b c d = refl
    go false true true d = refl
    go false true false d = refl
    go false false c d = refl

-- A literal is not undefined where the walk came to an entry about it.
module _ (l : Literal) (es : List Entry) (k n : ℕ) where
  pub one_about : k < n → is_about l (entry_of (get_or es k past_end)) ≡ true → undefined (trail_of es n) l ≡ false
  one_about h e = ap not (either_on l (trail_of es n) ∙ any_found (is_about l) es k n h e)

-- .. and with an entry more that is not about it, it is undefined as before.
pub undefined_turn : (l : Literal) (es : List Entry) (k : ℕ) → is_about l (entry_of (get_or es k past_end)) ≡ false → undefined (trail_of es (k + 1)) l ≡ undefined (trail_of es k) l
undefined_turn l es k h =
    ap (λ n. undefined (trail_of es n) l) (add-one k)
    ∙ ap not (either_on l (trail_of es (suc k)) ∙ ap (λ b. b || any_of (is_about l) (trail_of es k)) h ∙ sym (either_on l (trail_of es k)))

-- ---- levels

pub level_most : (t : Trail) (ls : List Literal) → largest_level t ls ≤ decisions t
level_most t [] = omega arith
level_most t (l ∷ ls) = max-le (level_le l t) (level_most t ls)

-- The largest level is that of the last entry about one of the literals.
pub largest_turn : (e : calculus.Entry) (t : Trail) (ls : List Literal) → largest_level (e ∷ t) ls ≡ cond (any_of (λ l. is_about l e) ls) (decisions (e ∷ t)) (largest_level t ls)
largest_turn e t [] = refl
largest_turn e t (l ∷ ls) = ap (max (level_of l (e ∷ t))) (largest_turn e t ls) ∙ go (is_about l e) (any_of (λ l. is_about l e) ls)
  where
    go : (a b : Bool) → max (cond a (decisions (e ∷ t)) (level_of l t)) (cond b (decisions (e ∷ t)) (largest_level t ls)) ≡ cond (a || b) (decisions (e ∷ t)) (max (level_of l t) (largest_level t ls))
    go true true = max-eq_left (omega arith)
    go true false = max-eq_left (omega (arith, level_most t ls, decisions_more e t))
    go false true = max-eq_right (omega (arith, level_le l t, decisions_more e t))
    go false false = refl

-- ---- the cut

pub decisions_most : (es : List Entry) (k : ℕ) → decisions (trail_of es k) ≤ k
decisions_most es zero = omega arith
decisions_most es (suc k) = go (is_decision (entry_of (get_or es k past_end))) (decisions_most es k)
  where
    go : (b : Bool) → decisions (trail_of es k) ≤ k → cond b (suc (decisions (trail_of es k))) (decisions (trail_of es k)) ≤ suc k
    go true h = omega arith
    go false h = omega arith

-- How many entries are kept where i is the largest level so far: up to the last with no more decisions than that
pub kept_turn : (e : calculus.Entry) (t : Trail) (ls : List Literal)
    → length (cut (largest_level (e ∷ t) ls) (e ∷ t)) ≡ cond (leb (decisions (e ∷ t)) (largest_level (e ∷ t) ls)) (length t + 1) (length (cut (largest_level t ls) t))
kept_turn e t ls =
    let P : ℕ → Type 0 = λ i. length (cut i (e ∷ t)) ≡ cond (leb (decisions (e ∷ t)) i) (length t + 1) (length (cut (largest_level t ls) t)) in
    subst P (sym (largest_turn e t ls)) (rw add-one (go (any_of (λ l. is_about l e) ls)))
  where
    d : ℕ
    d = decisions (e ∷ t)

    here : (b : Bool) → b ≡ true → length (cond b (e ∷ t) (cut d t)) ≡ cond b (suc (length t)) (length (cut (largest_level t ls) t))
    here true h = refl
    here false h = absurd (let z : ◌≡◌ {A = ℕ} 0 1 = cc in omega arith)

    before : (b : Bool) → length (cond b (e ∷ t) (cut (largest_level t ls) t)) ≡ cond b (suc (length t)) (length (cut (largest_level t ls) t))
    before true = refl
    before false = refl

    go : (a : Bool) → length (cut (cond a d (largest_level t ls)) (e ∷ t)) ≡ cond (leb d (cond a d (largest_level t ls))) (suc (length t)) (length (cut (largest_level t ls) t))
    go true = here (leb d d) (le-leb d d (omega arith))
    go false = before (leb d (largest_level t ls))

pub kept_more : (es : List Entry) (ls : List Literal) (k d i kept r : ℕ) → d ≡ decisions (trail_of es (k + 1)) → i ≡ largest_level (trail_of es (k + 1)) ls
    → kept ≡ length (cut (largest_level (trail_of es k) ls) (trail_of es k)) → r ≡ cond (leb d i) (k + 1) kept
    → r ≡ length (cut (largest_level (trail_of es (k + 1)) ls) (trail_of es (k + 1)))
kept_more es ls k d i kept r p q e f =
    let t = trail_of es k in
    let x = entry_of (get_or es k past_end) in
    let p' : d ≡ decisions (x ∷ t) = rw add-one at p in
    let q' : i ≡ largest_level (x ∷ t) ls = rw add-one at q in
    let turn = rw (trail_length es k) at (kept_turn x t ls) in
    rw add-one (cc)
