-- The literals of one instance: what one turn of each walk over a clause's literals does.
use mathlib.Core.Path.{◌≡◌, refl, sym, ◌∙◌, ap, ap₂}
use mathlib.Core.List.{List, [], ◌∷◌, ◌++◌, map, append-nil, map-append}
use mathlib.Core.Bool.{Bool, true, false, not, ◌||◌, cond}
use Prim.Native.Nat.{ℕ, zero, suc, ◌+◌, ◌≤◌, ◌<◌}
use native.Mathlib.Omega.{arith}
use lib.Dec.{eqb, eqb-zero-suc, eqb-suc-zero, eqb-suc-suc}
use borrow.Author.Tests.{eq-eqb, ne_eqb}
use lib.ListN.{length, get_or, take, length-map, length-take}
use Rattle.std.specs.List.{count_by}
use Rattle.std.proofs.Common.{filter}
use Rattle.std.proofs.lemmas.List.Sums.{length-filter}
use Rattle.basis.specs.declared.Literal.{Literal}
use Rattle.lists.specs.Lists.{keep_if, pair_up}
use Rattle.lists.proofs.Walks.{take_more, keep_if_more, keep_if_short}
use Rattle.calculus.specs.Clauses.{arguments, no_literal, same_literal, ground}
use Rattle.calculus.specs.Merging.{join, joins, own_pairs, reason_literals, own_index}
use Rattle.lists.specs.declared.Held.{Held}
use Rattle.lists.specs.Arrays.{held, pushed}
use Rattle.joining.specs.Scratch.{both_literals}
use Rattle.joining.proofs.Scratch.{held_more}

joins_append : (es fs : List (ℕ × ℕ)) (σ : List ℕ) → joins (es ++ fs) σ ≡ joins fs (joins es σ)
joins_append [] fs σ = refl
joins_append (e ∷ es) fs σ = joins_append es fs (join e.0 e.1 σ)

-- ---- joining

module _ (τ : List ℕ) (g l : Literal) where
  -- The table once those of the instance g among xs are joined with l
  abbrev pub joined_own : List Literal → List ℕ → List ℕ
  joined_own xs σ = joins (own_pairs τ g l xs) σ

  own_more : (xs : List Literal) (m : Literal) (σ : List ℕ) →
      joined_own (xs ++ (m ∷ [])) σ ≡ cond (same_literal (ground τ m) g) (joins (pair_up (arguments l) (arguments m)) (joined_own xs σ)) (joined_own xs σ)
  own_more [] m σ = go (same_literal (ground τ m) g)
    where
      go : (b : Bool) → joins (cond b (pair_up (arguments l) (arguments m) ++ []) []) σ ≡ cond b (joins (pair_up (arguments l) (arguments m)) σ) σ
      go true = ap (λ (e : List (ℕ × ℕ)). joins e σ) (append-nil (pair_up (arguments l) (arguments m)))
      go false = refl
  own_more (y ∷ ys) m σ = go (same_literal (ground τ y) g) (λ σ. own_more ys m σ)
    where
      es : List (ℕ × ℕ)
      es = pair_up (arguments l) (arguments y)

      go : (b : Bool) →
          ((σ : List ℕ) → joined_own (ys ++ (m ∷ [])) σ ≡ cond (same_literal (ground τ m) g) (joins (pair_up (arguments l) (arguments m)) (joined_own ys σ)) (joined_own ys σ)) →
          joins (cond b (es ++ own_pairs τ g l (ys ++ (m ∷ []))) (own_pairs τ g l (ys ++ (m ∷ [])))) σ
          ≡ cond (same_literal (ground τ m) g) (joins (pair_up (arguments l) (arguments m)) (joins (cond b (es ++ own_pairs τ g l ys) (own_pairs τ g l ys)) σ)) (joins (cond b (es ++ own_pairs τ g l ys) (own_pairs τ g l ys)) σ)
      go true ih =
          joins_append es (own_pairs τ g l (ys ++ (m ∷ []))) σ ∙ ih (joins es σ)
          ∙ ap (λ (s : List ℕ). cond (same_literal (ground τ m) g) (joins (pair_up (arguments l) (arguments m)) s) s) (sym (joins_append es (own_pairs τ g l ys) σ))
      go false ih = ih σ

  pub own_turn : (a : List Literal) (j : ℕ) (σ : List ℕ) (o o' : List ℕ) (b : Bool) → j < length a →
      o ≡ joined_own (take j a) σ → b ≡ same_literal (ground τ (get_or a j no_literal)) g →
      o' ≡ cond b (joins (pair_up (arguments l) (arguments (get_or a j no_literal))) o) o → o' ≡ joined_own (take (j + 1) a) σ
  own_turn a j σ o o' b h eo eb e =
      e ∙ ap₂ (λ (b : Bool) (o : List ℕ). cond b (joins (pair_up (arguments l) (arguments (get_or a j no_literal))) o) o) eb eo
      ∙ sym (ap (λ (ls : List Literal). joined_own ls σ) (take_more a j no_literal h) ∙ own_more (take j a) (get_or a j no_literal) σ)

-- ---- the literals that stay

module _ (j i : ℕ) where
  pub stays_at : (own : Bool) → j ≡ i → true ≡ (eqb j i || not own)
  stays_at own e = rw (eq-eqb j i e)

  pub stays_other : (own : Bool) → (j ≡ i → ⊥) → own ≡ false → true ≡ (eqb j i || not own)
  stays_other own n e = rw (ne_eqb j i n, e)

  pub goes : (own : Bool) → (j ≡ i → ⊥) → own ≡ true → false ≡ (eqb j i || not own)
  goes own n e = rw (ne_eqb j i n, e)

module _ (τ : List ℕ) (g : Literal) where
  stay_more : (i : ℕ) (xs : List Literal) (x : Literal) →
      reason_literals τ g i (xs ++ (x ∷ [])) ≡ cond (eqb (length xs) i || not (same_literal (ground τ x) g)) (reason_literals τ g i xs ++ (x ∷ [])) (reason_literals τ g i xs)
  stay_more zero [] x = refl
  stay_more (suc i) [] x = rw eqb-zero-suc (go (same_literal (ground τ x) g))
    where
      go : (b : Bool) → cond b [] (x ∷ []) ≡ cond (not b) (x ∷ []) []
      go true = refl
      go false = refl
  stay_more zero (y ∷ ys) x =
      rw eqb-suc-zero (ap (λ (r : List Literal). y ∷ r) (keep_if_more (λ m. not (same_literal (ground τ m) g)) ys x) ∙ go (not (same_literal (ground τ x) g)) (keep_if (λ m. not (same_literal (ground τ m) g)) ys))
    where
      go : (b : Bool) (f : List Literal) → y ∷ cond b (f ++ (x ∷ [])) f ≡ cond b (y ∷ (f ++ (x ∷ []))) (y ∷ f)
      go true f = refl
      go false f = refl
  stay_more (suc i) (y ∷ ys) x =
      rw eqb-suc-suc (ap (λ (r : List Literal). cond (same_literal (ground τ y) g) r (y ∷ r)) (stay_more i ys x) ∙ go (same_literal (ground τ y) g) (eqb (length ys) i || not (same_literal (ground τ x) g)) (reason_literals τ g i ys))
    where
      go : (a b : Bool) (f : List Literal) → cond a (cond b (f ++ (x ∷ [])) f) (y ∷ cond b (f ++ (x ∷ [])) f) ≡ cond b (cond a f (y ∷ f) ++ (x ∷ [])) (cond a f (y ∷ f))
      go true b f = refl
      go false true f = refl
      go false false f = refl

  stay_short : (i : ℕ) (xs : List Literal) → length (reason_literals τ g i xs) ≤ length xs
  stay_short i [] = omega arith
  stay_short zero (y ∷ ys) = omega (arith, keep_if_short (λ m. not (same_literal (ground τ m) g)) ys)
  stay_short (suc i) (y ∷ ys) = go (same_literal (ground τ y) g) (reason_literals τ g i ys) (stay_short i ys)
    where
      go : (b : Bool) (r : List Literal) → length r ≤ length ys → length (cond b r (y ∷ r)) ≤ suc (length ys)
      go true r h = omega arith
      go false r h = omega arith

  pub stay_few : (i : ℕ) (a : List Literal) (j : ℕ) → length (reason_literals τ g i (take j a)) ≤ j
  stay_few i a j = omega (arith, stay_short i (take j a), length-take j a)

  pub stay_turn : (f : Literal → Literal) (i : ℕ) (a : List Literal) (j : ℕ) (o o' : Held Literal both_literals) (m : Literal) (b : Bool) → j < length a → j < both_literals →
      o ≡ held both_literals no_literal (map f (reason_literals τ g i (take j a))) → m ≡ f (get_or a j no_literal) → b ≡ (eqb j i || not (same_literal (ground τ (get_or a j no_literal)) g)) →
      o' ≡ cond b (pushed o m) o → o' ≡ held both_literals no_literal (map f (reason_literals τ g i (take (j + 1) a)))
  stay_turn f i a j o o' m b h k eo em eb e =
      let x = get_or a j no_literal in
      let r = reason_literals τ g i (take j a) in
      let n : length (take j a) ≡ j = omega (arith, length-take j a) in
      let more : reason_literals τ g i (take (j + 1) a) ≡ cond b (r ++ (x ∷ [])) r =
      ap (reason_literals τ g i) (take_more a j no_literal h) ∙ stay_more i (take j a) x
      ∙ ap (λ (n : ℕ). cond (eqb n i || not (same_literal (ground τ x) g)) (r ++ (x ∷ [])) r) n ∙ ap (λ (t : Bool). cond t (r ++ (x ∷ [])) r) (sym eb) in
      e ∙ ap₂ (λ (o : Held Literal both_literals) (m : Literal). cond b (pushed o m) o) eo em ∙ go r x (stay_few i a j) b ∙ ap (λ (l : List Literal). held both_literals no_literal (map f l)) (sym more)
    where
      go : (r : List Literal) (x : Literal) → length r ≤ j → (t : Bool) → cond t (pushed (held both_literals no_literal (map f r)) (f x)) (held both_literals no_literal (map f r)) ≡ held both_literals no_literal (map f (cond t (r ++ (x ∷ [])) r))
      go r x s true = held_more no_literal (map f r) (f x) (omega (arith, length-map r f)) ∙ ap (held both_literals no_literal) (sym (map-append f r (x ∷ [])))
      go r x s false = refl

  -- ---- where the own literal then stands

  others : (i : ℕ) (xs : List Literal) → length (filter (λ m. not (same_literal (ground τ m) g)) (take i xs)) ≡ own_index τ g i xs
  others zero [] = refl
  others (suc i) [] = refl
  others zero (y ∷ ys) = refl
  others (suc i) (y ∷ ys) = go (same_literal (ground τ y) g) (filter (λ m. not (same_literal (ground τ m) g)) (take i ys)) (others i ys)
    where
      go : (b : Bool) (r : List Literal) {n : ℕ} → length r ≡ n → length (cond (not b) (y ∷ r) r) ≡ cond b n (suc n)
      go true r e = e
      go false r e = ap suc e

  pub own_index_is : (i : ℕ) (xs : List Literal) → count_by (λ m. not (same_literal (ground τ m) g)) (take i xs) ≡ own_index τ g i xs
  own_index_is i xs = sym (length-filter (λ m. not (same_literal (ground τ m) g)) (take i xs)) ∙ others i xs
