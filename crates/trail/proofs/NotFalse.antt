-- Refusal 12: what its number says, that the position of the first that fails gives it, and the walk that finds this position.
use mathlib.Core.Path.{◌≡◌, ap, refl, subst}
use mathlib.Core.List.{List, [], ◌∷◌}
use mathlib.Core.Bool.{Bool, ◌&&◌, cond, false, not, true}
use Prim.Native.Nat.{◌+◌, ◌<◌, ◌≤◌, suc, ℕ}
use native.Mathlib.Decide.{dec_lt}
use native.Mathlib.Omega.{arith}
use Rattle.std.specs.Prelude.{None, Option, Some}
use Rattle.std.specs.List.{position, position_or_len}
use Rattle.std.specs.Option.{option_map}
use Rattle.std.proofs.lemmas.List.Sums.{position_or_len_is}
use borrow.Author.Tests.{le-ltb, lt-ltb}
use lib.Dec.{leb-suc-suc, leb-zero, ltb}
use lib.ListN.{get_or, length}
use Rattle.basis.specs.declared.Literal.{Literal}
use Rattle.lists.specs.Lists.{all_of}
use Rattle.trail.specs.Answers.{first_number, is_own, passes}
use Rattle.calculus.specs.Clauses.{complement, ground, no_literal}
use Rattle.calculus.specs.Tests.{first_failing}
use Rattle.calculus.specs.Trails.{Trail, on_trail}
use Rattle.trail.proofs.Walks.{or_true}

-- ---- the first that fails a test

module _ (f : Literal → Bool) where
  -- What the number says: none that all pass, another that not all do, and which.
  pub none_fails : (ls : List Literal) → first_number f ls ≡ None → all_of f ls ≡ true
  none_fails ls e = go (all_of f ls) e
    where
      go : (b : Bool) → cond b None (Some (first_failing f ls)) ≡ None → b ≡ true
      go true q = refl
      go false q = cc

  module _ (ls : List Literal) (n : ℕ) (e : first_number f ls ≡ Some n) where
    pub one_fails : all_of f ls ≡ false
    one_fails = go (all_of f ls) e
      where
        go : (b : Bool) → cond b None (Some (first_failing f ls)) ≡ Some n → b ≡ false
        go true q = cc
        go false q = refl

    pub its_number : first_failing f ls ≡ n
    its_number = let q : cond false None (Some (first_failing f ls)) ≡ Some n = rw one_fails at e in cc

  -- It is found by the position of the first that fails.
  pub first_found : (ls : List Literal) → first_number f ls ≡ option_map suc (position (λ l. not (f l)) ls)
  first_found [] = refl
  first_found (l ∷ ls) = go (f l) (1 + n) (omega arith) (at (all_of f ls) (ltb n (length ls)) (first_found ls))
    where
      n : ℕ
      n = position_or_len (λ l. not (f l)) ls

      at : (all found : Bool) → cond all None (Some (first_failing f ls)) ≡ option_map suc (cond found (Some n) None)
          → cond all None (Some (suc (first_failing f ls))) ≡ option_map suc (cond found (Some (suc n)) None)
      at true true h = cc
      at true false h = refl
      at false false h = cc
      at false true h = let e : first_failing f ls ≡ suc n = cc in ap (λ k. Some (suc k)) e

      go : (b : Bool) (m : ℕ) → m ≡ suc n
          → cond (all_of f ls) None (Some (suc (first_failing f ls))) ≡ option_map suc (cond (ltb n (length ls)) (Some (suc n)) None)
          → cond (b && all_of f ls) None (Some (cond b (suc (first_failing f ls)) 1))
          ≡ (let k = cond (not (not b)) m 0 in option_map suc (cond (ltb k (suc (length ls))) (Some k) None))
      go false m q h = rw (leb-suc-suc, leb-zero) refl
      go true m q h = rw (q, leb-suc-suc) h

-- ---- the walk

-- The first j literals pass.
abbrev pub AllPass : (Literal → Bool) → List Literal → ℕ → Type 0
AllPass f ls j = (k : ℕ) → k < j → f (get_or ls k no_literal) ≡ true

-- .. and the next one too, or it is the first that fails, or there is none left.
module _ (f : Literal → Bool) (ls : List Literal) (j : ℕ) (passed : AllPass f ls j) where
  pub one_passes : f (get_or ls j no_literal) ≡ true → AllPass f ls (j + 1)
  one_passes e k h = elim (dec_lt k j) [ yes i ↦ passed k i | no i ↦ let q : j ≡ k = omega arith in subst (λ (n : ℕ). f (get_or ls n no_literal) ≡ true) q e ]

  place : j ≤ length ls → (j < length ls → f (get_or ls j no_literal) ≡ false) → position_or_len (λ l. not (f l)) ls ≡ j
  place h e = position_or_len_is (λ l. not (f l)) ls j no_literal h (λ k i. ap not (passed k i)) (λ i. ap not (e i))

  pub fails_here : j < length ls → f (get_or ls j no_literal) ≡ false → Some j ≡ position (λ l. not (f l)) ls
  fails_here h e = rw (place (omega arith) (λ i. e), lt-ltb j (length ls) h) refl

  pub none_left : j ≡ length ls → None ≡ position (λ l. not (f l)) ls
  none_left h = rw (place (omega arith) (λ i. absurd (omega arith)), le-ltb j (length ls) (omega arith)) refl

-- The literal's instance g need not be false, its complement is on the trail, or neither.
module _ (own : Option Literal) (t : Trail) (τ : List ℕ) (l : Literal) {g : Literal} (e : g ≡ ground τ l) where
  pub own_passes : is_own own g ≡ true → passes own t τ l ≡ true
  own_passes q = let z : is_own own (ground τ l) ≡ true = rw e at q in rw z refl

  pub false_passes : on_trail (complement g) t ≡ true → passes own t τ l ≡ true
  false_passes q = let z : on_trail (complement (ground τ l)) t ≡ true = rw e at q in rw z (or_true (is_own own (ground τ l)))

  pub neither_passes : is_own own g ≡ false → on_trail (complement g) t ≡ false → passes own t τ l ≡ false
  neither_passes p q =
      let y : is_own own (ground τ l) ≡ false = rw e at p in
      let z : on_trail (complement (ground τ l)) t ≡ false = rw e at q in
      rw (y, z) refl
