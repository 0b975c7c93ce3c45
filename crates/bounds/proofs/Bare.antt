-- The bare square, 0 on the diagonal and far elsewhere, stands for values that are near.
use mathlib.Core.Path.{◌≡◌, refl, sym, ap, ◌∙◌, subst}
use mathlib.Core.Bool.{Bool, true, false, cond}
use Prim.Native.Nat.{ℕ, ◌≤◌, ◌<◌}
use native.Mathlib.Decide.{ℕ_discrete}
use native.Mathlib.Omega.{arith}
use lib.Dec.{eqb}
use lib.IntN.{ℤ, pos, ◌+ℤ◌}
use lib.Signed.{◌≤ℤ◌}
use borrow.Author.Tests.{eq-eqb, ne_eqb}
use Rattle.integers.specs.Sides.{over, under}
use Rattle.integers.proofs.Linear.{le→, →le, sum}
use Rattle.bounds.specs.Whole.{whole_bounds}
use Rattle.bounds.specs.Squares.{Keeps, KeepsAll, Closed}

-- Over any far bound
module _ (far : ℕ) where
  abbrev pub bare : ℕ → ℕ → ℤ
  bare i j = cond (eqb i j) (pos 0) (pos far)

  pub bare_same : (i j : ℕ) → i ≡ j → bare i j ≡ pos 0
  bare_same i j e = ap (λ (b : Bool). cond b (pos 0) (pos far)) (eq-eqb i j e)

  pub bare_other : (i j : ℕ) → ¬ (i ≡ j) → bare i j ≡ pos far
  bare_other i j e = ap (λ (b : Bool). cond b (pos 0) (pos far)) (ne_eqb i j e)

  -- Both entries are from 0 to far.
  pub sides : (i j : ℕ) → (over (bare i j) ≤ far) × (under (bare i j) ≡ 0)
  sides i j = go (eqb i j)
    where
      go : (b : Bool) → (over (cond b (pos 0) (pos far)) ≤ far) × (under (cond b (pos 0) (pos far)) ≡ 0)
      go true = (omega arith, refl)
      go false = (omega arith, refl)

  -- From i to j by k costs far at least once, unless i is j.
  bare_through : (i k j : ℕ) → bare i j ≤ℤ (bare i k +ℤ bare k j)
  bare_through i k j = →le (bare i j) (bare i k +ℤ bare k j) (elim (ℕ_discrete i j) [
    | yes e ↦ omega (arith, sum (bare i k) (bare k j), ap over (bare_same i j e), sides i j, sides i k, sides k j)
    | no e ↦ elim (ℕ_discrete i k) [
      | yes f ↦ omega (arith, sum (bare i k) (bare k j), sides i j, sides i k, sides k j, ap over (bare_other k j (λ g. e (f ∙ g))))
      | no f ↦ omega (arith, sum (bare i k) (bare k j), sides i j, sides i k, sides k j, ap over (bare_other i k f))
    ]
  ])

  pub bare_closed : (m : ℕ) → Closed whole_bounds m bare
  bare_closed m = record { diagonal = λ i hi. bare_same i i refl; through = λ i k j hi hk hj. bare_through i k j }

  on_diagonal : (v : ℕ → ℤ) (i j : ℕ) → i ≡ j → Keeps whole_bounds v i j (bare i j)
  on_diagonal v i j e = →le (v i) (bare i j +ℤ v j) (omega (arith, sum (bare i j) (v j), ap over (bare_same i j e), sides i j, ap (λ (n : ℕ). over (v n)) e, ap (λ (n : ℕ). under (v n)) e))

  pub near_of : (v : ℕ → ℤ) (i j : ℕ) → Keeps whole_bounds v i j (bare i j) → Keeps whole_bounds v i j (pos far)
  near_of v i j h = →le (v i) (pos far +ℤ v j) (omega (arith, le→ h, sum (bare i j) (v j), sum (pos far) (v j), sides i j))

  pub bare_kept : (m : ℕ) (v : ℕ → ℤ) → ((i j : ℕ) → i < m → j < m → Keeps whole_bounds v i j (pos far)) → KeepsAll whole_bounds m bare v
  bare_kept m v h i j hi hj = elim (ℕ_discrete i j) [ yes e ↦ on_diagonal v i j e | no e ↦ subst (Keeps whole_bounds v i j) (sym (bare_other i j e)) (h i j hi hj) ]
