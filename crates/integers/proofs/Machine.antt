-- What the machine reads back of signed numbers in a range: the numbers themselves, and their sums.
use mathlib.Core.Path.{◌≡◌, sym, ap₂, ◌∙◌, subst}
use Prim.Native.Nat.{ℕ, ◌+◌, ◌<◌, ◌^◌}
use native.Mathlib.Omega.{arith}
use lib.IntN.{ℤ, ◌+ℤ◌}
use mir.Syntax.{Width}
use mir.Val.{to_z, of_z, SFits, hbits}
use mir.Facts.{to_z-of_z}
use Rattle.integers.specs.Sides.{Within}
use Rattle.integers.proofs.Linear.{→mag}
use Rattle.integers.proofs.Order.{within_sum}

module _ (w : Width) where
  pub fits_of : {m : ℕ} {z : ℤ} → Within m z → m < 2 ^ hbits w → SFits w z
  fits_of {m} {z} W h = record { sfits = →mag z m (2 ^ hbits w) W.above W.below h }

  pub back : {m : ℕ} {z : ℤ} → Within m z → m < 2 ^ hbits w → to_z w (of_z w z) ≡ z
  back W h = to_z-of_z (fits_of W h)

  -- The machine's sum does not overflow, and is the sum.
  pub sum_fits : {m n : ℕ} {x y : ℤ} → Within m x → Within n y → m + n < 2 ^ hbits w → SFits w (to_z w (of_z w x) +ℤ to_z w (of_z w y))
  sum_fits {x = x} {y = y} W U h = subst (SFits w) (sym (ap₂ ◌+ℤ◌ (back W (omega arith)) (back U (omega arith)))) (fits_of (within_sum W U) h)

  pub sum_back : {m n : ℕ} {x y : ℤ} → Within m x → Within n y → m + n < 2 ^ hbits w → to_z w (of_z w (to_z w (of_z w x) +ℤ to_z w (of_z w y))) ≡ x +ℤ y
  sum_back {x = x} {y = y} W U h = to_z-of_z (sum_fits W U h) ∙ ap₂ ◌+ℤ◌ (back W (omega arith)) (back U (omega arith))
