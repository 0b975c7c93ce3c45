-- Numbers within the range as the machine has them: negated, and one below.
use mathlib.Core.Path.{◌≡◌, ap, ◌∙◌, subst⁻¹}
use native.Mathlib.Omega.{arith}
use lib.IntN.{ℤ, pos, negsuc, neg_ℤ, ◌-ℤ◌}
use mir.Syntax.{w32}
use mir.Val.{to_z, of_z, SFits}
use mir.Facts.{to_z-of_z}
use Rattle.basis.specs.Limits.{most_c}
use Rattle.basis.specs.Atoms.{InRange}
use Rattle.integers.specs.Sides.{Within}
use Rattle.integers.proofs.Linear.{le→, →eq, negated, sum}
use Rattle.integers.proofs.Machine.{fits_of}
use Rattle.integers.proofs.Order.{within_sum}

within : {n : ℤ} → InRange n → Within most_c n
within h = record { above = omega (arith, le→ h.high); below = omega (arith, le→ h.low) }

minus_one : Within 1 (negsuc 0)
minus_one = record { above = omega arith; below = omega arith }

-- x is what the machine reads of n.
module _ {n x : ℤ} (h : InRange n) (e : x ≡ n) where
  within_negated : Within most_c (pos 0 -ℤ n)
  within_negated = record { above = omega (arith, sum (pos 0) (neg_ℤ n), negated n, within h); below = omega (arith, sum (pos 0) (neg_ℤ n), negated n, within h) }

  pub negated_fits : SFits w32 (pos 0 -ℤ x)
  negated_fits = subst⁻¹ (λ (z : ℤ). SFits w32 (pos 0 -ℤ z)) e (fits_of w32 within_negated (omega arith))

  pub negated_read : to_z w32 (of_z w32 (pos 0 -ℤ x)) ≡ neg_ℤ n
  negated_read = to_z-of_z negated_fits ∙ ap (λ (z : ℤ). pos 0 -ℤ z) e ∙ →eq (pos 0 -ℤ n) (neg_ℤ n) (omega (arith, sum (pos 0) (neg_ℤ n)))

  pub one_less_fits : SFits w32 (x -ℤ pos 1)
  one_less_fits = subst⁻¹ (λ (z : ℤ). SFits w32 (z -ℤ pos 1)) e (fits_of w32 (within_sum (within h) minus_one) (omega arith))

  pub one_less_read : to_z w32 (of_z w32 (x -ℤ pos 1)) ≡ n -ℤ pos 1
  one_less_read = to_z-of_z one_less_fits ∙ ap (λ (z : ℤ). z -ℤ pos 1) e
