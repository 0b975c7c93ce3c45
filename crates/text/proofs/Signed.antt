-- How long a whole number's text is.
use Prim.Native.Nat.{suc, ◌≤◌}
use native.Mathlib.Omega.{arith}
use lib.ListN.{length}
use lib.IntN.{ℤ, pos, negsuc}
use mir.Syntax.{w32}
use mir.Val.{to_z, of_z, SFits}
use mir.Facts.{to_z-of_z}
use Rattle.text.specs.Text.{signed_text}
use Rattle.text.proofs.Text.{length_decimal}

-- A sign and at most ten digits
pub length_signed : {n : ℤ} → SFits w32 n → length (signed_text n) ≤ 11
length_signed {n = pos n} h = omega (arith, length_decimal 9 n (omega (arith, h.sfits)))
length_signed {n = negsuc n} h = omega (arith, length_decimal 9 (suc n) (omega (arith, h.sfits)))

-- .. also as the machine reads it
pub length_read : {n : ℤ} → SFits w32 n → length (signed_text (to_z w32 (of_z w32 n))) ≤ 11
length_read h = rw (to_z-of_z h) (length_signed h)
