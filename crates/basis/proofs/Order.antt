-- The constants' order is strict.
use mathlib.Core.Path.{subst, sym}
use lib.IntN.{ℤ}
use lib.Signed.{◌<ℤ◌, <ℤ_irrefl}
use Rattle.basis.specs.Atoms.{ConstantsApart}

pub constants_apart : ConstantsApart
constants_apart n az P i a b e = <ℤ_irrefl (subst (λ (x : ℤ). P.value i <ℤ x) (sym e) (P.rising i a b))
