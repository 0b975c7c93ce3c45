-- What the number of a table says, and that it fits 32 bits.
use mathlib.Core.Path.{◌≡◌, refl, sym, subst, subst₂}
use mathlib.Core.Logic.{inl, inr}
use mathlib.Core.List.{List}
use Prim.Native.Nat.{ℕ, zero, suc, ◌/◌, ◌%◌, ◌<◌}
use native.Mathlib.Omega.{arith}
use lib.IntN.{ℤ}
use Rattle.lookup.specs.declared.Match.{Match}
use Rattle.lookup.specs.declared.Match.TheVariants.{Approximate}
use Rattle.std.specs.Prelude.{Result, Ok, Err}
use Rattle.basis.specs.Refusals.{number_of}
use Rattle.basis.specs.declared.Refused.{Refused}
use Rattle.lookup.specs.Making.{Makes}
use Rattle.lookup.proofs.Making.{made_short, refused_by_three}
use Rattle.drf.specs.Export.{CodeTells, match_of, table_code}

pub other_than_zero : (a : ℕ) → ¬ (a ≡ 0) → match_of a ≡ Approximate
other_than_zero zero h = absurd (h refl)
other_than_zero (suc n) h = refl

pub code_fits : (keys results : List ℤ) (m : Match) (d d' : List ℕ) (made : Result ℕ (Refused ℕ)) → Makes keys results m d d' made → table_code made < 65536
code_fits keys results m d d' (Ok n) h = omega (arith, made_short keys results m d d' n h)
code_fits keys results m d d' (Err r) h = omega (arith, refused_by_three keys results m d d' r h, h.1)

pub code_tells : CodeTells
code_tells keys results a d d' r (Ok n, h, e) = inl (omega (arith, made_short keys results (match_of a) d d' n h), subst (λ (k : ℕ). Makes keys results (match_of a) d d' (Ok k)) (sym e) h)
code_tells keys results a d d' r (Err q, h, e) =
    let few = refused_by_three keys results (match_of a) d d' q h in
    inr (omega (arith, few), q, omega (arith, h.1), omega (arith, h.1), h)
