-- The atoms are those of the slices, and the answer is unique, so the number is and what is noted.
use Rattle.std.proofs.Common.{◌≡◌, sym, ap, ◌∙◌, subst, List, ℕ, ℤ, Option, Result, arith}
use lib.Seq.{ext_get_or}
use Rattle.basis.specs.declared.Atom.{Atom}
use Rattle.basis.specs.declared.Refused.{Refused}
use Rattle.basis.specs.Atoms.{no_atom}
use Rattle.constraint.specs.Test.{Says}
use Rattle.constraint.proofs.Unique as constraint
use Rattle.constraint_export.specs.Export.{Gathered, Found, code, with_numbers, TellsOnce, TellsNumbersOnce}

same_atoms : {count : ℕ} {places : List ℕ} {bounds : List ℤ} {a b : List Atom} → Gathered count places bounds a → Gathered count places bounds b → a ≡ b
same_atoms {a = a} {b = b} G H = ext_get_or no_atom a b (G.long ∙ sym H.long) (λ k h. G.each k (omega (arith, G.long)) ∙ sym (H.each k (omega (arith, G.long))))

found_once : {constants count : ℕ} {places : List ℕ} {bounds : List ℤ} {f g : Result (Option (List ℤ)) (Refused ℕ)} → Found constants count places bounds f → Found constants count places bounds g → f ≡ g
found_once {constants} {f = f} {g = g} F G = constraint.unique constants G.atoms f g (subst (λ (l : List Atom). Says constants l f) (same_atoms F.gathered G.gathered) F.says) G.says

pub tells_once : TellsOnce
tells_once constants count places bounds r s R S = R.2 ∙ ap code (found_once R.1 S.1) ∙ sym S.2

pub tells_numbers_once : TellsNumbersOnce
tells_numbers_once constants count places bounds l l₁ l₂ r₁ r₂ R S = (
  R.2 ∙ ap code (found_once R.1 S.1) ∙ sym S.2,
  R.3 ∙ ap (λ (f : Result (Option (List ℤ)) (Refused ℕ)). with_numbers constants f l) (found_once R.1 S.1) ∙ sym S.3,
)
