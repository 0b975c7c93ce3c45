-- The constraint test known by its promise: yes exactly if the atoms are such as it takes, and possible, and with a yes the numbers behind it.
use Rattle.std.proofs.Common.{unwrap_or, true≢false}
use Rattle.std.specs.Option.{is_some}
use mathlib.Core.Path.{ap, ◌≡◌, refl, subst, sym}
use mathlib.Core.List.{List}
use Prim.Native.Nat.{◌≤◌, ℕ}
use lib.IntN.{ℤ}
use lib.ListN.{length, length-take}
use native.Mathlib.Omega.{arith}
use Rattle.std.specs.Prelude.{Option, Some, None, Result, Ok, Err}
use Rattle.basis.specs.Atoms.{InTest, Proper, no_atom}
use Rattle.basis.specs.Limits.{most_tested}
use Rattle.basis.specs.declared.Atom.{Atom}
use Rattle.basis.specs.declared.Refused.{Refused}
use Rattle.lists.proofs.Members.{get_d_mem}
use Rattle.constraint.specs.Test.{NumbersIn, Refusal, Says, atom_at}
use Rattle.constraint.proofs.Numbers.{of_members}
use Rattle.constraint.proofs.Unique.{same_numbers}
use Rattle.testing.specs.Asked.{Testable, WitnessOf, WitnessOnce, tested_atoms}
use Rattle.testing.specs.declared.Tested.{Tested}

-- What is refused is not testable.
refused_not : (n : ℕ) (atoms : List Atom) (r : Refused ℕ) → length atoms ≤ most_tested → Refusal n atoms r → ¬ Testable n atoms
refused_not n atoms r few (Refusal.too_many f) t = f (record { few_constants = t.few_constants; few_atoms = few })
refused_not n atoms r few (Refusal.improper k C i f g) t = g (t.proper (atom_at atoms k) (get_d_mem atoms k no_atom i))

some_same : {a b : List ℤ} → Some a ≡ Some b → a ≡ b
some_same {a} e = ap (λ (o : Option (List ℤ)). unwrap_or o a) e

none_some : {a : List ℤ} {P : Type 0} → None ≡ Some a → P
none_some e = absurd (true≢false (sym (ap is_some e)))

-- Numbers come with a yes alone.
abbrev pub witness_of : Result (Option (List ℤ)) (Refused ℕ) → Option (List ℤ)
witness_of (Ok w) = w
witness_of (Err r) = None

-- Of no more atoms than there is room for
pub answer_witnesses : (n : ℕ) (atoms : List Atom) → length atoms ≤ most_tested → (r : Result (Option (List ℤ)) (Refused ℕ)) → Says n atoms r → WitnessOf n atoms (witness_of r)
answer_witnesses n atoms few (Ok (Some slots)) s = record {
  says = ((λ u. (record { few_constants = s.0.few_enough.few_constants; proper = of_members (Proper InTest n) atoms s.0.proper }, s.1)), λ h. tt);
  shown = λ numbers e. subst (NumbersIn n atoms) (some_same e) s.2;
}
answer_witnesses n atoms few (Ok None) s = record { says = ((λ u. absurd u), λ h. s.1 h.1); shown = λ numbers e. none_some e }
answer_witnesses n atoms few (Err r) s = record { says = ((λ u. absurd u), λ h. refused_not n atoms r few s h.0); shown = λ numbers e. none_some e }

-- Of a record's atoms
pub answered : (n : ℕ) (t : Tested) → length t.atoms ≡ most_tested → (r : Result (Option (List ℤ)) (Refused ℕ)) → Says n (tested_atoms t) r → WitnessOf n (tested_atoms t) (witness_of r)
answered n t long r s = answer_witnesses n (tested_atoms t) (omega (arith, length-take t.count t.atoms)) r s

pub witness_once : WitnessOnce
witness_once n atoms None None f g = refl
witness_once n atoms None (Some b) f g = absurd (f.says.1 (g.says.0 tt))
witness_once n atoms (Some a) None f g = absurd (g.says.1 (f.says.0 tt))
witness_once n atoms (Some a) (Some b) f g = ap Some (same_numbers n atoms a b (f.shown a refl) (g.shown b refl))
