-- What the constraint test says of a rule's question.
use Rattle.std.specs.Prelude as std
use Rattle.std.specs.Option.{is_some}
use Rattle.rules.specs.Records.{Shown}
use Rattle.std.proofs.Common.{true≢false}
use mathlib.Core.Path.{ap, ◌∙◌, ◌≡◌, refl, subst, sym, transport}
use mathlib.Core.Logic.{◌↔◌}
use mathlib.Core.List.{List, ◌++◌}
use mathlib.Core.Bool.{true}
use Prim.Native.Nat.{◌+◌, ℕ}
use lib.Dec.{T}
use Rattle.basis.specs.Atoms.{Possible}
use Rattle.basis.specs.declared.Atom.{Atom}
use Rattle.basis.specs.Numbers.{whole}
use Rattle.rules.specs.Answers.{RunOf}
use Rattle.rules.specs.declared.Run.{Run}
use Rattle.calculus.specs.Checks.{between}
use Rattle.calculus.specs.Clauses.{ground_atoms}
use Rattle.calculus.specs.Handing.{tests}
use Rattle.calculus.specs.Rules.{question}
use Rattle.calculus.specs.Tests.{clause_exists}
use Rattle.calculus.specs.States.{State, Step, clause_at, clauses}
use Rattle.calculus.specs.Trails.{Trail, atoms_of}
use Rattle.clauses.specs.Records.{clause_of, packed}
use Rattle.clauses.specs.declared.Clause.{Clause}
use Rattle.rules.proofs.Naming.{named_says}
use Rattle.rules.proofs.Runs.{constants_is, fine, stored}
use Rattle.reaching.proofs.Handing.{HandsBy, hands_shown}
use Rattle.reaching.proofs.Reached.{AllProper}
use Rattle.testing.proofs.Gathering.{tested_says}
use Rattle.testing.specs.Asked.{Gathers, WitnessOf, tested_atoms}
use Rattle.testing.specs.declared.Tested.{Tested}
use Rattle.trail.specs.Entries.{trail_of}
use Rattle.calculus.specs.Clauses as calculus

-- The test is put the question of the step x, and takes its atoms: so its yes decides what is asked, and with it come the numbers that are handed on.
module _ {r : Run} {s : State} (R : RunOf r s) (x : Step) {az : List Atom} {b : Shown} (d : WitnessOf r.constants az b) (together : az ≡ question s x) where
  said : WitnessOf s.constants (question s x) b
  said = transport (λ i. WitnessOf (constants_is R i) (together i) b) d

  pub decides : AllProper s.constants (question s x) → T (is_some b) ↔ Possible whole s.constants (question s x)
  decides h = ((λ z. (said.says.0 z).1), λ P. said.says.1 (record { few_constants = (fine R).few_constants; proper = h }, P))

  pub hands : tests x ≡ true → is_some b ≡ true → HandsBy s x b
  hands t e = by b refl
    where
      by : (c : Shown) → b ≡ c → HandsBy s x b
      by std.None q = absurd (true≢false (sym e ∙ ap is_some q))
      by (std.Some numbers) q = subst (HandsBy s x) (sym q) (hands_shown s x t numbers (said.shown numbers q))

-- A clause is named and its instance fits; the facts the code has of the handed clause and the array carry over to the state.
module _ {r : Run} {s : State} (R : RunOf r s) (k : Clause) (c : ℕ) (looks : T (clause_exists (clauses s) c) → k ≡ packed (clause_at (clauses s) c)) (e : between 1 (r.input + r.learned) c ≡ true) where
  pub carry : (P : calculus.Clause → Trail → Type 0) → P (clause_of k) (trail_of r.trail r.length) → P (clause_at (clauses s) c) s.trail
  carry P h = subst (λ (D : calculus.Clause). P D s.trail) (named_says R k c looks e) (subst (λ (t : Trail). P (clause_of k) t) (stored R).says h)

  pub tested : (τ : List ℕ) (w : Tested) → Gathers w (atoms_of (trail_of r.trail r.length)) (ground_atoms τ (clause_of k).atoms)
      → tested_atoms w ≡ atoms_of s.trail ++ ground_atoms τ (clause_at (clauses s) c).atoms
  tested τ w G = tested_says G ∙ carry (λ D t. atoms_of (trail_of r.trail r.length) ++ ground_atoms τ (clause_of k).atoms ≡ atoms_of t ++ ground_atoms τ D.atoms) refl
