-- That the tests of Class.antt and Admission.antt judge as the paper says. Proved in proofs/Admitting.antt.
use Rattle.std.specs.Prelude.{◌≡◌, ◌↔◌, ◌<◌, ◌≤◌, zero, ℕ, length}
use mathlib.Core.List.{List, Memᴰ}
use Rattle.basis.specs.Atoms.{InRange, Proper}
use Rattle.basis.specs.Limits.{most_arguments, most_constants, most_input, most_predicates}
use Rattle.basis.specs.Refusals.{above_limit, accepted, lacks_bound, occurs_nowhere, out_of_range}
use Rattle.basis.specs.declared.Atom.{Atom}
use Rattle.basis.specs.declared.Literal.{Literal}
use Rattle.basis.specs.declared.Version.{Version}
use Rattle.calculus.specs.Admission.{Admitted, Refused, admission_refusal, fresh}
use Rattle.calculus.specs.Class.{DifferencesBounded, InClass, Limited, Occurs, ProperLiteral, clause_refusal}
use Rattle.calculus.specs.Clauses.{Clause}
use Rattle.calculus.specs.Conditions.{Names}
use Rattle.calculus.specs.States.{clause_at}

-- ---- a clause

-- Every number in the clause is in its range.
pub record FieldsInRange (arities : List ℕ) (C : Clause) : Type 0 where
  pub atoms_proper : (a : Atom) → Memᴰ a C.atoms → Proper InRange C.variables a
  pub literals_proper : (l : Literal) → Memᴰ l C.literals → ProperLiteral arities C.variables l

-- "Each variable occurs in an atom or literal."
abbrev pub EachOccurs : Clause → Type 0
EachOccurs C = (x : ℕ) → 1 ≤ x → x ≤ C.variables → Occurs C x

-- The refusal of a clause: the first of 3, 4, 5 and 6 that applies, or 0.
pub data ClauseJudged (arities : List ℕ) (C : Clause) (n : ℕ) : Type 0 where
  -- 3: "a count .. above its limit"
  by_above_limit : n ≡ above_limit → ¬ Limited C → ClauseJudged arities C n
  -- 4: "a clause number, sign or constant c out of its range, or both places 0"
  by_out_of_range : n ≡ out_of_range → Limited C → ¬ FieldsInRange arities C → ClauseJudged arities C n
  -- 5: "a clause variable occurs nowhere"
  by_occurs_nowhere : n ≡ occurs_nowhere → Limited C → FieldsInRange arities C → ¬ EachOccurs C → ClauseJudged arities C n
  -- 6: "a variable in a difference lacks a bound"
  by_lacks_bound : n ≡ lacks_bound → Limited C → FieldsInRange arities C → EachOccurs C → ¬ DifferencesBounded C.atoms → ClauseJudged arities C n
  fine : n ≡ accepted → Limited C → InClass arities C → ClauseJudged arities C n

abbrev pub ClauseRefusedRightly : Type 0
ClauseRefusedRightly = (arities : List ℕ) (C : Clause) → ClauseJudged arities C (clause_refusal arities C)

-- A clause is accepted exactly if it is of the class and within its limits.
abbrev pub ClauseAcceptedExactly : Type 0
ClauseAcceptedExactly = (arities : List ℕ) (C : Clause) → (clause_refusal arities C ≡ accepted) ↔ (InClass arities C × Limited C)

-- ---- the whole input

-- "At most 48 input .. clauses, 8 predicates of arity 0 to 3, 16 constants."
pub record CountsFit (constants : ℕ) (arities : List ℕ) (cs : List Clause) : Type 0 where
  pub few_constants : constants ≤ most_constants
  pub few_predicates : length arities ≤ most_predicates
  pub small_arities : (n : ℕ) → Memᴰ n arities → n ≤ most_arguments
  pub few_clauses : length cs ≤ most_input

-- "The place is then the number of the first bad clause, or 0 .. for counts and arities, which are judged first."
pub data AdmissionJudged (constants : ℕ) (arities : List ℕ) (cs : List Clause) (r : Refused) : Type 0 where
  counts : r ≡ record { number = above_limit; place = zero } → ¬ CountsFit constants arities cs → AdmissionJudged constants arities cs r
  bad_clause : (k : ℕ) → r ≡ record { number = clause_refusal arities (clause_at cs k); place = k } → CountsFit constants arities cs → Names cs k
      → ¬ (clause_refusal arities (clause_at cs k) ≡ accepted)
      → ((j : ℕ) → 1 ≤ j → j < k → clause_refusal arities (clause_at cs j) ≡ accepted)
      → AdmissionJudged constants arities cs r
  admitted : r ≡ record { number = accepted; place = zero } → ((version : Version) → Admitted (fresh version constants arities cs)) → AdmissionJudged constants arities cs r

abbrev pub AdmissionRefusedRightly : Type 0
AdmissionRefusedRightly = (constants : ℕ) (arities : List ℕ) (cs : List Clause) → AdmissionJudged constants arities cs (admission_refusal constants arities cs)

-- A state is made exactly if it is admitted, whatever the version.
abbrev pub AdmittedExactly : Type 0
AdmittedExactly = (version : Version) (constants : ℕ) (arities : List ℕ) (cs : List Clause) →
    ((admission_refusal constants arities cs).number ≡ accepted) ↔ Admitted (fresh version constants arities cs)
