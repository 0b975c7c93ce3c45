-- Clause records offered from outside: how they are read, and what admission answers.
use Rattle.std.specs.Prelude.{◌≡◌, List, map, cond, ℕ, Result, Ok, Err, eqb, ltb, length, take}
use Rattle.basis.specs.declared.Literal.{Literal}
use Rattle.basis.specs.declared.Refusal.{Refusal}
use Rattle.basis.specs.declared.Refused as basis
use Rattle.basis.specs.Limits.{most_input}
use Rattle.basis.specs.Refusals.{accepted, number_of}
use Rattle.basis.specs.Atoms.{no_atom}
use Rattle.lists.specs.Arrays.{exactly}
use Rattle.calculus.specs.Class.{arity_of, clause_refusal}
use Rattle.calculus.specs.Admission.{Refused, admission_refusal}
use Rattle.clauses.specs.declared.Clause.{Clause}
use Rattle.clauses.specs.Records.{clause_of, packed}
use Rattle.calculus.specs.Clauses as calculus

-- ---- how records are read: a count above an array's length is kept as it is, and refused for that

-- Arguments past the predicate's arity are not looked at.
abbrev pub cleaned : List ℕ → Literal → Literal
cleaned arities l =
    let n = arity_of arities l.predicate in
    record { positive = l.positive; predicate = l.predicate; x = cond (ltb 0 n) l.x 0; y = cond (ltb 1 n) l.y 0; z = cond (ltb 2 n) l.z 0 }

abbrev pub offered : List ℕ → Clause → calculus.Clause
offered arities c = record {
  variables = c.variables;
  atoms = exactly c.atomcount no_atom c.atoms;
  literals = map (cleaned arities) (exactly c.literalcount calculus.no_literal c.literals);
}

abbrev pub offered_table : List ℕ → List Clause → List calculus.Clause
offered_table arities cs = map (offered arities) cs

-- ---- what is answered

-- A refusal of the code by its number; and with its place
abbrev pub told : {A : Type 0} → Result A Refusal → Result A ℕ
told (Ok x) = Ok x
told (Err r) = Err (number_of r)

abbrev pub told_at : {A : Type 0} → Result A (basis.Refused ℕ) → Result A Refused
told_at (Ok x) = Ok x
told_at (Err r) = Err (record { number = number_of r.refusal; place = r.place })

-- What is told has one answer. Proved in proofs/Once.antt.
abbrev pub ToldOnce : Type 1
ToldOnce = (A : Type 0) (r s : Result A Refusal) (a : Result A ℕ) → told r ≡ a → told s ≡ a → r ≡ s

abbrev pub ToldAtOnce : Type 1
ToldAtOnce = (A : Type 0) (r s : Result A (basis.Refused ℕ)) (a : Result A Refused) → told_at r ≡ a → told_at s ≡ a → r ≡ s

-- What is handed back where the number is that of no refusal, else the number
abbrev pub handed : {A : Type 0} → A → ℕ → Result A ℕ
handed x n = cond (eqb n accepted) (Ok x) (Err n)

-- A clause that is accepted is handed back as it was read.
unfoldable pub clause_answer : List ℕ → Clause → Result Clause ℕ
clause_answer arities c = let C = offered arities c in handed (packed C) (clause_refusal arities C)

-- A table of the first clauses, blank past them
abbrev pub packed_input : List calculus.Clause → List Clause
packed_input cs = exactly most_input (packed calculus.no_clause) (map packed cs)

-- Where there is no refusal the table as it was read
unfoldable pub answered : Refused → List calculus.Clause → Result (List Clause) Refused
answered r cs = cond (eqb r.number accepted) (Ok (packed_input cs)) (Err r)

abbrev pub table_answer : ℕ → List ℕ → List calculus.Clause → Result (List Clause) Refused
table_answer constants arities cs = answered (admission_refusal constants arities cs) cs

-- ---- what is handed back says what was read: proved in proofs/Says.antt

abbrev pub ClauseSays : Type 0
ClauseSays = (arities : List ℕ) (c d : Clause) → clause_answer arities c ≡ Ok d → clause_of d ≡ offered arities c

abbrev pub TableSays : Type 0
TableSays =
    (constants : ℕ) (arities : List ℕ) (cs : List calculus.Clause) (table : List Clause) → table_answer constants arities cs ≡ Ok table
    → map clause_of (take (length cs) table) ≡ cs
