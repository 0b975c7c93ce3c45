-- What a clause record says, and the record of a clause.
use Rattle.std.specs.Prelude.{Bool, ◌&&◌, ◌≤◌, leb, length, take}
use Rattle.basis.specs.Limits.{most_variables, most_atoms, most_literals}
use Rattle.basis.specs.Atoms.{no_atom}
use Rattle.lists.specs.Arrays.{exactly}
use Rattle.clauses.specs.declared.Clause.{Clause}
use Rattle.clauses.specs.declared.Instanced.{Instanced}
use Rattle.calculus.specs.Clauses as calculus

-- The clause of a record: its first atoms and literals, as many as are counted
abbrev pub clause_of : Clause → calculus.Clause
clause_of c = record { variables = c.variables; atoms = take c.atomcount c.atoms; literals = take c.literalcount c.literals }

-- .. with the first constants of its instance, one for each variable
abbrev pub instanced_of : Instanced → calculus.Instanced
instanced_of n = record { clause = clause_of n.clause; instance = take n.clause.variables n.instance }

-- The record of a clause; the slots past a count are blank.
abbrev pub packed : calculus.Clause → Clause
packed C = record {
  variables = C.variables;
  atomcount = length C.atoms;
  literalcount = length C.literals;
  atoms = exactly most_atoms no_atom C.atoms;
  literals = exactly most_literals calculus.no_literal C.literals;
}

abbrev pub packed_instanced : calculus.Instanced → Instanced
packed_instanced N = record { clause = packed N.clause; instance = exactly most_variables 0 N.instance }

-- A record's counts are within the limits. Those of every record that admission or merging gives are.
abbrev pub counted : Clause → Bool
counted c = leb c.variables most_variables && (leb c.atomcount most_atoms && leb c.literalcount most_literals)

-- The same as facts
pub record Counted (c : Clause) : Type 0 where
  pub few_variables : c.variables ≤ most_variables
  pub few_atoms : c.atomcount ≤ most_atoms
  pub few_literals : c.literalcount ≤ most_literals
