-- States and proposed steps. The paper's section "The rules", first paragraph.
use Rattle.std.specs.Prelude.{List, ◌++◌, Bool, true, false, ℕ, ◌-◌, get_or}
use Rattle.std.proofs.Math.Option.{Option, none, some}
use Rattle.basis.specs.declared.Version.{Version}
use Rattle.calculus.specs.Clauses.{Clause, Instanced, no_clause, no_instanced}
use Rattle.calculus.specs.Trails.{Source, Trail}

-- "A state is predicates with arities, trail, input clauses, learned clauses, constants, level k, and a conflict (clause with instance)
-- or none." Predicate n has the nth arity. A state knows its version.
pub record State : Type 0 where
  pub version : Version
  pub arities : List ℕ
  pub trail : Trail
  pub input : List Clause
  pub learned : List Clause
  pub constants : ℕ
  pub level : ℕ
  pub conflict : Option Instanced

-- One proposed step: a rule with its arguments in the paper's order, or a rule number that is none of the eight. A Decide ends with the atoms
-- that it brings.
pub data Step : Type 0 where
  Propagate : (clause literal : ℕ) (instance : List ℕ) → Step
  Decide : (clause literal sign : ℕ) (instance : List ℕ) (atoms : List Source) → Step
  Conflict : (clause : ℕ) (instance : List ℕ) → Step
  Resolve : (literal : ℕ) → Step
  Factorize : (literal other : ℕ) → Step
  Skip : Step
  Backtrack : (literal : ℕ) → Step
  Grow : (count : ℕ) → Step
  Unknown : (rule : ℕ) → Step

-- "Numbers start at 1; learned clauses are numbered after the input ones."
abbrev pub clauses : State → List Clause
clauses s = s.input ++ s.learned

abbrev pub clause_at : List Clause → ℕ → Clause
clause_at cs c = get_or cs (c - 1) no_clause

abbrev pub stands : Option Instanced → Bool
stands none = false
stands (some N) = true

abbrev pub conflict_of : Option Instanced → Instanced
conflict_of none = no_instanced
conflict_of (some N) = N

-- The state with another trail, level and conflict
abbrev pub updated : State → Trail → ℕ → Option Instanced → State
updated s t k c = record { version = s.version; arities = s.arities; trail = t; input = s.input; learned = s.learned; constants = s.constants; level = k; conflict = c }
