-- A state as text for reviewers: a line each for its constants and level, for every trail entry, every clause and the conflict. One space
-- parts the fields, no line ends in a space, and numbers are the paper's.
use Rattle.std.specs.Prelude.{List, ◌++◌, reverse, ℕ}
use Rattle.std.proofs.Math.Option.{Option, none, some}
use Rattle.calculus.specs.Clauses.{Clause, Instanced}
use Rattle.calculus.specs.States.{State, clauses}
use Rattle.calculus.specs.Trails.{Entry, Source, foreground, background, propagated, decided}
use Rattle.text.specs.Text.{bytes, decimal}
use Rattle.clausetext.specs.ClauseText.{in_turn, tuple_text, atom_text, literal_text, clause_text}

-- ---- the trail

-- "A foreground entry keeps its step": after the rule's name the clause, the literal and the instance, as `3 2 (1,2,1)`
unfoldable pub step_text : (name : List ℕ) (clause literal : ℕ) (instance : List ℕ) → List ℕ
step_text w c n τ = w ++ decimal c ++ bytes " " ++ decimal n ++ bytes " " ++ tuple_text τ

-- The source of an atom that a decision brought: clause, atom number, sign and instance, as ` brought 2 1 0 (1)`
unfoldable pub source_text : Source → List ℕ
source_text z = bytes " brought " ++ decimal z.clause ++ bytes " " ++ decimal z.number ++ bytes " " ++ decimal z.sign ++ bytes " " ++ tuple_text z.instance

-- An entry, as `P1(1,2) propagate 3 2 (1,2,1)`, `~P1(1) decide 1 1 (1)`, `1-2<=-4` or `1-0<=5 brought 2 1 1 (1)`. Decide's sign is the literal's.
abbrev pub entry_text : Entry → List ℕ
entry_text (foreground l (propagated c n τ)) = literal_text l ++ step_text (bytes " propagate ") c n τ
entry_text (foreground l (decided c n b τ k)) = literal_text l ++ step_text (bytes " decide ") c n τ
entry_text (background a none) = atom_text a
entry_text (background a (some z)) = atom_text a ++ source_text z

-- The line of the trail's entry number n
unfoldable pub entry_line : ℕ → Entry → List ℕ
entry_line n e = bytes "trail " ++ decimal n ++ bytes " " ++ entry_text e ++ bytes "\n"

-- ---- the table

-- The line of clause number n
unfoldable pub clause_line : ℕ → Clause → List ℕ
clause_line n C = bytes "clause " ++ decimal n ++ bytes " " ++ clause_text C ++ bytes "\n"

-- ---- the state

-- A conflict is a clause with its instance, as `1 [1-0<=10] at (1)`.
unfoldable pub conflict_text : Option Instanced → List ℕ
conflict_text none = bytes "none"
conflict_text (some N) = clause_text N.clause ++ bytes " at " ++ tuple_text N.instance

-- The first line
unfoldable pub first_line : (constants level : ℕ) → List ℕ
first_line n k = bytes "constants " ++ decimal n ++ bytes " level " ++ decimal k ++ bytes "\n"

-- The last line
unfoldable pub conflict_line : Option Instanced → List ℕ
conflict_line N = bytes "conflict " ++ conflict_text N ++ bytes "\n"

-- The whole state: a trail has its last entry first, and "learned clauses are numbered after the input ones".
unfoldable pub state_text : State → List ℕ
state_text s = first_line s.constants s.level ++ in_turn 1 entry_line (reverse s.trail) ++ in_turn 1 clause_line (clauses s) ++ conflict_line s.conflict
