-- The most bytes that each line of a state has, from the paper's limits, and what the writer of a state promises.
use Rattle.std.specs.Prelude.{◌≡◌, List, ℕ, ◌+◌, ◌*◌}
use Rattle.basis.specs.Limits.{most_variables, most_entries, most_clauses}
use Rattle.calculus.specs.States.{State, clauses}
use Rattle.clauses.specs.Records.{clause_of}
use Rattle.clauses.specs.declared.Clause.{Clause}
use Rattle.trail.specs.Entries.{entry_of}
use Rattle.trail.specs.declared.Entry.{Entry}
use Rattle.rules.specs.Answers.{RunOf}
use Rattle.rules.specs.declared.Run.{Run}
use Rattle.state.specs.States.{packed_table}
use Rattle.clausetext.specs.Room.{most_number, most_tuple, most_atom, most_clause_text, Put}
use Rattle.inspection.specs.StateText.{entry_line, clause_line, state_text}

-- ---- how long a text can be

-- ` propagate ` is the longest.
abbrev pub most_rule : ℕ
most_rule = 11

-- ` propagate 255 255 (..)`
abbrev pub most_step : ℕ
most_step = most_rule + most_number + 1 + most_number + 1 + most_tuple most_variables

-- ` brought 255 255 255 (..)`
abbrev pub most_source : ℕ
most_source = 9 + most_number + 1 + most_number + 1 + most_number + 1 + most_tuple most_variables

-- A literal with its step is shorter than an atom with its source.
abbrev pub most_entry : ℕ
most_entry = most_atom + most_source

-- `trail 255 ..` and the end of the line
abbrev pub most_entry_line : ℕ
most_entry_line = 6 + most_number + 1 + most_entry + 1

-- `clause 255 ..` and the end of the line
abbrev pub most_clause_line : ℕ
most_clause_line = 7 + most_number + 1 + most_clause_text + 1

-- `constants 255 level 255` and the end of the line
abbrev pub most_first_line : ℕ
most_first_line = 10 + most_number + 7 + most_number + 1

-- The conflict's text, then ` at (..)`
abbrev pub most_conflict : ℕ
most_conflict = most_clause_text + 4 + most_tuple most_variables

-- `conflict ..` and the end of the line
abbrev pub most_conflict_line : ℕ
most_conflict_line = 9 + most_conflict + 1

-- No state's text is longer.
abbrev pub most_state : ℕ
most_state = most_first_line + most_entries * most_entry_line + most_clauses * most_clause_line + most_conflict_line

-- ---- what is promised

-- The line of the entry that j others come before, of its record
abbrev pub entry_line_of : ℕ → Entry → List ℕ
entry_line_of j e = entry_line (j + 1) (entry_of e)

-- The line of the clause that j others come before, of its record
abbrev pub clause_line_of : ℕ → Clause → List ℕ
clause_line_of j c = clause_line (j + 1) (clause_of c)

-- The run and the table beside it are the records of the state s, and s was reached.
pub record Recorded (run : Run) (table : List Clause) (s : State) : Type 0 where
  pub run_of : RunOf run s
  pub table_is : table ≡ packed_table (clauses s)

-- Taken for granted of a run and a table: they are of one state reached.
abbrev pub Beside : Run → List Clause → Type 0
Beside run table = (s : State) × Recorded run table s

-- What `put_state` promises: that state's text.
abbrev pub PutsState : Run → List Clause → (before : List ℕ) (at : ℕ) (after : List ℕ) (next : ℕ) → Type 0
PutsState run table d i d' r = (s : State) → Recorded run table s → Put most_state d i (state_text s) d' r

-- The bytes and the next place are unique. Proved in proofs/States.antt.
abbrev pub ShownOnce : Type 0
ShownOnce = (run : Run) (table : List Clause) (d : List ℕ) (i : ℕ) (d₁ d₂ : List ℕ) (r₁ r₂ : ℕ) → Beside run table → PutsState run table d i d₁ r₁ → PutsState run table d i d₂ r₂ → (d₁ ≡ d₂) × (r₁ ≡ r₂)
