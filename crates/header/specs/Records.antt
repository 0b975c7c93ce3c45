-- The records of predicates and of a header.
use Rattle.std.specs.Prelude.{List, [], map, ℕ, Result, length}
use Rattle.std.proofs.lemmas.List.Edits.{sets}
use Rattle.basis.specs.Limits.{most_clauses, most_predicates}
use Rattle.basis.specs.declared.Refused.{Refused}
use Rattle.lists.specs.Arrays.{exactly, held}
use Rattle.calculus.specs.Clauses.{Clause, no_clause}
use Rattle.clauses.specs.Records.{packed}
use Rattle.clauses.specs.declared.Clause as records
use Rattle.runfile.specs.Readers.{Got, got, bad}
use Rattle.runfile.specs.File as runfile
use Rattle.fields.specs.Views.{read_as}
use Rattle.header.specs.declared.Header.{Header}

-- What was read, with the record of its value; a refusal stays.
abbrev pub seen : {A B : Type 0} → (A → B) → Got A → Got B
seen view (got x next) = got (view x) next
seen view (bad n p) = bad n p

-- The input clauses of a header that is read; none where it is refused
abbrev pub input_of : Got runfile.Header → List Clause
input_of (got h next) = h.input
input_of (bad n p) = []

-- The table of the input clauses, with room for the learned ones
abbrev pub packed_table : List Clause → List records.Clause
packed_table cs = exactly most_clauses (packed no_clause) (map packed cs)

-- A table after clauses were laid into it from its first slot on; one for which it has no slot is not kept.
abbrev pub laid : List records.Clause → List Clause → List records.Clause
laid table cs = sets table 0 (map packed cs)

-- The record of a header
abbrev pub packed_header : runfile.Header → Header
packed_header h = record {
  version = h.version;
  constants = h.constants;
  arities = held most_predicates 0 h.arities;
  input = length h.input;
  steps = h.count;
}

-- What is kept of a header that was read
abbrev pub kept : Got runfile.Header → Got Header
kept g = seen packed_header g

-- .. beside a table into which its clauses were laid
abbrev pub kept_beside : List records.Clause → Got runfile.Header → Got (Header × List records.Clause)
kept_beside table g = seen (λ h. (packed_header h, laid table h.input)) g

-- What a reader answers, beside the table as it leaves it
abbrev pub read_beside : {A : Type 0} → List records.Clause → Result (A × ℕ) (Refused ℕ) → Got (A × List records.Clause)
read_beside table r = read_as (λ x. (x, table)) r
