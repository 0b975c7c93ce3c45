-- Step records, and the answers of reading a step and a whole file.
use Rattle.std.specs.Prelude.{◌≡◌, List, [], map, Bool, ℕ, length, Result}
use Rattle.basis.specs.Limits.{most_brought, most_variables}
use Rattle.basis.specs.RuleNumbers.{rule_number}
use Rattle.lists.specs.Arrays.{exactly, held}
use Rattle.lists.specs.declared.Held.{Held}
use Rattle.calculus.specs.States.{Propagate, Decide, Conflict, Resolve, Factorize, Skip, Backtrack, Grow, Unknown}
use Rattle.calculus.specs.States as calculus
use Rattle.calculus.specs.Trails as trails
use Rattle.runfile.specs.Readers.{Got, Reader, ◌then◌, bad, give, got, times}
use Rattle.runfile.specs.File.{File, file, header, instance, rule, ruled, source, sources, step}
use Rattle.runfile.specs.Claims.{StepHeld}
use Rattle.basis.specs.declared.Refused.{Refused}
use Rattle.fields.specs.Views.{read_as}
use Rattle.header.specs.declared.Header.{Header}
use Rattle.header.specs.Records.{kept}
use Rattle.asking.specs.declared.Step.{Step}
use Rattle.asking.specs.Steps.{no_source, step_of}
use Rattle.asking.specs.declared.Source.{Source}
use Rattle.basis.specs.declared.Form.{Form}
use Rattle.steps.specs.declared.Outline.{Outline}

-- The record of a source
abbrev pub packed_source : trails.Source → Source
packed_source z = record { clause = z.clause; number = z.number; sign = z.sign; count = length z.instance; instance = exactly most_variables 0 z.instance }

-- A record with the arguments that a rule may have, and the atoms that it brings
abbrev pub step_record_with : (rule clause literal other sign amount : ℕ) → List ℕ → List trails.Source → Step
step_record_with r c l m g n τ zs = record { rule = r; clause = c; literal = l; other = m; sign = g; amount = n; count = length τ; brought = length zs; instance = exactly most_variables 0 τ; atoms = exactly most_brought no_source (map packed_source zs) }

-- .. which brings none
abbrev pub step_record : (rule clause literal other sign amount : ℕ) → List ℕ → Step
step_record r c l m g n τ = step_record_with r c l m g n τ []

-- The record of a step; what its rule has no use for is 0.
abbrev pub packed_step : calculus.Step → Step
packed_step (Propagate c l τ) = step_record 1 c l 0 0 0 τ
packed_step (Decide c l sign τ zs) = step_record_with 2 c l 0 sign 0 τ zs
packed_step (Conflict c τ) = step_record 3 c 0 0 0 0 τ
packed_step (Resolve l) = step_record 4 0 l 0 0 0 []
packed_step (Factorize l m) = step_record 5 0 l m 0 0 []
packed_step Skip = step_record 6 0 0 0 0 0 []
packed_step (Backtrack l) = step_record 7 0 l 0 0 0 []
packed_step (Grow n) = step_record 8 0 0 0 0 n []
packed_step (Unknown r) = step_record r 0 0 0 0 0 []

-- The blank step
abbrev pub blank_step : Step
blank_step = step_record 0 0 0 0 0 0 []

-- The record of a step without its atoms, which are counted
abbrev pub without_atoms : Step → Step
without_atoms x = record { rule = x.rule; clause = x.clause; literal = x.literal; other = x.other; sign = x.sign; amount = x.amount; count = x.count; brought = x.brought; instance = x.instance; atoms = blank_step.atoms }

-- .. that an outline tells
abbrev pub record_of : Outline → Step
record_of o = record { rule = rule_number o.rule; clause = o.clause; literal = o.literal; other = o.other; sign = o.sign; amount = o.amount; count = o.count; brought = o.brought; instance = o.instance; atoms = blank_step.atoms }

-- An outline that was read, seen by that record; it has one answer. Proved in proofs/Decisions.antt.
abbrev pub outline_read : Result (Outline × ℕ) (Refused ℕ) → Got Step
outline_read r = read_as record_of r

abbrev pub OutlineReadOnce : Type 0
OutlineReadOnce = (r s : Result (Outline × ℕ) (Refused ℕ)) (g : Got Step) → outline_read r ≡ g → outline_read s ≡ g → r ≡ s

-- An instance, with room for as many constants as one can have
abbrev pub constants : Reader (Held ℕ most_variables)
constants = instance then λ τ. give (held most_variables 0 τ)

-- The record of an atom that a Decide brings, and of all of them
abbrev pub source_record : Reader Source
source_record = source then λ z. give (packed_source z)

abbrev pub source_records : Form → Reader (Held Source most_brought)
source_records f = sources f then λ zs. give (held most_brought no_source (map packed_source zs))

-- n atoms that a Decide brings, of which nothing is kept but how many they are; and how many it brings
abbrev pub counted : ℕ → Reader ℕ
counted n = times n source then λ zs. give (length zs)

abbrev pub brought : Form → Reader ℕ
brought f = sources f then λ zs. give (length zs)

-- The arguments of a rule, but for the atoms of a Decide, which are counted
abbrev pub arguments : Form → (rule : ℕ) → Reader Step
arguments f r = ruled f r then λ x. give (without_atoms (packed_step x))

-- A step but for its atoms, which are counted
abbrev pub outline : Form → Reader Step
outline f = step f then λ x. give (without_atoms (packed_step x))

-- The arguments of a Decide, with its atoms
abbrev pub decided : Form → Reader Step
decided f = ruled f 2 then λ x. give (packed_step x)

-- A rule number, and what stands behind it read as the arguments of a Decide
abbrev pub decision : Form → Reader calculus.Step
decision f = rule then λ _. ruled f 2

-- The record of the step that was read; blank where none is
abbrev pub step_there : Got calculus.Step → Step
step_there (got x next) = packed_step x
step_there (bad n p) = blank_step

-- Where a Decide stands, this is the whole step. Proved in proofs/Decisions.antt.
abbrev pub DecisionWhole : Type 0
DecisionWhole = (f : Form) (s : List ℕ) (i : ℕ) → (step_there (step f s i)).rule ≡ 2 → step_there (decision f s i) ≡ step_there (step f s i)

-- n steps, of which nothing is kept
abbrev pub passed_over : ℕ → Form → Reader (Unit {0})
passed_over n f = times n (step f) then λ _. give tt

-- What was read before, if the whole file is in order
abbrev pub in_order : {A : Type 0} → Got File → Got A → Got A
in_order (got F next) h = h
in_order (bad n p) h = bad n p

-- The answer of reading a file: its header and the place of its first step, or the refusal
abbrev pub file_answer : List ℕ → Got Header
file_answer s = in_order (file s) (kept (header s 0))

-- The record of a step that a file can hold says that step.
abbrev pub StepSaid : Type 0
StepSaid = (brings : Bool) (x : calculus.Step) → StepHeld brings x → step_of (packed_step x) ≡ x
