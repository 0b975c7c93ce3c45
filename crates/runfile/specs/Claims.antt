-- What every file gives, that a file that is written is read back, and how much of a file has to be read. Proved in proofs/Given.antt,
-- proofs/Back.antt, proofs/Short.antt and proofs/Longest.antt.
use Rattle.std.specs.Prelude.{◌≡◌, ◌⊎◌, Bool, true, false, ℕ, ◌+◌, ◌≤◌, ◌<◌, length, take}
use mathlib.Core.List.{List, Memᴰ, []}
use Rattle.basis.specs.Limits.{most_variables, most_brought}
use Rattle.basis.specs.Refusals.{ends_inside, surplus, too_long}
use Rattle.basis.specs.Versions.{form_of}
use Rattle.basis.specs.declared.Version.TheVariants.{Two}
use Rattle.calculus.specs.Admission.{Admitted}
use Rattle.calculus.specs.States.{Step, Propagate, Decide, Conflict, Resolve, Factorize, Skip, Backtrack, Grow, Unknown}
use Rattle.calculus.specs.Trails.{Source}
use Rattle.runfile.specs.Readers.{Got, got, bad}
use Rattle.runfile.specs.File.{most_file, most_steps, File, file, opened}
use Rattle.runfile.specs.Written.{written}

-- What the file holds the atoms of a Decide to: at most 24, a sign of 0 or 1 each, an instance of at most 12 constants
pub record SourcesHeld (zs : List Source) : Type 0 where
  pub few : length zs ≤ most_brought
  pub signs : (z : Source) → Memᴰ z zs → z.sign ≤ 1
  pub instances : (z : Source) → Memᴰ z zs → length z.instance ≤ most_variables

-- .. and to none where decisions bring none
abbrev pub BroughtHeld : Bool → List Source → Type 0
BroughtHeld true zs = SourcesHeld zs
BroughtHeld false zs = zs ≡ []

-- What the file holds steps to: one of the eight rules, a Decide sign of 0 or 1, an instance of at most 12 constants, and the atoms brought
abbrev pub StepHeld : (brings : Bool) → Step → Type 0
StepHeld brings (Propagate c l τ) = length τ ≤ most_variables
StepHeld brings (Decide c l sign τ zs) = (sign ≤ 1) × (length τ ≤ most_variables) × BroughtHeld brings zs
StepHeld brings (Conflict c τ) = length τ ≤ most_variables
StepHeld brings (Resolve l) = Unit {0}
StepHeld brings (Factorize l m) = Unit {0}
StepHeld brings Skip = Unit {0}
StepHeld brings (Backtrack l) = Unit {0}
StepHeld brings (Grow n) = Unit {0}
StepHeld brings (Unknown rule) = ⊥

-- What a file can say: an admitted state, and at most 2,000 steps held to the above
pub record Sayable (F : File) : Type 0 where
  pub admitted : Admitted (opened F)
  pub few_steps : length F.steps ≤ most_steps
  pub steps_held : (x : Step) → Memᴰ x F.steps → StepHeld (form_of F.version).brings x

-- A refusal of a file: a number of the table from 1 to 8 or 22, and a place in the file or at its end
pub record Refusal (s : List ℕ) (number place : ℕ) : Type 0 where
  pub in_table : ((ends_inside ≤ number) × (number ≤ surplus)) ⊎ (number ≡ too_long)
  pub in_file : place ≤ length s

-- A file is read to its last byte and says an admitted state with its steps, or it is refused.
abbrev pub Outcome : List ℕ → Got File → Type 0
Outcome s (got F next) = Sayable F × (next ≡ length s)
Outcome s (bad number place) = Refusal s number place

-- For every sequence of bytes exactly one of the two, and which one with which values is settled, since `file` is a function.
abbrev pub EveryFile : Type 0
EveryFile = (s : List ℕ) → Outcome s (file s)

-- What can be said in 65,536 bytes is read back from what is written for it.
abbrev pub ReadBack : Type 0
ReadBack = (F : File) → Sayable F → length (written F) ≤ most_file → file (written F) ≡ got F (length (written F))

-- ---- how long a good file can be

-- "From version 2 on a valid file may have up to 65,536 bytes": none has more ..
abbrev pub GoodFilesShort : Type 0
GoodFilesShort = (s : List ℕ) (F : File) (next : ℕ) → file s ≡ got F next → length s ≤ most_file

-- .. and some good file of version 2 has all of them: no clauses and 163 Decides, each with 24 atoms and full instances.
abbrev pub LongestFile : Type 0
LongestFile = (s : List ℕ) × (F : File) × (F.version ≡ Two) × (file s ≡ got F most_file)

-- A file above 65,536 bytes is refused by 22 at place 65,536, whatever is in it.
abbrev pub LongFilesRefused : Type 0
LongFilesRefused = (s : List ℕ) → most_file < length s → file s ≡ bad too_long most_file

-- Nothing is lost by reading no further: a file, good or bad, is read as its first bytes are, where these are more than a good file can have. They
-- say the same, or are refused by the same number at the same place ..
abbrev pub FirstBytesTell : Type 0
FirstBytesTell = (N : ℕ) → most_file < N → (s : List ℕ) → file (take N s) ≡ file s

-- .. but not as its first 65,536: they may be a good file, and with those after them it is too long.
abbrev pub FewerDoNot : Type 0
FewerDoNot = ((s : List ℕ) → file (take most_file s) ≡ file s) → ⊥

-- "Of any file the program reads one byte more and no further": the constant `MOST_READ` of the programs.
abbrev pub most_read : ℕ
most_read = most_file + 1
