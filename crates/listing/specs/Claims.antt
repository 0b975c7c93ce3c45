-- What holds of listings: every file has exactly one, and it is that of its first bytes; `refuted` shows that the clauses have no model. What
-- holds of every judge is stated of every judge; the rules over the whole numbers are one. Proved in proofs/.
use Rattle.std.specs.Prelude.{◌≡◌, ◌↔◌, ℕ, ◌<◌, ◌≤◌, length, take}
use mathlib.Core.List.{List, ◌++◌, flat_map}
use Rattle.basis.specs.Limits.{most_entries}
use Rattle.basis.specs.Numbers.{Numbers, whole}
use Rattle.basis.specs.Refusals.{accepted, no_room}
use Rattle.calculus.specs.Sound.{SoundJudge}
use Rattle.calculus.specs.Rules.{Answer, Reply}
use Rattle.calculus.specs.Runs.{AnswersAll, AnswersOnce, Judge, Reached, plain}
use Rattle.calculus.specs.States.{Step}
use Rattle.calculus.specs.Truth.{NoModel}
use Rattle.runfile.specs.Readers.{got}
use Rattle.runfile.specs.File.{File, file}
use Rattle.runfile.specs.Claims.{most_read}
use Rattle.text.specs.Text.{bytes}
use Rattle.listing.specs.Lines.{last_line}
use Rattle.listing.specs.Listing.{Beneath, Ends, Printed, Tried, TriedWith, most_listing, nothing}

-- ---- of every judge

-- Some text stands beneath every accepted step's line, where the step was tried at a place that was reached ..
abbrev pub BeneathAll : (J : Judge) → Beneath J → Type 0
BeneathAll J B = (o : J.Over) → Reached J o → (x : Step) (a : Reply J.Over) → J.Gives o x a → a.number ≡ accepted → (u : List ℕ) × B o x u

-- .. and one only.
abbrev pub BeneathOnce : (J : Judge) → Beneath J → Type 0
BeneathOnce J B = (o : J.Over) (x : Step) (u v : List ℕ) → B o x u → B o x v → u ≡ v

-- A judge that answers all steps prints something of every file, whatever is printed beneath the steps' lines and after them ..
abbrev pub EveryFileListed : Type 1
EveryFileListed = (J : Judge) → AnswersAll J → (B : Beneath J) → BeneathAll J B → (after : Answer → List ℕ) (s : List ℕ) → (w : List ℕ) × Printed J B after s w

-- .. and one that answers no step in two ways prints only one text of it.
abbrev pub PrintedOnce : Type 1
PrintedOnce = (J : Judge) → AnswersOnce J → (B : Beneath J) → BeneathOnce J B → (after : Answer → List ℕ) (s v w : List ℕ) → Printed J B after s v → Printed J B after s w → v ≡ w

-- What stands beneath the lines changes nothing else: line by line the text is the listing's with something beneath, and the same steps are tried
-- and answered alike.
abbrev pub TriedAlike : Type 1
TriedAlike = (J : Judge) (B : Beneath J) (o : J.Over) (n : ℕ) (xs : List Step) (w : List ℕ) (e : Reply J.Over) → TriedWith J B o n xs w e
    → (lines : List (List ℕ × List ℕ)) × (w ≡ flat_map (λ l. l.0 ++ l.1) lines) × Tried J o n xs (flat_map (λ l. l.0) lines) e

-- It ends in one way.
abbrev pub EndsOnce : Type 1
EndsOnce = (J : Judge) → AnswersOnce J → (s : List ℕ) (n p m q : ℕ) → Ends J s n p → Ends J s m q → (n ≡ m) × (p ≡ q)

-- Reading no more than `most_read` bytes loses nothing: a file prints what its first bytes print, and ends as they do.
abbrev pub FirstBytesPrinted : Type 1
FirstBytesPrinted = (J : Judge) (B : Beneath J) (after : Answer → List ℕ) (s w : List ℕ) → Printed J B after s w ↔ Printed J B after (take most_read s) w

abbrev pub FirstBytesEnd : Type 1
FirstBytesEnd = (J : Judge) (s : List ℕ) (number place : ℕ) → Ends J s number place ↔ Ends J (take most_read s) number place

-- No line is longer than a listing has room for: trails and levels are within the trail's limit, and refusals are numbers of the table.
pub record Modest (J : Judge) : Type 0 where
  pub few_entries : (o : J.Over) → Reached J o → length (J.state o).trail ≤ most_entries
  pub low_level : (o : J.Over) → Reached J o → (J.state o).level ≤ most_entries
  pub in_table : (o : J.Over) (x : Step) (a : Reply J.Over) → Reached J o → J.Gives o x a → a.number ≤ no_room

-- What such a judge prints with the last line, of a file that a machine can hold, has at most `most_listing` bytes.
abbrev pub ListingFits : Type 1
ListingFits = (J : Judge) → Modest J → (s w : List ℕ) → length s < 18446744073709551616 → Printed J (nothing J) last_line s w → length w ≤ most_listing

-- From bytes: where the judge is sound over N and the last line is `refuted`, the file is a good one and its clauses have no model over N.
abbrev pub RefutedHasNoModel : Type 1
RefutedHasNoModel = (N : Numbers) (J : Judge) → SoundJudge N J → (s w v : List ℕ) → Printed J (nothing J) last_line s w → w ≡ v ++ bytes "refuted\n"
    → (F : File) × (file s ≡ got F (length s)) × NoModel N F.arities F.input

-- ---- of the rules over the whole numbers

-- They are such a judge in each respect: they answer all steps, none in two ways, modestly and soundly. Their soundness is demand 2's second sentence.
abbrev pub PlainJudge : Type 1
PlainJudge = AnswersAll (plain whole) × AnswersOnce (plain whole) × Modest (plain whole) × SoundJudge whole (plain whole)
