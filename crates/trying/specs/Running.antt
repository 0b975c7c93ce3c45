-- What trying the steps of a file writes, and what stands beneath a step's line by what was handed on.
use Rattle.std.specs.Prelude.{Bool, true, false, ◌≡◌, List, [], ◌++◌, ℕ, ◌≤◌, take, Option, None, Some, ℤ}
use Rattle.basis.specs.Numbers.{whole}
use Rattle.calculus.specs.Rules.{Answer}
use Rattle.calculus.specs.Runs.{plain}
use Rattle.inspection.specs.NumbersText.{numbers_line}
use Rattle.listing.specs.Listing.{TriedWith}
use Rattle.runfile.specs.Readers.{got}
use Rattle.runfile.specs.File.{File, file, opened}
use Rattle.text.specs.Text.{Wrote}
use Rattle.trying.specs.Texts.{beneath, ending, most_text}
use Rattle.trying.specs.declared.Ended.{Ended}

-- What stands beneath the line of an accepted step, of the numbers that it handed on, if it did, where there were so many constants
abbrev pub text_beneath : Bool → (constants : ℕ) → Option (List ℤ) → List ℕ
text_beneath true constants (Some numbers) = numbers_line (take constants numbers)
text_beneath true constants None = []
text_beneath false constants w = []

-- "One line per step tried .. It stops at a refused step." The steps of the file s were tried from the state on that its header makes; number
-- and place are those of the last answer; and the steps' lines, with what comes after them, stand in the buffer d from its first byte on.
pub record Prints (numbered shown : Bool) (s d d' : List ℕ) (r : Ended) : Type 0 where
  pub says : File
  pub next : ℕ
  pub is : file s ≡ got says next
  pub lines : List ℕ
  pub answer : Answer
  pub tried : TriedWith (plain whole) (beneath numbered) (opened says) 1 says.steps lines answer
  pub number_is : r.number ≡ answer.number
  pub place_is : r.place ≡ answer.place
  pub wrote : Wrote d 0 (lines ++ ending shown answer) d' r.count
  pub short : r.count ≤ most_text numbered shown

-- What is answered is unique, and so is every lent byte. Proved in proofs/Once.antt.
abbrev pub PrintsOnce : Type 0
PrintsOnce = (numbered shown : Bool) (s d d₁ d₂ : List ℕ) (r₁ r₂ : Ended) → Prints numbered shown s d d₁ r₁ → Prints numbered shown s d d₂ r₂ → (r₁ ≡ r₂) × (d₁ ≡ d₂)
