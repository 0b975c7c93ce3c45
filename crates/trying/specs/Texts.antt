-- What stands beneath the steps' lines, with numbers or without, and after them, with the final state or without; and how long all is at most.
use Rattle.std.specs.Prelude.{Bool, true, false, ◌≡◌, List, ◌++◌, ℕ, ◌+◌, ◌*◌, ℤ}
use Rattle.std.proofs.Math.Option.{Option}
use Rattle.basis.specs.Numbers.{whole}
use Rattle.basis.specs.Refusals.{accepted}
use Rattle.calculus.specs.Handing.{HandsOn}
use Rattle.calculus.specs.Rules.{Answer}
use Rattle.calculus.specs.Runs.{plain}
use Rattle.runfile.specs.File.{most_steps}
use Rattle.listing.specs.Lines.{last_line}
use Rattle.listing.specs.Listing.{Beneath, most_listing, nothing}
use Rattle.inspection.specs.NumbersText.{most_numbers_line, numbers_text}
use Rattle.inspection.specs.StateText.{state_text}
use Rattle.inspection.specs.Writing.{most_state}

-- ---- for reviewers

-- What comes after the steps' lines: the last line, and then the final state
abbrev pub inspected : Answer → List ℕ
inspected e = last_line e ++ state_text e.state

abbrev pub most_inspection : ℕ
most_inspection = most_listing + most_state

-- With numbers, a line of them comes after the line of each accepted step that hands numbers on.
abbrev pub numbers_beneath : Beneath (plain whole)
numbers_beneath s x u = (h : Option (List ℤ)) × HandsOn s x accepted h × (u ≡ numbers_text h)

-- ---- by what is to be shown

-- What stands beneath the lines of accepted steps, where numbers are to be shown and where they are not
abbrev pub beneath : Bool → Beneath (plain whole)
beneath true = numbers_beneath
beneath false = nothing (plain whole)

-- The most bytes of it
abbrev pub most_beneath : Bool → ℕ
most_beneath true = most_numbers_line
most_beneath false = 0

-- What comes after the steps' lines, where the final state is to be shown and where it is not
abbrev pub ending : Bool → Answer → List ℕ
ending true = inspected
ending false = last_line

-- The most bytes of all lines but those of numbers
abbrev pub most_others : Bool → ℕ
most_others true = most_inspection
most_others false = most_listing

-- No text has more bytes.
abbrev pub most_text : (numbered shown : Bool) → ℕ
most_text numbered shown = most_others shown + most_steps * most_beneath numbered
