-- The numbers behind a yes as text for reviewers.
use Rattle.std.specs.Prelude.{List, [], ◌++◌, ℕ, ◌+◌, ◌*◌, ℤ}
use Rattle.std.proofs.Math.Option.{Option, none, some}
use Rattle.basis.specs.Limits.{most_constants}
use Rattle.text.specs.Text.{bytes, signed_text}
use Rattle.clausetext.specs.ClauseText.{in_turn}
use Rattle.clausetext.specs.Room.{most_signed}

-- A number, with a space before it
abbrev pub listed_number : ℕ → ℤ → List ℕ
listed_number n z = bytes " " ++ signed_text z

-- The word `numbers` and the constants' numbers, as `numbers -3 0 12`
unfoldable pub numbers_line : List ℤ → List ℕ
numbers_line numbers = bytes "numbers" ++ in_turn 0 listed_number numbers ++ bytes "\n"

-- What stands beneath the line of an accepted step: the numbers that it hands on, or nothing where it hands on none
abbrev pub numbers_text : Option (List ℤ) → List ℕ
numbers_text none = []
numbers_text (some numbers) = numbers_line numbers

-- A number with the space before it
abbrev pub most_listed_number : ℕ
most_listed_number = 1 + most_signed

-- `numbers`, the constants' numbers and the end of the line
abbrev pub most_numbers_line : ℕ
most_numbers_line = 7 + most_constants * most_listed_number + 1
