-- The word, the numbers in turn, and the end of the line.
use native.Mathlib.Omega.{arith}
use Rattle.text.proofs.Text.{and_then}
use Rattle.inspection.specs.NumbersText.{numbers_line}
use Rattle.inspection.proofs.put_numbers.Goals as goal

pub returns : goal.returns
unfolding numbers_line
returns c = record { wrote = and_then (and_then c.put_word-word.ensures c.put_each-next.ensures.wrote) c.put_byte.ensures; room = omega (arith, c.put_each-next.ensures.room) }
