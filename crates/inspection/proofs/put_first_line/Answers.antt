-- Five writers, one after the other.
use borrow.Author.Rules.{rules}
use Rattle.text.proofs.Text.{and_then}
use Rattle.inspection.specs.StateText.{first_line}
use Rattle.inspection.proofs.put_first_line.Goals as goal

pub returns : goal.returns
unfolding first_line
returns c = record { wrote = and_then (and_then (and_then (and_then c.put_word-first.ensures c.put_number-number.ensures.wrote) c.put_word-second.ensures) c.put_number-k.ensures.wrote) c.put_byte.ensures; room = search rules }
