-- Three writers, one after the other.
use borrow.Author.Rules.{rules}
use Rattle.text.proofs.Text.{and_then}
use Rattle.inspection.specs.StateText.{conflict_line}
use Rattle.inspection.proofs.put_conflict_line.Goals as goal

pub returns : goal.returns
unfolding conflict_line
returns c = record { wrote = and_then (and_then c.put_word-word.ensures c.put_conflict-conflict.ensures.wrote) c.put_byte.ensures; room = search rules }
