-- Five writers, one after the other.
use borrow.Author.Rules.{rules}
use Rattle.text.proofs.Text.{and_then}
use Rattle.inspection.specs.StateText.{clause_line}
use Rattle.inspection.proofs.put_clause_line.Goals as goal

pub returns : goal.returns
unfolding clause_line
returns c = record { wrote = and_then (and_then (and_then (and_then c.put_word-word.ensures c.put_small-number.ensures.wrote) c.put_byte-space.ensures) c.put_clause-clause.ensures.wrote) c.put_byte.ensures; room = search rules }
