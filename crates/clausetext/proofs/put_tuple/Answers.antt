-- Three writers, one after the other.
use borrow.Author.Rules.{rules}
use Rattle.text.proofs.Text.{and_then}
use Rattle.clausetext.specs.ClauseText.{tuple_text}
use Rattle.clausetext.proofs.put_tuple.Goals as goal

pub returns : goal.returns
unfolding tuple_text
returns c = record { wrote = and_then (and_then c.put_byte-open.ensures c.put_each-close.ensures.wrote) c.put_byte.ensures; room = search rules }
