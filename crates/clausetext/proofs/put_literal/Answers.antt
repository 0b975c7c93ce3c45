-- Four writers, one after the other; the arguments are those before the first 0.
use mathlib.Core.Path.{ap}
use native.Mathlib.Omega.{arith}
use lib.ListN.{length}
use Rattle.calculus.specs.Clauses.{arguments}
use Rattle.text.proofs.Text.{and_then, as_text}
use Rattle.clausetext.specs.ClauseText.{literal_text, tuple_text}
use Rattle.clausetext.proofs.Literals.{until_short}
use Rattle.clausetext.proofs.put_literal.Goals as goal

pub returns : goal.returns
unfolding literal_text
returns c = record {
  wrote = and_then (and_then (and_then c.put_sign-sign.ensures.wrote c.put_byte-letter.ensures) c.put_number-predicate.ensures.wrote) (as_text (ap tuple_text c.until_zero.ensures) c.put_tuple.ensures.wrote);
  room = omega (arith, ap length c.until_zero.ensures, until_short (arguments c.args.l));
}
