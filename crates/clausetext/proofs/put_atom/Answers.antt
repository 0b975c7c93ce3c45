-- Five writers, one after the other; c is read back as it is.
use mathlib.Core.Path.{ap}
use native.Mathlib.Omega.{arith}
use mir.Syntax.{w32}
use mir.Facts.{to_z-of_z}
use borrow.Author.Rules.{rules}
use Rattle.text.specs.Text.{signed_text}
use Rattle.text.proofs.Text.{and_then, as_text}
use Rattle.text.proofs.Signed.{length_read}
use Rattle.clausetext.specs.ClauseText.{atom_text}
use Rattle.clausetext.proofs.put_atom.Goals as goal

pub put_signed-requires : goal.put_signed-requires
put_signed-requires c = omega (arith, length_read {n = c.args.a.c} (search rules))

pub returns : goal.returns
unfolding atom_text
returns c = record {
  wrote = and_then (and_then (and_then (and_then c.put_number-p.ensures.wrote c.put_byte-minus.ensures) c.put_number-q.ensures.wrote) c.put_word-most.ensures) (as_text (ap signed_text (to_z-of_z {w = w32} {z = c.args.a.c} (search rules))) c.put_signed.ensures);
  room = omega (arith, length_read {n = c.args.a.c} (search rules));
}
