use native.Mathlib.Omega.{arith}
use Rattle.text.proofs.Text.{and_then, length_decimal}
use Rattle.words.specs.Words.{unknown_line}
use Rattle.words.proofs.put_unknown.Goals as goal

pub put_decimal-at-requires : goal.put_decimal-at-requires
put_decimal-at-requires c = omega (arith, length_decimal 19 c.args.position (omega arith))

pub put_byte-requires : goal.put_byte-requires
put_byte-requires c = omega (arith, length_decimal 19 c.args.position (omega arith))

pub returns : goal.returns
unfolding unknown_line
returns c = and_then (and_then c.put_word-at.ensures c.put_decimal-at.ensures) c.put_byte.ensures
