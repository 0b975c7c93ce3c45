-- At most three digits, as the bound says.
use native.Mathlib.Omega.{arith}
use borrow.Author.Rules.{rules}
use Rattle.text.proofs.Text.{length_decimal}
use Rattle.clausetext.proofs.put_small.Goals as goal

pub put_decimal-requires : goal.put_decimal-requires
put_decimal-requires c = omega (arith, length_decimal 2 c.args.n (search rules))

pub returns : goal.returns
returns c = record { wrote = c.put_decimal.ensures; room = omega (arith, length_decimal 2 c.args.n (search rules)) }
