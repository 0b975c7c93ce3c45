-- Every row is the order's, so the square stands for the order.
use native.Mathlib.Omega.{arith}
use borrow.Author.Rules.{rules}
use Rattle.constraint.proofs.Start.{order_stands}
use Rattle.constraint.proofs.ordered.Goals as goal

pub returns : goal.returns
returns c = order_stands _ (search rules) _ (λ i j hi hj. c.loop-i.invariant.done i (omega arith) j hj)
