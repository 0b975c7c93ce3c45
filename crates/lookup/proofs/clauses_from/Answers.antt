-- The conditions in their order, and what the writer leaves.
use mathlib.Core.Path.{subst}
use native.Mathlib.Omega.{arith}
use borrow.Author.Rules.{rules}
use Rattle.lists.specs.Tests.{Decides}
use Rattle.text.proofs.Text.{at_front}
use Rattle.lookup.specs.Tables.{InOrder}
use Rattle.lookup.proofs.clauses_from.Goals as goal

pub returns : goal.returns
returns c =
    let f = at_front (omega (arith, c.if-out-room.false, c.room.ensures)) c.put_rows.ensures in
    let ordered : InOrder c.args.keys.now c.args.results.now = subst (Decides _) c.if-not-in_order.false c.in_order.ensures in
    ((search rules, (ordered, (omega (arith, c.if-out-room.false, c.room.ensures), (tt {0})))), f.0, f.1)
