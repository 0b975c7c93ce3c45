-- The loop writes the literals in turn.
use Rattle.calculus.specs.Clauses.{no_literal}
use Rattle.runfile.specs.Written.{written_literal}
use Rattle.clausebytes.proofs.Members.{one_more, room_for}
use Rattle.clausebytes.proofs.put_literals.Goals as goal

pub put_literal-next-requires : goal.put_literal-next-requires
put_literal-next-requires c = room_for (written_literal c.args.arities.now) c.args.literals.now c.loop-l.l-index c.loop-l.invariant no_literal c.loop-l-test.true c.requires

pub loop-l-preserved : goal.loop-l-preserved
loop-l-preserved c = one_more (written_literal c.args.arities.now) c.args.literals.now c.loop-l.l-index c.loop-l.invariant no_literal c.loop-l-test.true c.put_literal-next.ensures
