-- The loop writes the items in turn.
use Rattle.clausetext.proofs.Turns.{room_next, turned_more}
use Rattle.clausetext.proofs.put_each.Goals as goal

pub one-next-requires : goal.one-next-requires
one-next-requires g c = (c.requires.1.1.0 _ _ _ _ c.loop-j-test.true c.index-items-j.is (room_next c.loop-j.invariant c.loop-j-test.true c.requires.1.1.1)).0

pub loop-j-preserved : goal.loop-j-preserved
loop-j-preserved g c =
    turned_more c.loop-j.invariant c.loop-j-test.true c.index-items-j.is
    ((c.requires.1.1.0 _ _ _ _ c.loop-j-test.true c.index-items-j.is (room_next c.loop-j.invariant c.loop-j-test.true c.requires.1.1.1)).1 _ _ c.one-next.ensures)
