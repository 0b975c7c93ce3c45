-- Behind the trail's atoms stand those of the step that are passed.
use native.Mathlib.Omega.{arith}
use lib.ListN.{length-take}
use Rattle.lists.proofs.Walks.{take_more}
use Rattle.testing.proofs.Gathering.{gathers_more}
use Rattle.testing.proofs.gathered_with.Goals as goal

pub loop-a-preserved : goal.loop-a-preserved
loop-a-preserved c =
    let loop = c.loop-a in
    let az = c.args.step.now in
    rw c.push.ensures (gathers_more _ loop.invariant (omega (arith, length-take loop.a-index az)) (take_more az loop.a-index _ (omega arith)))
