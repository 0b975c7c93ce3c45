use Rattle.std.proofs.Common.{◌∙◌, arith}
use Rattle.joining.proofs.Scratch.{held_count}
use Rattle.lists.specs.Arrays.{held_in}
use Rattle.merging.proofs.Appending.{appended_turn}
use Rattle.merging.proofs.append_constants.Goals as goal

pub loop-a-preserved : goal.loop-a-preserved
loop-a-preserved c =
    let a = c.args in
    let s = c.loop-a in
    (omega (arith, held_count c.push.ensures), c.push.ensures ∙ appended_turn 0 (held_in a.out.now) a.constants.now s.a-index (omega arith) (omega (arith, held_count c.requires.0)) s.invariant.1)
