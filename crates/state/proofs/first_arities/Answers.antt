use Rattle.state.proofs.Opening.{front_of}
use Rattle.state.proofs.first_arities.Goals as goal

pub returns : goal.returns
returns c = rw c.copy_from_slice.ensures.after (front_of 0 8 c.args.arities.now c.requires)
