use mathlib.Core.Bool.{false}
use Rattle.state.proofs.new_run.Goals as goal

pub returns : goal.returns
returns c = λ i. record { version = c.args.version; constants = c.args.constants; input = c.args.input; learned = 0; level = 0; length = 0; stands = false; trail = c.empty_trail-trail.ensures i; conflict = c.no_instanced-conflict.ensures i }
