use Rattle.rules.proofs.Steps.{unknown_answered}
use Rattle.rules.proofs.Run.unknown.Goals as goal

pub returns : goal.returns
returns c = rw c.refused.ensures (unknown_answered _ _)
