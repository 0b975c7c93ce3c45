-- Whether atoms are possible is decided.
use Rattle.bounds.proofs.Decided as bounds
use Rattle.constraint.specs.Test.{Decided}

pub possible_decided : Decided
possible_decided constants atoms = bounds.possible_decided constants atoms
