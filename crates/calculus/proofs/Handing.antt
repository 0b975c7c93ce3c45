-- The example of what a step hands on.
use mathlib.Core.Path.{refl}
use Rattle.basis.proofs.Choices.{first_at_least_two}
use Rattle.calculus.specs.Handing.{FirstHands}

pub first_hands : FirstHands
first_hands = (_, first_at_least_two, refl)
