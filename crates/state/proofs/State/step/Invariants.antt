-- `State::step`: what the atoms passed are.
use mathlib.Core.Path.{◌≡◌}
use Rattle.asking.proofs.Finding.{named_upto}
use Rattle.calculus.specs.States as states
use Rattle.state.specs.States.{StateOf}
use Rattle.state.proofs.State.step.Given as goal

abbrev pub invariant-loop-j : goal.invariant-loop-j
invariant-loop-j l = (s : states.State) → StateOf l.self s → record { right = l.right; at = l.at } ≡ named_upto s l.x l.j
