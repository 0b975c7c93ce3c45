-- What a step hands on is there, where the state was reached, and is unique. Proved in proofs/Handing.antt.
use Rattle.std.specs.Prelude.{◌≡◌, List, ℕ, ℤ}
use Rattle.std.proofs.Math.Option.{Option}
use Rattle.basis.specs.Numbers.{whole}
use Rattle.calculus.specs.Conditions.{Judged}
use Rattle.calculus.specs.Handing.{HandsOn}
use Rattle.calculus.specs.Rules.{Answer}
use Rattle.calculus.specs.Runs.{Reached, plain}
use Rattle.calculus.specs.States.{State, Step}

abbrev pub EveryStepHands : Type 0
EveryStepHands = (s : State) (x : Step) (b : Answer) → Reached (plain whole) s → Judged whole s x b → (h : Option (List ℤ)) × HandsOn s x b.number h

abbrev pub HandsOnce : Type 0
HandsOnce = (s : State) (x : Step) (number : ℕ) (g h : Option (List ℤ)) → HandsOn s x number g → HandsOn s x number h → g ≡ h
