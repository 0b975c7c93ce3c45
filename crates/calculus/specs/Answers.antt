-- What is promised of every answer to a step: that it is unique, when it is "accepted", and which numbers it has. Proved in proofs/Answers.antt.
use Rattle.std.specs.Prelude.{◌≡◌, ◌↔◌, List, [], ◌∷◌, Bool, ◌&&◌, true, ◌≤◌, ℕ, T, ltb}
use Rattle.basis.specs.Numbers.{Numbers}
use Rattle.basis.specs.Refusals.{accepted, no_room}
use Rattle.calculus.specs.Conditions.{Allowed, Condition, Judged, conditions}
use Rattle.calculus.specs.Rules.{Answer}
use Rattle.calculus.specs.Runs.{AnswersOnce, plain}
use Rattle.calculus.specs.States.{State, Step}

-- The promises are strong enough "that the answer is unique".
abbrev pub AnswerUnique : Numbers → Type 0
AnswerUnique N = AnswersOnce (plain N)

-- "A step is accepted exactly when the side conditions of its rule hold .. and there is room."
abbrev pub AcceptedExactlyIfAllowed : Numbers → Type 0
AcceptedExactlyIfAllowed N = (s : State) (x : Step) (a : Answer) → Judged N s x a → (a.number ≡ accepted) ↔ Allowed N s x

-- The number is 0 or one of the paper's table, of which 18 is the largest.
abbrev pub NumberInTable : Numbers → Type 0
NumberInTable N = (s : State) (x : Step) (a : Answer) → Judged N s x a → a.number ≤ no_room

-- The refusals' numbers rise, from above k.
abbrev pub rising : ℕ → List Condition → Bool
rising k [] = true
rising k (c ∷ cs) = ltb k c.refusal && rising c.refusal cs

-- "A step's reasons are tried in rising order": the first condition that does not hold is the one with the smallest number.
abbrev pub TriedInRisingOrder : Numbers → Type 0
TriedInRisingOrder N = (s : State) (x : Step) → T (rising accepted (conditions N s x))
