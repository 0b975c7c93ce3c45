-- Runs: steps given one after the other, refused ones among them; where they begin; and the run that demand 3 gives again.
use Rattle.std.specs.Prelude.{◌≡◌, cond, ◌≤◌, zero, length}
use mathlib.Core.List.{List, Memᴰ, [], ◌∷◌, reverse}
use Rattle.std.proofs.Math.Option.{none, some}
use Rattle.basis.specs.Limits.{most_learned}
use Rattle.basis.specs.Numbers.{Numbers}
use Rattle.basis.specs.Refusals.{accepted}
use Rattle.calculus.specs.Admission.{Admitted, fresh}
use Rattle.calculus.specs.Class.{InClass, Limited}
use Rattle.calculus.specs.Clauses.{Clause}
use Rattle.calculus.specs.Trails.{Origin, Source, propagated, decided, foreground, background, Trail}
use Rattle.calculus.specs.States.{State, Step, Propagate, Decide, updated}
use Rattle.calculus.specs.Conditions.{Judged}
use Rattle.calculus.specs.Rules.{Answer, Reply}

-- A way to answer steps: what it runs over (a state, or a state with a memory beside it), the state that stands there, where a run begins,
-- and the answers that it gives.
pub record Judge : Type 1 where
  pub Over : Type 0
  pub state : Over → State
  pub start : State → Over
  pub Gives : Over → Step → Reply Over → Type 0

-- The rules over the numbers N
abbrev pub plain : Numbers → Judge
plain N = record { Over = State; state = λ s. s; start = λ s. s; Gives = Judged N }

-- The answer as it is stated: number, place, and the state that stands where it leads
abbrev pub stated : (J : Judge) → Reply J.Over → Answer
stated J a = record { number = a.number; place = a.place; state = J.state a.state }

-- The steps, from left to right, lead from the first place to the last; a refused one leads to the place it was given.
pub data Run (J : Judge) : J.Over → List Step → J.Over → Type 0 where
  over : {o o' : J.Over} → o ≡ o' → Run J o [] o'
  then : {o o' : J.Over} {x : Step} {xs : List Step} (a : Reply J.Over) → J.Gives o x a → Run J a.state xs o' → Run J o (x ∷ xs) o'

-- The same with each step accepted
pub data AcceptedRun (J : Judge) : J.Over → List Step → J.Over → Type 0 where
  over : {o o' : J.Over} → o ≡ o' → AcceptedRun J o [] o'
  then : {o o' : J.Over} {x : Step} {xs : List Step} (a : Reply J.Over) → J.Gives o x a → a.number ≡ accepted → AcceptedRun J a.state xs o'
      → AcceptedRun J o (x ∷ xs) o'

-- "Start again from an empty trail at level 0, with the input clauses, constants and learned clauses held at the end."
abbrev pub restarted : State → State
restarted s = updated s [] zero none

-- Where a run may begin: admitted input clauses, learned clauses of the class and within the limits, nothing on the trail, no conflict.
pub record Start (s : State) : Type 0 where
  pub admitted : Admitted (fresh s.version s.constants s.arities s.input)
  pub few_learned : length s.learned ≤ most_learned
  pub in_class : (C : Clause) → Memᴰ C s.learned → InClass s.arities C
  pub limited : (C : Clause) → Memᴰ C s.learned → Limited C
  pub empty : s ≡ restarted s

-- "Only admission makes a state and only steps change it": there is a start and a run from it.
pub record Reached (J : Judge) (o : J.Over) : Type 0 where
  pub first : State
  pub steps : List Step
  pub start : Start first
  pub run : Run J (J.start first) steps o

-- Reached is what admission makes, every other start, and what a step leads to from there. Proved in proofs/Runs.antt.
abbrev pub AdmittedStarts : Type 0
AdmittedStarts = (s : State) → Admitted s → Start s

abbrev pub StartReached : Type 1
StartReached = (J : Judge) (s : State) → Start s → Reached J (J.start s)

abbrev pub StepsKeepReached : Type 1
StepsKeepReached = (J : Judge) (o : J.Over) (x : Step) (a : Reply J.Over) → Reached J o → J.Gives o x a → Reached J a.state

-- A step has one answer at most (of the rules: AnswerUnique) ..
abbrev pub AnswersOnce : Judge → Type 0
AnswersOnce J = (o : J.Over) (x : Step) (a b : Reply J.Over) → J.Gives o x a → J.Gives o x b → a ≡ b

-- .. and, at a place that was reached, one at least.
abbrev pub AnswersAll : Judge → Type 0
AnswersAll J = (o : J.Over) → Reached J o → (x : Step) → (a : Reply J.Over) × J.Gives o x a

-- The one Propagate or Decide behind a foreground entry; "Demand 3 replays a decision with its atoms": the atoms brought that stand behind it
abbrev pub step_of : Origin → List Source → Step
step_of (propagated c l τ) zs = Propagate c l τ
step_of (decided c l b τ n) zs = Decide c l (cond b 1 0) τ zs

-- Those behind the foreground entries of a trail, that of the last entry first, where the atoms brought that stand behind the trail are `zs`
abbrev pub steps_before : List Source → Trail → List Step
steps_before zs [] = []
steps_before zs (foreground l o ∷ t) = step_of o zs ∷ steps_before [] t
steps_before zs (background a none ∷ t) = steps_before zs t
steps_before zs (background a (some z) ∷ t) = steps_before (z ∷ zs) t

abbrev pub steps_of : Trail → List Step
steps_of t = steps_before [] t

-- "Give, left to right, the one Propagate or Decide behind each foreground entry of the final trail."
abbrev pub replayed : Trail → List Step
replayed t = reverse (steps_of t)
