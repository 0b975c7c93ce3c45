-- The paper's five false tools, each excluded by demand 2; three of them would pass demand 3 if it were stated over a tool's own steps.
-- Proved in proofs/FalseTools.antt.
use Rattle.std.specs.Prelude.{◌≡◌, ◌↔◌, ◌⊎◌, List, [], ◌∷◌, Bool, false, zero, ℕ, T, length}
use Rattle.std.proofs.Math.Option.{none, some}
use Rattle.basis.specs.Numbers.{whole}
use Rattle.basis.specs.Refusals.{accepted, no_room}
use Rattle.calculus.specs.Admission.{Admitted}
use Rattle.calculus.specs.Clauses.{Instanced}
use Rattle.calculus.specs.Conditions.{Judged}
use Rattle.calculus.specs.Rules.{Answer}
use Rattle.calculus.specs.Runs.{restarted, steps_of}
use Rattle.calculus.specs.States.{State, Step}

-- ---- tools, seen from outside

-- What a tool shows of one step: number, place and state, the trail length and level it prints, and whether it says "refuted"
pub record Report : Type 0 where
  pub answer : Answer
  pub entries : ℕ
  pub level : ℕ
  pub refuted : Bool

-- A tool reports on a step given after others, the last of them first, from the state it starts with.
abbrev pub Tool : Type 0
Tool = (start : State) (before : List Step) (x : Step) → Report

-- The state that the tool has reached
abbrev pub reached : Tool → State → List Step → State
reached tool s₀ [] = s₀
reached tool s₀ (x ∷ before) = (tool s₀ before x).answer.state

-- ---- demand 2 of a tool

-- The conflict has no literals.
pub record Refutation (s : State) : Type 0 where
  pub conflict : Instanced
  pub stands : s.conflict ≡ some conflict
  pub no_literals : conflict.clause.literals ≡ []

-- "Acceptance, next state and both numbers are fixed by the rules."
pub record ByTheRules (s : State) (x : Step) (r : Report) : Type 0 where
  pub judged : Judged whole s x r.answer
  pub entries : r.entries ≡ length r.answer.state.trail
  pub level : r.level ≡ r.answer.state.level
  pub refuted : T r.refuted ↔ Refutation r.answer.state

abbrev pub MeetsDemand2 : Tool → Type 0
MeetsDemand2 tool = (s₀ : State) → Admitted s₀ → (before : List Step) (x : Step) → ByTheRules (reached tool s₀ before) x (tool s₀ before x)

-- ---- the five

-- "a tool that refuses every step"
abbrev pub RefusesAll : Tool → Type 0
RefusesAll tool = (s₀ : State) (before : List Step) (x : Step) → ¬ ((tool s₀ before x).answer.number ≡ accepted)

-- "one that always says refuted"
abbrev pub AlwaysRefuted : Tool → Type 0
AlwaysRefuted tool = (s₀ : State) (before : List Step) (x : Step) → T (tool s₀ before x).refuted

-- "one that accepts and leaves the state", whichever steps it accepts
abbrev pub LeavesState : Tool → Type 0
LeavesState tool = (s₀ : State) (before : List Step) (x : Step) → (tool s₀ before x).answer.state ≡ reached tool s₀ before

-- "one that works the first step and then only nods"
abbrev pub ThenNods : Tool → Type 0
ThenNods tool = (s₀ : State) (before : List Step) (y x : Step) → (tool s₀ (y ∷ before) x).answer.state ≡ reached tool s₀ (y ∷ before)

-- "one that prints an invented level or trail length"
pub record Invents (tool : Tool) : Type 0 where
  pub start : State
  pub admitted : Admitted start
  pub before : List Step
  pub step : Step
  pub invented : let r = tool start before step in (¬ (r.level ≡ r.answer.state.level)) ⊎ (¬ (r.entries ≡ length r.answer.state.trail))

-- "Demand 2 excludes all five."
pub record ExcludesFive (tool : Tool) : Type 0 where
  pub not_refuses_all : ¬ RefusesAll tool
  pub not_always_refuted : ¬ AlwaysRefuted tool
  pub not_leaves_state : ¬ LeavesState tool
  pub not_then_nods : ¬ ThenNods tool
  pub not_invents : ¬ Invents tool

abbrev pub Demand2ExcludesFive : Type 0
Demand2ExcludesFive = (tool : Tool) → MeetsDemand2 tool → ExcludesFive tool

-- ---- demand 3 over a tool's own steps

abbrev pub AcceptsAll : Tool → State → List Step → Type 0
AcceptsAll tool s₀ [] = Unit {0}
AcceptsAll tool s₀ (x ∷ before) = ((tool s₀ before x).answer.number ≡ accepted) × AcceptsAll tool s₀ before

-- The steps behind the final trail's foreground entries, given to the tool from the start: each is accepted, and the state is the same.
abbrev pub OwnReplay : Tool → Type 0
OwnReplay tool = (s₀ : State) → Admitted s₀ → (xs : List Step) →
    let s = reached tool s₀ xs in
    s.conflict ≡ none → AcceptsAll tool (restarted s) (steps_of s.trail) × (reached tool (restarted s) (steps_of s.trail) ≡ s)

-- A report with the state's own numbers
abbrev report : ℕ → State → Report
report n s = record { answer = record { number = n; place = zero; state = s }; entries = length s.trail; level = s.level; refuted = false }

abbrev pub refuser : Tool
refuser s₀ before x = report no_room s₀

abbrev pub nodder : Tool
nodder s₀ before x = report accepted s₀

-- After the first step, which is judged by the rules, it nods.
abbrev pub nodding : (State → Step → Answer) → State → List Step → State
nodding right s₀ [] = s₀
nodding right s₀ (x ∷ []) = (right s₀ x).state
nodding right s₀ (x ∷ (y ∷ before)) = nodding right s₀ (y ∷ before)

abbrev pub work_once : (State → Step → Answer) → Tool
work_once right s₀ [] x = let a = right s₀ x in record { answer = a; entries = length a.state.trail; level = a.state.level; refuted = false }
work_once right s₀ (y ∷ before) x = report accepted (nodding right s₀ (y ∷ before))

-- "Demand 3 alone would admit the first, third and fourth."
pub record Demand3AloneAdmits : Type 0 where
  pub first : RefusesAll refuser × OwnReplay refuser
  pub third : LeavesState nodder × OwnReplay nodder
  pub fourth : (right : State → Step → Answer) → ((s : State) (x : Step) → Judged whole s x (right s x)) → ThenNods (work_once right) × OwnReplay (work_once right)
