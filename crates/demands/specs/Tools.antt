-- Demand 2 excludes the five false tools (calculus/specs/FalseTools.antt) and not every tool: one meets it, and it answers as the code does.
-- Proved in proofs/Tools.antt.
use Rattle.std.specs.Prelude.{List, ℤ}
use Rattle.std.proofs.Math.Option.{Option}
use Rattle.calculus.specs.Admission.{Admitted}
use Rattle.calculus.specs.FalseTools.{MeetsDemand2, Tool, reached}
use Rattle.calculus.specs.Handing.{HandsOn}
use Rattle.calculus.specs.States as states
use Rattle.asking.specs.Steps.{step_of}
use Rattle.asking.specs.declared.Step.{Step}
use Rattle.state.specs.States.{Answers, packed_answer, packed_state}

-- The answer of the tool, after steps from admitted clauses, with what the step hands on, is the one that `step` promises at the record of the
-- state reached.
abbrev pub AsTheCode : Tool → Type 0
AsTheCode tool = (s₀ : states.State) → Admitted s₀ → (before : List states.Step) (x : Step) →
    let s = reached tool s₀ before in
    let a = (tool s₀ before (step_of x)).answer in
    (h : Option (List ℤ)) × HandsOn s (step_of x) a.number h × Answers (packed_state s) x (packed_answer a h)

abbrev pub RightToolExists : Type 0
RightToolExists = (tool : Tool) × MeetsDemand2 tool × AsTheCode tool
