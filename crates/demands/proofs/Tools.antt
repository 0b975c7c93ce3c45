-- A tool that answers every step by the rules, what is possible being decided.
use mathlib.Core.Path.{◌≡◌, refl, subst, sym}
use mathlib.Core.Logic.{◌↔◌}
use mathlib.Core.List.{List, [], ◌∷◌}
use mathlib.Core.Option.{Option, none, some}
use lib.Dec.{T}
use lib.IntN.{ℤ}
use lib.ListN.{length}
use Rattle.basis.specs.Numbers.{whole}
use Rattle.basis.specs.declared.Literal.{Literal}
use Rattle.calculus.specs.Admission.{Admitted}
use Rattle.calculus.proofs.Computed.{answer}
use Rattle.calculus.specs.Clauses.{Instanced}
use Rattle.calculus.specs.Conditions.{Judged}
use Rattle.calculus.specs.FalseTools.{ByTheRules, MeetsDemand2, Refutation, Tool, reached}
use Rattle.calculus.specs.Handing.{HandsOn}
use Rattle.calculus.specs.Rules.{Answer}
use Rattle.calculus.specs.Runs.{Reached, plain}
use Rattle.calculus.specs.States.{State, Step}
use Rattle.calculus.proofs.Answers.{judged_by}
use Rattle.calculus.proofs.Runs.{admitted_reached, steps_keep_reached}
use Rattle.reaching.proofs.Handing.{decided, every_step_hands}
use Rattle.listing.specs.Lines.{is_empty, is_refutation}
use Rattle.asking.specs.Steps.{step_of}
use Rattle.state.proofs.Runs.{answers_so}
use Rattle.state.specs.States.{Answers, packed_answer, packed_state}
use Rattle.demands.specs.Tools.{AsTheCode, RightToolExists}

abbrev right : State → Step → Answer
right s x = answer (decided s x).0 s x

right_judged : (s : State) (x : Step) → Judged whole s x (right s x)
right_judged s x = judged_by whole (decided s x).0 s x (decided s x).1

-- The state after steps, the last of them first
abbrev after : State → List Step → State
after s₀ [] = s₀
after s₀ (x ∷ before) = (right (after s₀ before) x).state

abbrev tool : Tool
tool s₀ before x = let a = right (after s₀ before) x in record { answer = a; entries = length a.state.trail; level = a.state.level; refuted = is_refutation a.state.conflict }

reached_after : (s₀ : State) (before : List Step) → reached tool s₀ before ≡ after s₀ before
reached_after s₀ [] = refl
reached_after s₀ (x ∷ before) = refl

after_reached : (s₀ : State) → Admitted s₀ → (before : List Step) → Reached (plain whole) (after s₀ before)
after_reached s₀ A [] = admitted_reached (plain whole) s₀ A
after_reached s₀ A (x ∷ before) = steps_keep_reached (plain whole) (after s₀ before) x (right (after s₀ before) x) (after_reached s₀ A before) (right_judged (after s₀ before) x)

refutation_says : (s : State) → T (is_refutation s.conflict) ↔ Refutation s
refutation_says s = (λ t. there s.conflict refl t, λ R. back s.conflict R.conflict R.stands R.no_literals)
  where
    empty : (ls : List Literal) → T (is_empty ls) → ls ≡ []
    empty [] t = refl
    empty (l ∷ ls) t = absurd t

    there : (c : Option Instanced) → s.conflict ≡ c → T (is_refutation c) → Refutation s
    there none e t = absurd t
    there (some K) e t = record { conflict = K; stands = e; no_literals = empty K.clause.literals t }

    back : (c : Option Instanced) (K : Instanced) → c ≡ some K → K.clause.literals ≡ [] → T (is_refutation c)
    back c K e z = subst (λ c. T (is_refutation c)) (sym e) (subst (λ ls. T (is_empty ls)) (sym z) tt)

meets : MeetsDemand2 tool
meets s₀ A before x = subst (λ s. ByTheRules s x (tool s₀ before x)) (sym (reached_after s₀ before))
    (record { judged = right_judged (after s₀ before) x; entries = refl; level = refl; refuted = refutation_says (right (after s₀ before) x).state })

as_the_code : AsTheCode tool
as_the_code s₀ A before x =
    let a = right (after s₀ before) (step_of x) in
    let R = after_reached s₀ A before in
    let j = right_judged (after s₀ before) (step_of x) in
    let (h, k) = every_step_hands (after s₀ before) (step_of x) a R j in
    subst (λ s. (h : Option (List ℤ)) × HandsOn s (step_of x) a.number h × Answers (packed_state s) x (packed_answer a h)) (sym (reached_after s₀ before))
    (h, k, answers_so (after s₀ before) x a h R j k)

pub right_tool_exists : RightToolExists
right_tool_exists = (tool, meets, as_the_code)
