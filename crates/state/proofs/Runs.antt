-- Any run of the code is a run of the calculus; every step has an answer, and one only; and the numbers that it hands on can be checked by hand.
use Rattle.state.proofs.Table.{none_some, some_same}
use mathlib.Core.Path.{◌≡◌, refl, subst, sym, ap, ap₂, ◌∙◌}
use mathlib.Core.List.{List, map}
use mathlib.Core.Option.{Option}
use mathlib.Core.Bool.{Bool, ◌&&◌, false, true}
use lib.Dec.{T, eqb}
use lib.IntN.{ℤ}
use borrow.Author.Tests.{eqb-true}
use Rattle.basis.specs.Numbers.{whole}
use Rattle.basis.specs.Refusals.{accepted}
use Rattle.bounds.proofs.Numbers.{numbers_checked}
use Rattle.calculus.proofs.Computed.{answer}
use Rattle.calculus.specs.Conditions.{Judged}
use Rattle.calculus.specs.Handing.{Hands, HandsOn, tests}
use Rattle.calculus.specs.Rules.{Answer, question}
use Rattle.calculus.specs.Runs as runs
use Rattle.calculus.specs.States as states
use Rattle.calculus.proofs.Answers.{judged_by}
use Rattle.calculus.proofs.Runs.{steps_keep_reached}
use Rattle.reaching.proofs.Handing.{answered_once, asked_placed, decided, every_step_hands}
use Rattle.rules.proofs.Naming.{and_true}
use Rattle.asking.specs.Steps.{step_of}
use Rattle.asking.specs.declared.Step.{Step}
use Rattle.state.specs.Runs.{CodeRun, CodeRunsAreRuns, over, then}
use Rattle.state.specs.States.{AnswerUnique, Answers, EveryStepAnswered, HandedOn, StateOf, StepHandsOn, StepKeeps, packed_answer, packed_state}
use Rattle.state.proofs.Packing.{packing_injective}
use Rattle.state.specs.declared.Answered.{Answered}
use Rattle.state.specs.declared.State.{State}

-- The state that a step hands back
handed_back : {r : State} {s : states.State} (x : Step) (a : Answered) (b : Answer) (h : Option (List ℤ)) → StateOf r s → Judged whole s (step_of x) b → a ≡ packed_answer b h → StateOf a.state b.state
handed_back {s = s} x a b h S j e = record { reached = steps_keep_reached (runs.plain whole) s (step_of x) b S.reached j; is = ap (λ (q : Answered). q.state) e }

pub step_keeps : StepKeeps
step_keeps r x a (s, S) k = let (b, h, j, handed, e) = k s S in (b.state, handed_back x a b h S j e)

-- Any run of the code is a run of the calculus.
code_run : {r r' : State} {xs : List Step} (s : states.State) → StateOf r s → CodeRun r xs r' → (s' : states.State) × runs.Run (runs.plain whole) s (map step_of xs) s' × (r' ≡ packed_state s')
code_run s S (over e) = (s, runs.over refl, sym e ∙ S.is)
code_run s S (then x a m k p rest) =
    let (b, h, j, handed, e) = k s S in
    let (s', run, is) = code_run b.state (handed_back x a b h S j e) rest in
    (s', runs.then b j run, is)

pub code_runs_are_runs : CodeRunsAreRuns
code_runs_are_runs s₀ r xs R h = code_run s₀ (record { reached = R; is = refl }) h

-- The calculus answers once.
pub answer_unique : AnswerUnique
answer_unique r x a b (s, S) f g =
    let (c, m, i, M, e) = f s S in
    let (d, n, j, N, h) = g s S in
    let (same, handed) = answered_once s (step_of x) i M j N in
    e ∙ ap₂ packed_answer same handed ∙ sym h

-- What the rules answer and hand on at a state is what `step` promises of its record, which is that of no other.
pub answers_so : (s : states.State) (x : Step) (b : Answer) (h : Option (List ℤ)) → runs.Reached (runs.plain whole) s → Judged whole s (step_of x) b → HandsOn s (step_of x) b.number h
    → Answers (packed_state s) x (packed_answer b h)
answers_so s x b h R j k t T =
    let same = packing_injective s t R T.reached T.is in
    (b, h, subst (λ q. Judged whole q (step_of x) b) same j, subst (λ q. HandsOn q (step_of x) b.number h) same k, refl)

pub every_step_answered : EveryStepAnswered
every_step_answered r x (s, S) =
    let (p, d) = decided s (step_of x) in
    let b = answer p s (step_of x) in
    let j = judged_by whole p s (step_of x) d in
    let (h, k) = every_step_hands s (step_of x) b S.reached j in
    (packed_answer b h, subst (λ (q : State). Answers q x (packed_answer b h)) (sym S.is) (answers_so s x b h S.reached j k))

-- ---- the numbers handed on

-- Numbers or none, by whether the step was accepted and its rule tests
handed_as : (s : states.State) (x : Step) (b : Answer) (h : Option (List ℤ)) → runs.Reached (runs.plain whole) s → Judged whole s (step_of x) b → HandsOn s (step_of x) b.number h
    → HandedOn s x (packed_answer b h)
handed_as s x b h R j k = go (eqb b.number accepted && tests (step_of x)) refl k
  where
    go : (c : Bool) → (eqb b.number accepted && tests (step_of x)) ≡ c → Hands c s.constants (question s (step_of x)) h → HandedOn s x (packed_answer b h)
    go true e (numbers, these, is) =
        let placed = asked_placed s (step_of x) b R j (eqb-true b.number accepted (and_true (eqb b.number accepted) (tests (step_of x)) e).0) in
        subst (λ (o : Option (List ℤ)). HandedOn s x (packed_answer b o)) (sym is) (record {
          exactly_if = ((λ z. subst T (sym e) tt), λ z. tt);
          checked = λ slots e. (numbers, sym (some_same e), numbers_checked s.constants (question s (step_of x)) numbers placed these);
        })
    go false e is = subst (λ (o : Option (List ℤ)). HandedOn s x (packed_answer b o)) (sym is) (record {
      exactly_if = ((λ z. absurd z), λ z. absurd (subst T e z));
      checked = λ slots e. none_some e;
    })

pub step_hands_on : StepHandsOn
step_hands_on r s x a S k = let (b, h, j, handed, e) = k s S in subst (HandedOn s x) (sym e) (handed_as s x b h S.reached j handed)
