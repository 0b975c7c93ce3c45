-- Demand 2 excludes the five false tools, by two decisions on one clause; demand 3 over a tool's own steps admits three of them.
use mathlib.Core.Path.{◌∙◌, ◌≡◌, ap, refl, subst, sym}
use mathlib.Core.Logic.{◌⊎◌, inl, inr}
use mathlib.Core.List.{List, [], ◌∷◌}
use mathlib.Core.Option.{Option, none, some}
use mathlib.Core.Bool.{cond, true}
use Prim.Native.Nat.{◌-◌, ◌≤◌, suc, zero, ℕ}
use native.Mathlib.Omega.{arith}
use lib.Dec.{eqb, eqb→eq}
use lib.ListN.{length}
use Rattle.basis.specs.Numbers.{whole}
use Rattle.basis.specs.Refusals.{accepted}
use Rattle.basis.specs.declared.Literal.{Literal}
use Rattle.basis.specs.declared.Version.{Version}
use Rattle.basis.specs.declared.Version.TheVariants.{One, Two}
use Rattle.lists.proofs.Tests.{Said, fails, holds, not_eqb, said}
use Rattle.calculus.specs.Admission.{Admitted, fresh}
use Rattle.calculus.specs.Clauses.{Clause, Instanced, ground, ground_atoms}
use Rattle.calculus.proofs.Computed.{answer}
use Rattle.calculus.specs.Conditions.{Allowed, Judged, literal_at}
use Rattle.calculus.specs.FalseTools.{AcceptsAll, ByTheRules, Demand2ExcludesFive, Demand3AloneAdmits, ExcludesFive, Invents, MeetsDemand2, OwnReplay, Refutation, Report, ThenNods, Tool, nodder, nodding, reached, refuser, work_once}
use Rattle.calculus.specs.Rules.{Answer, brought_at, decided_literal, is_one, next}
use Rattle.calculus.specs.Runs.{restarted, steps_of}
use Rattle.calculus.specs.States.{Backtrack, Conflict, Decide, Factorize, Grow, Propagate, Resolve, Skip, State, Step, Unknown, clause_at, clauses}
use Rattle.calculus.specs.Trails.{Source, decided, foreground, propagated}
use Rattle.calculus.proofs.Admitting.{admitted_exactly}
use Rattle.calculus.proofs.Answers.{accepted_exactly_if_allowed, answer_unique}
use Rattle.calculus.proofs.Certificates.{judged_yes}
use Rattle.calculus.proofs.Trails.{steps_brought, steps_push}

-- ---- one clause P ∨ Q without arguments, decided twice

abbrev literal : ℕ → Literal
literal n = record { positive = true; predicate = n; x = 0; y = 0; z = 0 }

abbrev begun : State
begun = fresh Two 0 (0 ∷ 0 ∷ []) (record { variables = 0; atoms = []; literals = literal 1 ∷ literal 2 ∷ [] } ∷ [])

abbrev decide_p : Step
decide_p = Decide 1 1 1 [] []

abbrev decide_q : Step
decide_q = Decide 1 2 1 [] []

begun_admitted : Admitted begun
begun_admitted = (admitted_exactly Two 0 (0 ∷ 0 ∷ []) begun.input).0 refl

-- What the rules answer to the first and to the second decision
abbrev one : Answer
one = answer true begun decide_p

abbrev two : Answer
two = answer true one.state decide_q

abbrev entries_of : Answer → ℕ
entries_of a = length a.state.trail

module _ (tool : Tool) (meets : MeetsDemand2 tool) where
  first_answer : (tool begun [] decide_p).answer ≡ one
  first_answer = answer_unique whole begun decide_p (tool begun [] decide_p).answer one (meets begun begun_admitted [] decide_p).judged (judged_yes begun decide_p [] tt)

  second_answer : (tool begun (decide_p ∷ []) decide_q).answer ≡ two
  second_answer =
      let s = (tool begun [] decide_p).answer.state in
      let a = (tool begun (decide_p ∷ []) decide_q).answer in
      let e : s ≡ one.state = ap (λ (a : Answer). a.state) first_answer in
      answer_unique whole one.state decide_q a two (subst (λ s. Judged whole s decide_q a) e (meets begun begun_admitted (decide_p ∷ []) decide_q).judged) (judged_yes one.state decide_q [] tt)

  invents_not : ¬ Invents tool
  invents_not i = go (meets i.start i.admitted i.before i.step) i.invented
    where
      r : Report
      r = tool i.start i.before i.step

      go : ByTheRules (reached tool i.start i.before) i.step r → (¬ (r.level ≡ r.answer.state.level)) ⊎ (¬ (r.entries ≡ length r.answer.state.trail)) → ⊥
      go k (inl n) = n k.level
      go k (inr n) = n k.entries

  refuted_not : Refutation (tool begun [] decide_p).answer.state → ⊥
  refuted_not k =
      let e : (tool begun [] decide_p).answer.state.conflict ≡ none = ap (λ (a : Answer). a.state.conflict) first_answer in
      let f = k.stands in
      let z : ◌≡◌ {A = ℕ} 0 1 = cc in
      absurd (omega arith)

  pub excludes_five : ExcludesFive tool
  excludes_five = record {
    not_refuses_all = λ h. h begun [] decide_p (ap (λ (a : Answer). a.number) first_answer);
    not_always_refuted = λ h. refuted_not ((meets begun begun_admitted [] decide_p).refuted.0 (h begun [] decide_p));
    not_leaves_state = λ h. let n : ◌≡◌ {A = ℕ} 1 0 = sym (ap entries_of first_answer) ∙ ap (λ (s : State). length s.trail) (h begun [] decide_p) in absurd (omega arith);
    not_then_nods = λ h. let n : ◌≡◌ {A = ℕ} 2 1 = sym (ap entries_of second_answer) ∙ ap (λ (s : State). length s.trail) (h begun [] decide_p decide_q) ∙ ap entries_of first_answer in absurd (omega arith);
    not_invents = invents_not;
  }

pub demand_2_excludes_five : Demand2ExcludesFive
demand_2_excludes_five tool meets = excludes_five tool meets

-- ---- demand 3 over a tool's own steps

-- What the tool's own replay asks of the state it ends with
abbrev Replays : Tool → State → Type 0
Replays tool s = AcceptsAll tool (restarted s) (steps_of s.trail) × (reached tool (restarted s) (steps_of s.trail) ≡ s)

refuser_stays : (s₀ : State) (xs : List Step) → reached refuser s₀ xs ≡ s₀
refuser_stays s₀ [] = refl
refuser_stays s₀ (x ∷ xs) = refl

nodder_stays : (s₀ : State) (xs : List Step) → reached nodder s₀ xs ≡ s₀
nodder_stays s₀ [] = refl
nodder_stays s₀ (x ∷ xs) = refl

sign_again : (g : ℕ) → g ≤ 1 → cond (is_one g) 1 0 ≡ g
sign_again zero h = refl
sign_again (suc zero) h = refl
sign_again (suc (suc g)) h = absurd (omega arith)

-- The state that a first step leads to
module _ (version : Version) (constants : ℕ) (arities : List ℕ) (cs : List Clause) where
  abbrev start : State
  start = fresh version constants arities cs

  -- A step with the atoms that are looked at
  abbrev looked : Step → Step
  looked (Propagate c l τ) = Propagate c l τ
  looked (Decide c l g τ zs) = Decide c l g τ (brought_at start zs)
  looked (Conflict c τ) = Conflict c τ
  looked (Resolve l) = Resolve l
  looked (Factorize i j) = Factorize i j
  looked Skip = Skip
  looked (Backtrack l) = Backtrack l
  looked (Grow n) = Grow n
  looked (Unknown q) = Unknown q

-- In version 1 the atoms are not looked at, in version 2 they are those that were offered.
decide_judged : (version : Version) (constants : ℕ) (arities : List ℕ) (cs : List Clause) (c l g : ℕ) (τ : List ℕ) (zs : List Source) (a : Answer)
    → Judged whole (fresh version constants arities cs) (Decide c l g τ zs) a → Judged whole (fresh version constants arities cs) (Decide c l g τ (brought_at (fresh version constants arities cs) zs)) a
decide_judged One constants arities cs c l g τ zs a j = record { first_lacking = j.first_lacking; next_state = j.next_state; handed_back = j.handed_back; named = j.named; no_place = j.no_place }
decide_judged Two constants arities cs c l g τ zs a j = j

looked_judged : (version : Version) (constants : ℕ) (arities : List ℕ) (cs : List Clause) (x : Step) (a : Answer)
    → Judged whole (fresh version constants arities cs) x a → Judged whole (fresh version constants arities cs) (looked version constants arities cs x) a
looked_judged v n rs cs (Propagate c l τ) a j = j
looked_judged v n rs cs (Decide c l g τ zs) a j = decide_judged v n rs cs c l g τ zs a j
looked_judged v n rs cs (Conflict c τ) a j = j
looked_judged v n rs cs (Resolve l) a j = j
looked_judged v n rs cs (Factorize i k) a j = j
looked_judged v n rs cs Skip a j = j
looked_judged v n rs cs (Backtrack l) a j = j
looked_judged v n rs cs (Grow m) a j = j
looked_judged v n rs cs (Unknown q) a j = j

module _ (version : Version) (constants : ℕ) (arities : List ℕ) (cs : List Clause) where
  abbrev begin : State
  begin = start version constants arities cs

  abbrev again_as : Step → Step
  again_as = looked version constants arities cs

  no_standing : {K : Instanced} → ◌≡◌ {A = Option Instanced} none (some K) → ⊥
  no_standing e = let z : ◌≡◌ {A = ℕ} 0 1 = cc in omega arith

  -- Replayed by the step itself, or by none
  abbrev Again : Step → Type 0
  Again x = ((steps_of (next begin x).trail ≡ again_as x ∷ []) × (restarted (next begin x) ≡ begin)) ⊎ ((steps_of (next begin x).trail ≡ []) × (restarted (next begin x) ≡ next begin x))

  again : (x : Step) → Allowed whole begin x → (next begin x).conflict ≡ none → Again x
  again (Propagate c l τ) h calm = inl (steps_push (ground_atoms τ (clause_at (clauses begin) c).atoms) (foreground (ground τ (literal_at (clause_at (clauses begin) c) l)) (propagated c l τ) ∷ []), refl)
  again (Decide c l g τ zs) h calm =
      let ws = brought_at begin zs in
      inl (steps_brought cs' ws (foreground (decided_literal (clause_at cs' c) (l - 1) (is_one g) τ) (decided c l (is_one g) τ (length ws)) ∷ []) ∙ ap (λ n. Decide c l n τ ws ∷ []) (sign_again g h.1.0.0), refl)
    where
      cs' : List Clause
      cs' = clauses begin
  again (Conflict c τ) h calm = absurd (no_standing (sym calm))
  again (Resolve l) h calm = absurd (no_standing h.0)
  again (Factorize i j) h calm = absurd (no_standing h.0)
  again Skip h calm = absurd (no_standing h.0)
  again (Backtrack l) h calm = absurd (no_standing h.0)
  again (Grow n) h calm = inr (refl, refl)
  again (Unknown r) h calm = absurd h.0

  module _ (right : State → Step → Answer) (by-rules : (s : State) (x : Step) → Judged whole s x (right s x)) where
    -- It is answered as the step itself.
    looked_alike : (x : Step) → right begin (again_as x) ≡ right begin x
    looked_alike x = answer_unique whole begin (again_as x) (right begin (again_as x)) (right begin x) (by-rules begin (again_as x)) (looked_judged version constants arities cs x (right begin x) (by-rules begin x))

    first_replays : (x : Step) → (right begin x).state.conflict ≡ none → Replays (work_once right) (right begin x).state
    first_replays x calm = go (said (eqb (right begin x).number accepted))
      where
        a : Answer
        a = right begin x

        replayed-so : a.number ≡ accepted → a.state ≡ next begin x → Again x → Replays (work_once right) a.state
        replayed-so n e (inl (q, r)) = rw (ap (λ (s : State). steps_of s.trail) e ∙ q, ap restarted e ∙ r) ((ap (λ (b : Answer). b.number) (looked_alike x) ∙ n, tt), ap (λ (b : Answer). b.state) (looked_alike x))
        replayed-so n e (inr (q, r)) = rw (ap (λ (s : State). steps_of s.trail) e ∙ q) (tt, ap restarted e ∙ r ∙ sym e)

        go : Said (eqb a.number accepted) → Replays (work_once right) a.state
        go (holds t) =
            let n = eqb→eq a.number accepted t in
            let e = (by-rules begin x).next_state n in
            replayed-so n e (again x ((accepted_exactly_if_allowed whole begin x a (by-rules begin x)).0 n) (subst (λ (s : State). s.conflict ≡ none) e calm))
        go (fails t) = rw ((by-rules begin x).handed_back (not_eqb a.number accepted t)) (tt, refl)

    nodding_replays : (xs : List Step) → (nodding right begin xs).conflict ≡ none → Replays (work_once right) (nodding right begin xs)
    nodding_replays [] calm = (tt, refl)
    nodding_replays (x ∷ []) calm = first_replays x calm
    nodding_replays (x ∷ (y ∷ xs)) calm = nodding_replays (y ∷ xs) calm

module _ (right : State → Step → Answer) (by-rules : (s : State) (x : Step) → Judged whole s x (right s x)) where
  reached_nodding : (s₀ : State) (xs : List Step) → reached (work_once right) s₀ xs ≡ nodding right s₀ xs
  reached_nodding s₀ [] = refl
  reached_nodding s₀ (x ∷ []) = refl
  reached_nodding s₀ (x ∷ (y ∷ xs)) = refl

  work_once_nods : ThenNods (work_once right)
  work_once_nods s₀ [] y x = refl
  work_once_nods s₀ (z ∷ xs) y x = refl

  work_once_replays : OwnReplay (work_once right)
  work_once_replays s₀ A xs calm =
      let k = subst (λ s. (nodding right s xs).conflict ≡ none → Replays (work_once right) (nodding right s xs)) (sym A.new) (nodding_replays s₀.version s₀.constants s₀.arities s₀.input right by-rules xs) in
      subst (Replays (work_once right)) (sym (reached_nodding s₀ xs)) (k (subst (λ (s : State). s.conflict ≡ none) (reached_nodding s₀ xs) calm))

-- Any tool replays a state with nothing on its trail.
fresh_replays : (tool : Tool) (s : State) → Admitted s → Replays tool s
fresh_replays tool s A = subst (Replays tool) (sym A.new) (tt, refl)

pub demand_3_alone_admits : Demand3AloneAdmits
demand_3_alone_admits = record {
  first = (λ s₀ xs x e. absurd (omega arith), λ s₀ A xs calm. subst (Replays refuser) (sym (refuser_stays s₀ xs)) (fresh_replays refuser s₀ A));
  third = (λ s₀ xs x. sym (nodder_stays s₀ xs), λ s₀ A xs calm. subst (Replays nodder) (sym (nodder_stays s₀ xs)) (fresh_replays nodder s₀ A));
  fourth = λ right by-rules. (work_once_nods right by-rules, work_once_replays right by-rules);
}
