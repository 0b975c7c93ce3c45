use Rattle.std.proofs.Common.{Result, Ok, Err, Some, refl, ℕ, ◌≤◌}
use Rattle.basis.specs.declared.Refused.{Refused}
use Rattle.rules.specs.declared.Stepped.{Stepped}
use Rattle.rules.specs.Records.{accepted_answer, outcome}
use mathlib.Core.Path.{◌∙◌, ◌≡◌, ap, subst, sym}
use native.Mathlib.Omega.{arith}
use Rattle.basis.proofs.RuleNumbers.{numbered_none}
use Rattle.basis.specs.Limits.{most_clauses}
use Rattle.basis.specs.declared.Rule.TheVariants.{Propagate, Decide, Conflict, Resolve, Factorize, Skip, Backtrack, Grow}
use Rattle.basis.specs.declared.Version.{Version}
use Rattle.clauses.proofs.Records.{past_table}
use Rattle.rules.proofs.Runs.{clauses_is, constants_is, fine, kept_small, version_is}
use Rattle.rules.proofs.Steps.{answered_as, answers_as, backtrack_step, conflict_step, decide_step, factorize_step, grow_step, handed_as, propagate_step, resolve_step, skip_step, unknown_step}
use Rattle.rules.specs.Answers.{AnsweredNamed, Handed, HandedNamed, Kept, Told}
use Rattle.asking.proofs.Finding.{named_first, named_last, named_turn}
use Rattle.asking.specs.Looking.{count_looked, looked_at, named_at}
use Rattle.asking.specs.Steps.{step_of}
use Rattle.asking.specs.declared.Named.{Named}
use Rattle.asking.specs.declared.Step.{Step}
use Rattle.calculus.specs.States as states
use Rattle.state.specs.States.{Made, StateOf}
use Rattle.state.specs.declared.State.{State}
use Rattle.state.proofs.Ruled.{ruled}
use Rattle.state.proofs.Table.{any_named, found, looks_at_lem, named_as, run_of, slot_free, step_answers, table_is, table_left, table_written}
use Rattle.state.proofs.State.step.Goals as goal
use Rattle.state.proofs.State.step.Goals.{After-loop-j, Joined-try_from, in-Ok-Propagate, in-Ok-Decide, in-Ok-Conflict, in-Ok-Resolve, in-Ok-Factorize, in-Ok-Skip, in-Ok-Backtrack, in-Ok-Grow, in-Err}

module _ (c : After-loop-j) where
  abbrev self : State
  self = c.args.self

  abbrev x : Step
  x = c.args.x

  abbrev named : Named
  named = record { right = c.loop-j.right; at = c.loop-j.at }

  abbrev made : Made self
  made = c.requires

  looked-is : {s : states.State} → StateOf self s → c.looked_at-looked.result ≡ looked_at s (step_of x)
  looked-is S = looks_at_lem (run_of S) (table_is S) x c.last_slot.ensures c.number_looked-c.ensures c.slot_of.ensures.0 c.looked_at-looked.ensures

  named-is : {s : states.State} → StateOf self s → named ≡ named_at s (step_of x)
  named-is {s} S = c.loop-j.invariant s S ∙ named_last s x (c.count_looked-n.ensures.0 ∙ ap (λ (v : Version). count_looked v x) (version_is (run_of S))) c.loop-j-test.false

  kept : Kept self.run
  kept = (made.0, run_of made.1)

  handed : Handed self.run c.looked_at-looked.result (step_of x)
  handed = (made.0, run_of made.1, looked-is made.1)

  handed-named : HandedNamed self.run c.looked_at-looked.result named (step_of x)
  handed-named = (made.0, run_of made.1, looked-is made.1, named-is made.1)

answered : (c : Joined-try_from) → AnsweredNamed c.args.self.run c.looked_at-looked.result (record { right = c.loop-j.right; at = c.loop-j.at }) (step_of c.args.x) (outcome c.args.self.run c.match-try_from.a)
answered c =
    let x = c.args.x in
    elim c.match-try_from.branch [
      | in-Ok-Propagate w ↦ any_named (answered_as (propagate_step x (ruled w.in-Ok-Propagate.ensures w.in-Ok-Propagate.field-0-is)) (ap (outcome c.args.self.run) w.a-is) w.propagate-a.ensures)
      | in-Ok-Decide w ↦ named_as (decide_step x (ruled w.in-Ok-Decide.ensures w.in-Ok-Decide.field-0-is)) (ap (outcome c.args.self.run) w.a-is) w.decide-a.ensures
      | in-Ok-Conflict w ↦ any_named (answered_as (conflict_step x (ruled w.in-Ok-Conflict.ensures w.in-Ok-Conflict.field-0-is)) (ap (outcome c.args.self.run) w.a-is) w.conflict-a.ensures)
      | in-Ok-Resolve w ↦ any_named (answered_as (resolve_step x (ruled w.in-Ok-Resolve.ensures w.in-Ok-Resolve.field-0-is)) (ap (outcome c.args.self.run) w.a-is) w.resolve-a.ensures)
      | in-Ok-Factorize w ↦ any_named (answers_as (factorize_step x (ruled w.in-Ok-Factorize.ensures w.in-Ok-Factorize.field-0-is)) (ap (outcome c.args.self.run) w.a-is) w.factorize-a.ensures)
      | in-Ok-Skip w ↦ any_named (answers_as (skip_step x (ruled w.in-Ok-Skip.ensures w.in-Ok-Skip.field-0-is)) (ap (outcome c.args.self.run) w.a-is) w.skip-a.ensures)
      | in-Ok-Backtrack w ↦ any_named (answers_as (backtrack_step x (ruled w.in-Ok-Backtrack.ensures w.in-Ok-Backtrack.field-0-is)) (ap (outcome c.args.self.run) w.a-is) w.backtrack-a.ensures)
      | in-Ok-Grow w ↦ any_named (answers_as (grow_step x (ruled w.in-Ok-Grow.ensures w.in-Ok-Grow.field-0-is)) (ap (outcome c.args.self.run) w.a-is) w.grow-a.ensures)
      | in-Err w ↦
          let none = numbered_none x.rule _ (sym w.in-Err.ensures) in
          any_named
          (answers_as (unknown_step x (none Propagate) (none Decide) (none Conflict) (none Resolve) (none Factorize) (none Skip) (none Backtrack) (none Grow)) (ap (outcome c.args.self.run) w.a-is)
          w.unknown-a.ensures)
    ]

module _ (c : Joined-try_from) {s : states.State} (S : StateOf c.args.self s) (looked : c.looked_at-looked.result ≡ looked_at s (step_of c.args.x)) (named : ◌≡◌ {A = Named} (record { right = c.loop-j.right; at = c.loop-j.at }) (named_at s (step_of c.args.x))) where
  told : Told s (step_of c.args.x) (outcome c.args.self.run c.match-try_from.a)
  told = answered c s (run_of S) looked named

  told_ok : {a : Stepped} → c.match-try_from.a ≡ Ok a → Told s (step_of c.args.x) (accepted_answer a)
  told_ok e = subst (λ (o : Result Stepped (Refused ℕ)). Told s (step_of c.args.x) (outcome c.args.self.run o)) e told

  told_err : {e : Refused ℕ} → c.match-try_from.a ≡ Err e → Told s (step_of c.args.x) (outcome c.args.self.run (Err e))
  told_err e = subst (λ (o : Result Stepped (Refused ℕ)). Told s (step_of c.args.x) (outcome c.args.self.run o)) e told

  slot_known : {a : Stepped} → c.match-try_from.a ≡ Ok a → (n : ℕ) → a.learned ≡ Some n → (1 ≤ n) × (n ≤ most_clauses)
  slot_known {a} e = slot_free (run_of S) _ (accepted_answer a) (told_ok e)

pub bounds-run-last_slot : goal.bounds-run-last_slot
bounds-run-last_slot c = omega (arith, c.last_slot.ensures, (kept_small (c.requires.0, run_of c.requires.1)).few_entries)

pub loop-j-init : goal.loop-j-init
loop-j-init c = λ s S. named_first s c.args.x c.no_atom-none.ensures

pub overflow_add-run : goal.overflow_add-run
overflow_add-run c = let few = kept_small (c.requires.0, run_of c.requires.1) in omega (arith, few.few_input, few.few_learned)

pub loop-j-preserved : goal.loop-j-preserved
loop-j-preserved c =
    let a = c.args in
    let n = c.count_looked-n in
    λ s S. named_turn s (fine (run_of S)).limited a.self.table (found (run_of S) (table_is S) past_table) a.x c.loop-j.j (constants_is (run_of S)) (clauses_is (run_of S))
    (omega (arith, c.loop-j-test.true, n.ensures.0, ap (λ (v : Version). count_looked v a.x) (version_is (run_of S)))) n.ensures.2
    c.slot_of-in-loop-j.ensures.0 c.looked_at-of.ensures c.named_rightly-right.ensures refl c.source_atom.ensures (c.loop-j.invariant s S)

pub propagate-a-requires : goal.propagate-a-requires
propagate-a-requires c = handed_as (propagate_step c.args.x (ruled c.in-Ok-Propagate.ensures c.in-Ok-Propagate.field-0-is)) (handed (goal.at.propagate-a-requires c).After-loop-j)

pub decide-a-requires : goal.decide-a-requires
decide-a-requires c = subst (HandedNamed c.args.self.run c.looked_at-looked.result (named (goal.at.decide-a-requires c).After-loop-j)) (decide_step c.args.x (ruled c.in-Ok-Decide.ensures c.in-Ok-Decide.field-0-is)) (handed-named (goal.at.decide-a-requires c).After-loop-j)

pub conflict-a-requires : goal.conflict-a-requires
conflict-a-requires c = handed_as (conflict_step c.args.x (ruled c.in-Ok-Conflict.ensures c.in-Ok-Conflict.field-0-is)) (handed (goal.at.conflict-a-requires c).After-loop-j)

pub resolve-a-requires : goal.resolve-a-requires
resolve-a-requires c = handed_as (resolve_step c.args.x (ruled c.in-Ok-Resolve.ensures c.in-Ok-Resolve.field-0-is)) (handed (goal.at.resolve-a-requires c).After-loop-j)

pub overflow_sub-clause : goal.overflow_sub-clause
overflow_sub-clause c =
    let r = (goal.at.overflow_sub-clause c).After-loop-j in
    let S = c.requires.1 in
    (slot_known (goal.at.overflow_sub-clause c).Joined-try_from S (looked-is r S) (named-is r S) c.in-Ok.is c.in-Some.number c.in-Some.is).0

pub bounds-state-number : goal.bounds-state-number
bounds-state-number c =
    let r = (goal.at.bounds-state-number c).After-loop-j in
    let S = c.requires.1 in
    let known = slot_known (goal.at.bounds-state-number c).Joined-try_from S (looked-is r S) (named-is r S) c.in-Ok.is c.in-Some.number c.in-Some.is in
    omega arith

pub returns-in-Some : goal.returns-in-Some
returns-in-Some c =
    let r = (goal.at.returns-in-Some c).After-loop-j in
    let came = (goal.at.returns-in-Some c).Joined-try_from in
    λ s S. step_answers S c.args.x _ (told_ok came S (looked-is r S) (named-is r S) c.in-Ok.is) _ (table_written c.args.self.table c.args.self.run (accepted_answer c.in-Ok.stepped) c.in-Some.number c.in-Some.is)

pub returns-in_default : goal.returns-in_default
returns-in_default c =
    let r = (goal.at.returns-in_default c).After-loop-j in
    let came = (goal.at.returns-in_default c).Joined-try_from in
    λ s S. step_answers S c.args.x _ (told_ok came S (looked-is r S) (named-is r S) c.in-Ok.is) _ (table_left c.args.self.table c.args.self.run (accepted_answer c.in-Ok.stepped) c.in_default.is)

pub returns-in-Err-a : goal.returns-in-Err-a
returns-in-Err-a c =
    let r = (goal.at.returns-in-Err-a c).After-loop-j in
    let came = (goal.at.returns-in-Err-a c).Joined-try_from in
    rw c.from.ensures (λ s S. step_answers S c.args.x _ (told_err came S (looked-is r S) (named-is r S) c.in-Err-a.is) _ (table_left c.args.self.table c.args.self.run (outcome c.args.self.run (Err c.in-Err-a.refused)) refl))
