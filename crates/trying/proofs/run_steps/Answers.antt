use Rattle.std.proofs.Common.{Result, Ok, None, Some, ℕ, ◌≤◌, ap, subst}
use Rattle.rules.proofs.Asking.{some_number}
use Rattle.basis.specs.declared.Refused.{Refused}
use Rattle.rules.specs.declared.Stepped.{Stepped}
use Rattle.rules.specs.Records.{accepted_answer, outcome}
use mathlib.Core.Path.{◌≡◌, refl, ◌∙◌}
use Prim.Native.Nat.{◌+◌, ◌≤◌}
use native.Mathlib.Omega.{arith}
use lib.ListN.{length}
use Rattle.basis.specs.Limits.{most_clauses}
use Rattle.runfile.specs.File.{most_steps, step}
use Rattle.rules.specs.Answers.{Told}
use Rattle.asking.specs.Steps.{step_of}
use Rattle.asking.specs.declared.Step.{Step}
use Rattle.asking.proofs.Finding.{named_first}
use Rattle.rules.proofs.Runs.{kept_small}
use Rattle.state.specs.States.{table_after}
use Rattle.state.proofs.Table.{slot_free, table_left, table_written}
use Rattle.steps.proofs.Decisions.{outline_told}
use Rattle.steps.specs.Records.{step_there}
use Rattle.listing.specs.Lines.{most_line}
use Rattle.trying.proofs.Ending.{last_fits, listed, recorded, shown, state_fits}
use Rattle.trying.proofs.Outlines.{backtracks, conflicts, factorizes, grows, propagates, resolves, skips}
use Rattle.trying.proofs.Running.{Ran, beneath_fits, done, finds_more, handed, handed_named, kept, line_fits, never_refused, ran_as, start, stop, told_alone, told_looked, told_named, turn, whole_told}
use Rattle.trying.proofs.run_steps.Goals as goal
use Rattle.trying.proofs.run_steps.Goals.{In-steps, Joined-told, Joined-stepped, Left-steps, in-Some, in_default-learned, else-steps-test, then-steps-test+in-Ok+in-Err, in-Propagate, in-Decide+else-loop-i-test, in-Conflict, in-Resolve, in-Factorize, in-Skip, in-Backtrack, in-Grow}

-- ---- a turn: there is one more step, ..
line_room : (c : In-steps) → (c.steps.j + 1 ≤ most_steps) × (c.steps.at + most_line ≤ length c.steps.out)
line_room c = line_fits c.steps.invariant.2 c.steps-test.true c.args.shown c.requires.1

-- .. and it has answered, whichever it is.
module _ (c : Joined-told) where
  abbrev x : Step
  x = step_there (step c.form_of-form.result c.args.file.now c.steps.cursor)

  told : Told c.steps.invariant.2.state (step_of x) (outcome c.steps.run c.match-told.a)
  told =
      let read = outline_told c.args.file.now c.form_of-form.result c.steps.cursor c.in-Ok.told c.in-Ok.ensures in
      elim c.match-told.branch [
        | in-Propagate w ↦ told_looked c.steps.invariant.2 x c.in-Ok.told read c.from-rule.ensures c.last_slot.ensures c.number_looked-c.ensures c.slot_of.ensures.0 c.looked_at-looked.ensures (propagates x c.in-Ok.told read w.in-Propagate.is) (ap (outcome c.steps.run) w.a-is) w.propagate-a.ensures
        | in-Decide+else-loop-i-test w ↦
            told_named c.steps.invariant.2 x c.in-Ok.told read c.from-rule.ensures c.last_slot.ensures c.number_looked-c.ensures c.slot_of.ensures.0 c.looked_at-looked.ensures w.decision_at-x.result (whole_told c.form_of-form.result c.args.file.now c.steps.cursor c.in-Ok.told read w.in-Decide.is w.decision_at-x.ensures) w.in-Decide.is w.count_looked-brought.ensures.0
            w.loop-i-test.false w.loop-i.invariant (ap (outcome c.steps.run) w.a-is) w.decide-a.ensures
        | in-Conflict w ↦ told_looked c.steps.invariant.2 x c.in-Ok.told read c.from-rule.ensures c.last_slot.ensures c.number_looked-c.ensures c.slot_of.ensures.0 c.looked_at-looked.ensures (conflicts x c.in-Ok.told read w.in-Conflict.is) (ap (outcome c.steps.run) w.a-is) w.conflict-a.ensures
        | in-Resolve w ↦ told_looked c.steps.invariant.2 x c.in-Ok.told read c.from-rule.ensures c.last_slot.ensures c.number_looked-c.ensures c.slot_of.ensures.0 c.looked_at-looked.ensures (resolves x c.in-Ok.told read w.in-Resolve.is) (ap (outcome c.steps.run) w.a-is) w.resolve-a.ensures
        | in-Factorize w ↦ told_alone c.steps.invariant.2 x c.in-Ok.told read c.from-rule.ensures c.last_slot.ensures c.number_looked-c.ensures c.slot_of.ensures.0 c.looked_at-looked.ensures (factorizes x c.in-Ok.told read w.in-Factorize.is) (ap (outcome c.steps.run) w.a-is) w.factorize-a.ensures
        | in-Skip w ↦ told_alone c.steps.invariant.2 x c.in-Ok.told read c.from-rule.ensures c.last_slot.ensures c.number_looked-c.ensures c.slot_of.ensures.0 c.looked_at-looked.ensures (skips x c.in-Ok.told read w.in-Skip.is) (ap (outcome c.steps.run) w.a-is) w.skip-a.ensures
        | in-Backtrack w ↦ told_alone c.steps.invariant.2 x c.in-Ok.told read c.from-rule.ensures c.last_slot.ensures c.number_looked-c.ensures c.slot_of.ensures.0 c.looked_at-looked.ensures (backtracks x c.in-Ok.told read w.in-Backtrack.is) (ap (outcome c.steps.run) w.a-is) w.backtrack-a.ensures
        | in-Grow w ↦ told_alone c.steps.invariant.2 x c.in-Ok.told read c.from-rule.ensures c.last_slot.ensures c.number_looked-c.ensures c.slot_of.ensures.0 c.looked_at-looked.ensures (grows x c.in-Ok.told read w.in-Grow.is) (ap (outcome c.steps.run) w.a-is) w.grow-a.ensures
      ]

  told_ok : {a : Stepped} → c.match-told.a ≡ Ok a → Told c.steps.invariant.2.state (step_of x) (accepted_answer a)
  told_ok e = subst (λ (o : Result Stepped (Refused ℕ)). Told c.steps.invariant.2.state (step_of x) (outcome c.steps.run o)) e told

  slot_known : {a : Stepped} → c.match-told.a ≡ Ok a → (n : ℕ) → a.learned ≡ Some n → (1 ≤ n) × (n ≤ most_clauses)
  slot_known {a} e = slot_free c.steps.invariant.2.run_of (step_of x) (accepted_answer a) (told_ok e)

-- What was learned is written.
written : (c : Joined-stepped) → c.match-stepped.table ≡ table_after c.steps.table c.steps.run (accepted_answer c.in-Ok-a.stepped)
written c =
    elim c.match-stepped.branch [
      | in-Some w ↦ w.table-is ∙ table_written c.steps.table c.steps.run (accepted_answer c.in-Ok-a.stepped) w.in-Some.n w.in-Some.is
      | in_default-learned w ↦ w.table-is ∙ table_left c.steps.table c.steps.run (accepted_answer c.in-Ok-a.stepped) w.in_default-learned.is
    ]

-- ---- after the loop, whichever way it was left
ran : (c : Left-steps) → Ran c.args.numbered c.args.file.now c.args.out.now c.steps-test.out c.steps.run c.steps.table c.steps-test.number c.steps-test.place c.steps-test.at
ran c =
    elim c.steps-test.branch [
      | else-steps-test w ↦
          ran_as (done c.steps.invariant.2 w.steps-test.false) w.out-is w.at-is (w.number-is ∙ c.steps.invariant.0) (w.place-is ∙ c.steps.invariant.1)
      | then-steps-test+in-Ok+in-Err w ↦
          let x = step_there (step c.form_of-form.result c.args.file.now c.steps.cursor) in
          let read = outline_told c.args.file.now c.form_of-form.result c.steps.cursor w.in-Ok.told w.in-Ok.ensures in
          let told : Told c.steps.invariant.2.state (step_of x) (outcome c.steps.run w.match-told.a) =
          elim w.match-told.branch [
            | in-Propagate w' ↦ told_looked c.steps.invariant.2 x w.in-Ok.told read w.from-rule.ensures w.last_slot.ensures w.number_looked-c.ensures w.slot_of.ensures.0 w.looked_at-looked.ensures (propagates x w.in-Ok.told read w'.in-Propagate.is) (ap (outcome c.steps.run) w'.a-is) w'.propagate-a.ensures
            | in-Decide+else-loop-i-test w' ↦
                told_named c.steps.invariant.2 x w.in-Ok.told read w.from-rule.ensures w.last_slot.ensures w.number_looked-c.ensures w.slot_of.ensures.0 w.looked_at-looked.ensures w'.decision_at-x.result (whole_told c.form_of-form.result c.args.file.now c.steps.cursor w.in-Ok.told read w'.in-Decide.is w'.decision_at-x.ensures) w'.in-Decide.is w'.count_looked-brought.ensures.0
                w'.loop-i-test.false w'.loop-i.invariant (ap (outcome c.steps.run) w'.a-is) w'.decide-a.ensures
            | in-Conflict w' ↦ told_looked c.steps.invariant.2 x w.in-Ok.told read w.from-rule.ensures w.last_slot.ensures w.number_looked-c.ensures w.slot_of.ensures.0 w.looked_at-looked.ensures (conflicts x w.in-Ok.told read w'.in-Conflict.is) (ap (outcome c.steps.run) w'.a-is) w'.conflict-a.ensures
            | in-Resolve w' ↦ told_looked c.steps.invariant.2 x w.in-Ok.told read w.from-rule.ensures w.last_slot.ensures w.number_looked-c.ensures w.slot_of.ensures.0 w.looked_at-looked.ensures (resolves x w.in-Ok.told read w'.in-Resolve.is) (ap (outcome c.steps.run) w'.a-is) w'.resolve-a.ensures
            | in-Factorize w' ↦ told_alone c.steps.invariant.2 x w.in-Ok.told read w.from-rule.ensures w.last_slot.ensures w.number_looked-c.ensures w.slot_of.ensures.0 w.looked_at-looked.ensures (factorizes x w.in-Ok.told read w'.in-Factorize.is) (ap (outcome c.steps.run) w'.a-is) w'.factorize-a.ensures
            | in-Skip w' ↦ told_alone c.steps.invariant.2 x w.in-Ok.told read w.from-rule.ensures w.last_slot.ensures w.number_looked-c.ensures w.slot_of.ensures.0 w.looked_at-looked.ensures (skips x w.in-Ok.told read w'.in-Skip.is) (ap (outcome c.steps.run) w'.a-is) w'.skip-a.ensures
            | in-Backtrack w' ↦ told_alone c.steps.invariant.2 x w.in-Ok.told read w.from-rule.ensures w.last_slot.ensures w.number_looked-c.ensures w.slot_of.ensures.0 w.looked_at-looked.ensures (backtracks x w.in-Ok.told read w'.in-Backtrack.is) (ap (outcome c.steps.run) w'.a-is) w'.backtrack-a.ensures
            | in-Grow w' ↦ told_alone c.steps.invariant.2 x w.in-Ok.told read w.from-rule.ensures w.last_slot.ensures w.number_looked-c.ensures w.slot_of.ensures.0 w.looked_at-looked.ensures (grows x w.in-Ok.told read w'.in-Grow.is) (ap (outcome c.steps.run) w'.a-is) w'.grow-a.ensures
          ] in
          let refused : Told c.steps.invariant.2.state (step_of x) (record { run = c.steps.run; number = w.from-number.result; place = w.in-Err.refused.place; learned = None; witness = None }) =
          rw w.from-number.ensures (subst (λ (o : Result Stepped (Refused ℕ)). Told c.steps.invariant.2.state (step_of x) (outcome c.steps.run o)) w.in-Err.is told) in
          ran_as (stop c.steps.invariant.2 w.steps-test.true c.form_of-form.ensures w.in-Ok.told w.in-Ok.ensures w.from-rule.ensures refused (rw w.from-number.ensures (some_number w.in-Err.refused.refusal)) w.put_refused-at.ensures) w.out-is w.at-is
          w.number-is w.place-is
    ]

pub steps-init : goal.steps-init
steps-init c =
    (refl, refl, start c.args.numbered c.args.file.now c.args.out.now c.args.head c.args.first c.requires.0 c.new_run-run.ensures c.read_clauses-table.ensures)

pub unreachable-requires : goal.unreachable-requires
unreachable-requires c = never_refused c.steps.invariant.2 c.steps-test.true c.form_of-form.ensures c.in_default.ensures

pub offset_bounds-run-last_slot : goal.offset_bounds-run-last_slot
offset_bounds-run-last_slot c = omega (arith, c.last_slot.ensures, (kept_small (kept c.steps.invariant.2)).few_entries)

pub bounds-run-last_slot : goal.bounds-run-last_slot
bounds-run-last_slot c = omega (arith, c.last_slot.ensures, (kept_small (kept c.steps.invariant.2)).few_entries)

pub propagate-a-requires : goal.propagate-a-requires
propagate-a-requires c =
    let x = step_there (step c.form_of-form.result c.args.file.now c.steps.cursor) in
    let read = outline_told c.args.file.now c.form_of-form.result c.steps.cursor c.in-Ok.told c.in-Ok.ensures in
    handed c.steps.invariant.2 x c.in-Ok.told read c.from-rule.ensures c.last_slot.ensures c.number_looked-c.ensures c.slot_of.ensures.0 c.looked_at-looked.ensures (propagates x c.in-Ok.told read c.in-Propagate.is)

pub loop-i-init : goal.loop-i-init
loop-i-init c = λ s R is. named_first s c.decision_at-x.result c.no_atom-none.ensures

pub overflow_add-run : goal.overflow_add-run
overflow_add-run c = let few = kept_small (kept c.steps.invariant.2) in omega (arith, few.few_input, few.few_learned)

pub loop-i-preserved : goal.loop-i-preserved
loop-i-preserved c =
    finds_more c.steps.invariant.2 c.decision_at-x.result c.count_looked-brought.ensures.0 c.loop-i.i c.loop-i-test.true c.count_looked-brought.ensures.2
    c.slot_of-in-loop-i.ensures.0 c.looked_at-of.ensures c.named_rightly-right.ensures refl c.source_atom.ensures c.loop-i.invariant

pub decide-a-requires : goal.decide-a-requires
decide-a-requires c =
    let read = outline_told c.args.file.now c.form_of-form.result c.steps.cursor c.in-Ok.told c.in-Ok.ensures in
    handed_named c.steps.invariant.2 _ c.in-Ok.told read c.from-rule.ensures c.last_slot.ensures c.number_looked-c.ensures c.slot_of.ensures.0 c.looked_at-looked.ensures
    c.decision_at-x.result (whole_told c.form_of-form.result c.args.file.now c.steps.cursor c.in-Ok.told read c.in-Decide.is c.decision_at-x.ensures) c.in-Decide.is c.count_looked-brought.ensures.0 c.loop-i-test.false c.loop-i.invariant

pub conflict-a-requires : goal.conflict-a-requires
conflict-a-requires c =
    let x = step_there (step c.form_of-form.result c.args.file.now c.steps.cursor) in
    let read = outline_told c.args.file.now c.form_of-form.result c.steps.cursor c.in-Ok.told c.in-Ok.ensures in
    handed c.steps.invariant.2 x c.in-Ok.told read c.from-rule.ensures c.last_slot.ensures c.number_looked-c.ensures c.slot_of.ensures.0 c.looked_at-looked.ensures (conflicts x c.in-Ok.told read c.in-Conflict.is)

pub resolve-a-requires : goal.resolve-a-requires
resolve-a-requires c =
    let x = step_there (step c.form_of-form.result c.args.file.now c.steps.cursor) in
    let read = outline_told c.args.file.now c.form_of-form.result c.steps.cursor c.in-Ok.told c.in-Ok.ensures in
    handed c.steps.invariant.2 x c.in-Ok.told read c.from-rule.ensures c.last_slot.ensures c.number_looked-c.ensures c.slot_of.ensures.0 c.looked_at-looked.ensures (resolves x c.in-Ok.told read c.in-Resolve.is)

pub overflow_sub-table : goal.overflow_sub-table
overflow_sub-table c = (slot_known (goal.at.overflow_sub-table c).Joined-told c.in-Ok-a.is c.in-Some.n c.in-Some.is).0

pub bounds-table-n : goal.bounds-table-n
bounds-table-n c = let known = slot_known (goal.at.bounds-table-n c).Joined-told c.in-Ok-a.is c.in-Some.n c.in-Some.is in omega arith

pub put_beneath-at-requires : goal.put_beneath-at-requires
put_beneath-at-requires c =
    beneath_fits c.steps.invariant.2 c.steps-test.true c.form_of-form.ensures c.in-Ok.told c.in-Ok.ensures c.from-rule.ensures (told_ok (goal.at.put_beneath-at-requires c).Joined-told c.in-Ok-a.is) c.args.shown c.requires.1
    refl c.put_accepted-at.ensures

pub steps-preserved : goal.steps-preserved
steps-preserved c = (
  c.steps.invariant.0,
  c.steps.invariant.1,
  turn c.steps.invariant.2 c.steps-test.true c.form_of-form.ensures c.in-Ok.told c.in-Ok.ensures c.from-rule.ensures (told_ok (goal.at.steps-preserved c).Joined-told c.in-Ok-a.is) refl refl
      (written (goal.at.steps-preserved c).Joined-stepped) c.put_accepted-at.ensures c.put_beneath-at.ensures,
)

pub put_last-last-requires : goal.put_last-last-requires
put_last-last-requires c = last_fits (ran (goal.at.put_last-last-requires c).Left-steps) c.args.shown c.requires.1

pub put_state-count-requires : goal.put_state-count-requires
put_state-count-requires c =
    let r = ran (goal.at.put_state-count-requires c).Left-steps in
    (state_fits r c.put_last-last.ensures c.args.shown c.if-shown.true c.requires.1, (_, recorded r))

pub returns-then-shown : goal.returns-then-shown
returns-then-shown c =
    shown (ran (goal.at.returns-then-shown c).Left-steps) c.put_last-last.ensures c.args.shown c.if-shown.true c.put_state-count.ensures

pub returns-else-shown : goal.returns-else-shown
returns-else-shown c = listed (ran (goal.at.returns-else-shown c).Left-steps) c.put_last-last.ensures c.args.shown c.if-shown.false
