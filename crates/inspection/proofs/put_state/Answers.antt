-- Four writers, one after the other, and the records are the state's.
use mathlib.Core.Path.{ap, ap₂, ◌∙◌}
use Prim.Native.Nat.{ℕ, ◌+◌}
use borrow.Author.Rules.{rules}
use lib.ListN.{take}
use Rattle.text.proofs.Text.{and_then, as_text}
use Rattle.clausetext.specs.ClauseText.{in_turn}
use Rattle.inspection.specs.Writing.{clause_line_of, entry_line_of}
use Rattle.inspection.proofs.States.{state_text_lem}
use Rattle.inspection.proofs.put_state.Goals as goal

pub returns : goal.returns
returns c = λ s R.
    let entries = c.prefix-entries.ensures.first ∙ ap (λ (n : ℕ). take n c.args.run.trail) c.from.ensures in
    let clauses = c.prefix.ensures.first ∙ ap₂ (λ (n m : ℕ). take (n + m) c.args.table) c.from-2.ensures c.from-3.ensures in
    let trail = as_text (ap (in_turn 0 entry_line_of) entries) c.put_each-trail.ensures.wrote in
    let table = as_text (ap (in_turn 0 clause_line_of) clauses) c.put_each-clauses.ensures.wrote in
    record { wrote = as_text (state_text_lem R) (and_then (and_then (and_then c.put_first_line-first.ensures.wrote trail) table) c.put_conflict_line.ensures.wrote); room = search rules }
