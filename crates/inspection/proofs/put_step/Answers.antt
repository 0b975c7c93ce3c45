-- Six writers, one after the other.
use mathlib.Core.Path.{ap, ◌∙◌}
use borrow.Author.Rules.{rules}
use lib.ListN.{take}
use Prim.Native.Nat.{ℕ}
use Rattle.text.proofs.Text.{and_then, as_text}
use Rattle.clausetext.specs.ClauseText.{tuple_text}
use Rattle.inspection.specs.StateText.{step_text}
use Rattle.inspection.proofs.put_step.Goals as goal

pub returns : goal.returns
unfolding step_text
returns c =
    let kept = c.prefix.ensures.first ∙ ap (λ (n : ℕ). take n c.args.e.instance) c.from.ensures in
    let instance = as_text (ap tuple_text kept) c.put_tuple.ensures.wrote in
    record { wrote = and_then (and_then (and_then (and_then (and_then c.put_word-rule.ensures c.put_number-clause.ensures.wrote) c.put_byte-first.ensures) c.put_number-literal.ensures.wrote) c.put_byte-second.ensures) instance; room = search rules }
