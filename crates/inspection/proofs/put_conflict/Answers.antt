-- By whether a conflict stands.
use mathlib.Core.Path.{◌≡◌, ap, sym}
use mathlib.Core.Bool.{Bool}
use native.Mathlib.Omega.{arith}
use borrow.Author.Rules.{rules}
use lib.ListN.{length, length-take}
use Rattle.basis.specs.Limits.{most_variables}
use Rattle.rules.specs.Records.{conflict_said}
use Rattle.text.proofs.Text.{and_then, as_text}
use Rattle.clausetext.specs.ClauseText.{tuple_text}
use Rattle.inspection.specs.StateText.{conflict_text}
use Rattle.inspection.proofs.put_conflict.Goals as goal

pub returns-then-stands : goal.returns-then-stands
unfolding conflict_text
returns-then-stands c =
    let instance = as_text (ap tuple_text c.constants.ensures) c.put_tuple.ensures.wrote in
    let long : length c.args.n.instance ≡ most_variables = search rules in
    record {
      wrote = as_text (sym (ap (λ (b : Bool). conflict_text (conflict_said b c.args.n)) c.if-stands.true)) (and_then (and_then c.put_clause-clause.ensures.wrote c.put_word-word.ensures) instance);
      room = omega (arith, long, ap length c.constants.ensures, length-take c.args.n.clause.variables c.args.n.instance);
    }

pub returns-else-stands : goal.returns-else-stands
unfolding conflict_text
returns-else-stands c = record { wrote = as_text (sym (ap (λ (b : Bool). conflict_text (conflict_said b c.args.n)) c.if-stands.false)) c.put_word.ensures; room = search rules }
