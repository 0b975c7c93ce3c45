-- `fields::mark_at` meets its contract.
use Rattle.std.proofs.Common.{ap, eqb, sym, ◌∙◌}
use Rattle.std.specs.Cmp.Lexicographic.{pointwise}
use Rattle.fields.proofs.Laws.{mark_judged}
use Rattle.fields.proofs.mark_at.Goals as goal

pub returns : goal.returns
returns c = rw c.passed.ensures (mark_judged c.args.s.now c.in_ok-bytes.bytes.now c.args.at c.in_ok-bytes.next c.eq-ok.result c.in_ok-bytes.ensures.reads (ap (pointwise eqb c.in_ok-bytes.bytes.now) (sym c.as_slice.ensures) ∙ sym c.eq-ok.ensures))
