-- What is weighed, of the constants that the step counts.
use lib.ListN.{length-take}
use Rattle.std.proofs.Common.{ap, refl, ◌∙◌}
use Rattle.asking.proofs.Trying.{err_given}
use Rattle.asking.specs.Trying.{given_number}
use native.Mathlib.Omega.{arith}
use borrow.Author.Rules.{rules}
use Rattle.deciding.proofs.Weighing.{few_entries, weighs}
use Rattle.deciding.proofs.weigh.Goals as goal

pub decision_seen-seen-requires : goal.decision_seen-seen-requires
decision_seen-seen-requires c = (few_entries c.requires.1, omega (arith, length-take c.first_brought-n.result c.args.named.at, c.first_brought-n.ensures.1))

pub overflow_add-trail : goal.overflow_add-trail
overflow_add-trail c = omega (arith, few_entries c.requires.1)

pub returns : goal.returns
returns c =
    let τ = c.constants-instance.ensures in
    λ s S L. weighs S L (search rules) (rw τ at c.decided_literal-g.ensures) c.count_brought-brought.ensures c.first_brought-n.ensures.0 c.decision_seen-seen.ensures
    (rw τ at c.literal_named-known.ensures) c.counts_few.ensures c.signs_fit.ensures
    refl refl refl refl refl refl refl refl refl refl (rw c.is_some.ensures at c.first_lacking-lacking.ensures) (rw τ at c.decided_entry.ensures)
    (ap given_number c.err.ensures.value ∙ err_given c.first_lacking-lacking.result)
