-- Counts and arities are judged first.
use Rattle.std.proofs.Common.{sym, ◌∙◌}
use Rattle.admission.specs.Offered.{answered}
use Rattle.admission.proofs.admit.Goals as goal

pub returns-then-not-counts_fit : goal.returns-then-not-counts_fit
unfolding answered
returns-then-not-counts_fit c = rw (sym c.counts_fit.ensures ∙ c.if-not-counts_fit.true)
