use mathlib.Core.Path.{◌∙◌}
use lib.ListN.{length}
use Rattle.state.proofs.Opening.{new_is}
use Rattle.state.proofs.new_state.Goals as goal

pub returns : goal.returns
returns c =
    let a = c.args in
    λ cs e. (λ i. record { run = c.new_run-run.ensures i; predicates = length a.arities.now; arities = c.first_arities-first.ensures i; table = c.with_room-table.ensures i }) ∙ new_is a.version a.constants a.arities.now a.clauses.now cs e
