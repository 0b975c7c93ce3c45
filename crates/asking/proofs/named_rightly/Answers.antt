-- The atom is among those counted.
use Rattle.std.proofs.Common.{◌≡◌, ◌≤◌, ◌∙◌, sym, true, length}
use Rattle.basis.specs.Limits.{most_variables}
use borrow.Author.Rules.{rules}
use Rattle.calculus.specs.Checks.{between}
use Rattle.clauses.specs.Records.{clause_of}
use Rattle.asking.proofs.Sources.{rightly}
use Rattle.asking.proofs.named_rightly.Goals as goal
use Rattle.asking.proofs.named_rightly.Goals.{then-z-ge1, else-z-ge1, then-from-atoms, else-from-atoms}

pub returns-then-from-le-MOST_VARIABLES : goal.returns-then-from-le-MOST_VARIABLES
returns-then-from-le-MOST_VARIABLES c =
    let a = c.args in
    let there : between 1 (length (clause_of a.held).atoms) a.z.number ≡ true = search rules in
    let few : a.z.count ≤ most_variables = search rules in
    c.instance_named.ensures ∙ sym (rightly a.held a.z _ _ (let g = c.well_formed.1.1.1.0 in search rules) there few c.constants.ensures)
