-- The counts in the slots are those of the sources.
use Rattle.std.proofs.Common.{rules, tests, ◌∙◌, sym, leb, take}
use Rattle.std.proofs.lemmas.Iterator.{YieldsList-from_slice}
use Rattle.std.proofs.lemmas.Iterator.Search.{all_from_yields_List}
use native.Mathlib.Omega.{arith}
use borrow.Author.Tests.{lt-leb}
use Rattle.basis.specs.Limits.{most_brought, most_variables}
use Rattle.asking.proofs.Sources.{counts_above, counts_are}
use Rattle.asking.proofs.counts_few.Goals as goal

pub returns-then-n-le-MOST_BROUGHT : goal.returns-then-n-le-MOST_BROUGHT
returns-then-n-le-MOST_BROUGHT c =
    let all = all_from_yields_List (λ z. leb z.count most_variables) _ _ c.all.result c.all.ensures.ran (YieldsList-from_slice (take c.args.n c.args.x.atoms) cc) (λ x b q k. search (rules, tests)) in
    all ∙ sym (counts_are c.args.n c.args.x (omega arith) (omega arith))

pub returns-else-n-le-MOST_BROUGHT : goal.returns-else-n-le-MOST_BROUGHT
returns-else-n-le-MOST_BROUGHT c = lt-leb c.from-n.result most_brought (omega arith) ∙ sym (counts_above c.args.n c.args.x (omega arith))
