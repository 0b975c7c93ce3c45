-- The loop writes the clauses in turn.
use borrow.Author.Rules.{rules}
use Rattle.lookup.proofs.Stores.{row_fits, row_put, all_put}
use Rattle.lookup.proofs.put_rows.Goals as goal

pub put_clause-at-requires : goal.put_clause-at-requires
put_clause-at-requires c =
    row_fits c.requires.0 c.args.kind c.loop-j.invariant c.loop-j-test.true c.gets_alone-arities.ensures c.row_clause-c.ensures c.requires.1

pub loop-j-preserved : goal.loop-j-preserved
loop-j-preserved c =
    row_put c.requires.0 c.args.kind c.loop-j.invariant c.loop-j-test.true c.gets_alone-arities.ensures c.row_clause-c.ensures c.put_clause-at.ensures

pub returns : goal.returns
returns c = all_put c.requires.0 c.args.kind c.loop-j.invariant (search rules)
