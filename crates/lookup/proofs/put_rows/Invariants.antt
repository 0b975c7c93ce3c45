-- The loop writes the clauses in turn.
use Rattle.lookup.proofs.Stores.{RowsPut}
use Rattle.lookup.proofs.put_rows.Given as goal

abbrev pub invariant-loop-j : goal.invariant-loop-j
invariant-loop-j l = RowsPut l.keys l.results l.kind l.j l.initial.out l.out l.at
