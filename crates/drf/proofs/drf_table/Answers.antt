-- What `clauses_from` answers fits 32 bits.
use Rattle.drf.proofs.Codes.{code_fits}
use Rattle.drf.proofs.drf_table.Goals as goal

pub table_code-requires : goal.table_code-requires
table_code-requires c =
    code_fits c.args.keys.now c.args.results.now c.match_of.result c.args.out.now c.clauses_from.new.out c.clauses_from.result c.clauses_from.ensures
