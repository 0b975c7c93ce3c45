-- The table was blank; a refused file has no clauses.
use Rattle.std.proofs.Common.{sym, ◌∙◌, ap}
use Rattle.lists.proofs.Arrays.{exactly_none}
use Rattle.calculus.specs.Clauses.{no_clause}
use Rattle.clauses.specs.Records.{packed}
use Rattle.runfile.specs.File.{header}
use Rattle.header.specs.Records.{input_of, packed_table}
use Rattle.header.proofs.Loops.{laid_anew, none_read, table_left}
use Rattle.header.proofs.read_clauses.Goals as goal

pub returns-then-is_err : goal.returns-then-is_err
returns-then-is_err c =
    let none = none_read _ (header c.args.s.now 0) _ _ c.header_at.ensures (sym c.is_err.ensures.value ∙ c.if-is_err.true) in
    rw c.no_clause.ensures (sym (exactly_none (packed no_clause) 96) ∙ ap packed_table (sym none))

pub returns : goal.returns
returns c =
    let left = table_left _ (header c.args.s.now 0) _ _ c.header_at.ensures (sym c.is_err.ensures.value ∙ c.if-is_err.false) in
    left ∙ rw c.no_clause-clauses.ensures (laid_anew (input_of (header c.args.s.now 0)))
