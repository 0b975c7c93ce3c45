-- Five writers, one after the other; the counts are those of the clause.
use Rattle.std.proofs.Common.{sym, ap, arith, length}
use Rattle.clauses.specs.Records.{clause_of}
use Rattle.runfile.specs.Written.{joined, written_atom, written_literal}
use Rattle.text.proofs.Text.{and_then, as_text}
use Rattle.clausebytes.proofs.Parts.{clause_long, clause_parts}
use Rattle.clausebytes.proofs.put_clause.Goals as goal

pub put_byte-variables-requires : goal.put_byte-variables-requires
put_byte-variables-requires c = omega (arith, clause_long c.args.arities.now (clause_of c.args.c))

pub put_byte-counted-requires : goal.put_byte-counted-requires
put_byte-counted-requires c = omega (arith, clause_long c.args.arities.now (clause_of c.args.c))

pub put_byte-counts-requires : goal.put_byte-counts-requires
put_byte-counts-requires c = omega (arith, clause_long c.args.arities.now (clause_of c.args.c))

pub put_atoms-past-requires : goal.put_atoms-past-requires
put_atoms-past-requires c = omega (arith, clause_long c.args.arities.now (clause_of c.args.c), ap (λ l. length (joined written_atom l)) c.atoms-atoms.ensures)

pub put_literals-requires : goal.put_literals-requires
put_literals-requires c = omega (
  arith,
  clause_long c.args.arities.now (clause_of c.args.c),
  ap (λ l. length (joined written_atom l)) c.atoms-atoms.ensures,
  ap (λ l. length (joined (written_literal c.args.arities.now) l)) c.literals-literals.ensures,
)

pub returns : goal.returns
returns c =
    as_text (clause_parts c.args.arities.now (clause_of c.args.c) _ _ (sym (ap length c.atoms-atoms.ensures)) (sym (ap length c.literals-literals.ensures)))
    (and_then c.put_byte-variables.ensures (and_then c.put_byte-counted.ensures (and_then c.put_byte-counts.ensures
    (and_then (rw c.atoms-atoms.ensures at c.put_atoms-past.ensures) (rw c.literals-literals.ensures at c.put_literals.ensures)))))
