-- What the closures read is an atom, and a literal.
use Rattle.std.proofs.Common.{rules}
use Rattle.runfile.specs.File.{atom, literal}
use Rattle.header.proofs.clause_fields_at.Goals as goal

pub several-requires : goal.several-requires
several-requires c = (search rules, (search rules, (search rules, (atom c.in_ok-variables.variables, c.args.s.now, search rules))))

pub several-requires-2 : goal.several-requires-2
several-requires-2 c = (search rules, (search rules, (search rules, (literal c.args.arities.now c.in_ok-variables.variables, c.args.s.now, search rules))))
