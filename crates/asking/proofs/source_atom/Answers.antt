-- The atom as it stands, or denied.
use Rattle.asking.proofs.Sources.{denied_so, stands_so}
use Rattle.asking.proofs.source_atom.Goals as goal

pub returns-then-z-eq1 : goal.returns-then-z-eq1
returns-then-z-eq1 c = stands_so c.args.held c.args.z c.atom_numbered-own.ensures (rw c.constants.ensures at c.ground_atom-g.ensures) c.if-z-eq1.true

pub returns-else-z-eq1 : goal.returns-else-z-eq1
returns-else-z-eq1 c = denied_so c.args.held c.args.z c.atom_numbered-own.ensures (rw c.constants.ensures at c.ground_atom-g.ensures) c.if-z-eq1.false c.denial.ensures
