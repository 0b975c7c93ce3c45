-- The table has no slot.
use Rattle.runfile.specs.File.{header}
use Rattle.header.proofs.Loops.{read_alone}
use Rattle.header.proofs.read_header.Goals as goal

pub returns : goal.returns
returns c = read_alone _ (header c.args.s.now 0) _ _ c.header_at.ensures
