-- The loop writes the atoms in turn.
use Rattle.basis.specs.Atoms.{no_atom}
use Rattle.runfile.specs.Written.{written_atom}
use Rattle.clausebytes.proofs.Members.{one_more, room_for}
use Rattle.clausebytes.proofs.put_atoms.Goals as goal

pub put_atom-next-requires : goal.put_atom-next-requires
put_atom-next-requires c = room_for written_atom c.args.atoms.now c.loop-a.a-index c.loop-a.invariant no_atom c.loop-a-test.true c.requires

pub loop-a-preserved : goal.loop-a-preserved
loop-a-preserved c = one_more written_atom c.args.atoms.now c.loop-a.a-index c.loop-a.invariant no_atom c.loop-a-test.true c.put_atom-next.ensures
