-- The loop writes the atoms in turn.
use Rattle.std.proofs.Common.{take}
use Rattle.text.specs.Text.{Wrote}
use Rattle.runfile.specs.Written.{joined, written_atom}
use Rattle.clausebytes.proofs.put_atoms.Given as goal

abbrev pub invariant-loop-a : goal.invariant-loop-a
invariant-loop-a l = Wrote l.initial.out l.at (joined written_atom (take l.a-index l.atoms)) l.out l.next
