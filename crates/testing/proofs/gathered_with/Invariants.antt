-- Behind the trail's atoms stand those of the step that are passed.
use lib.ListN.{take}
use Rattle.calculus.specs.Trails.{atoms_of}
use Rattle.trail.specs.Entries.{entries_of}
use Rattle.testing.specs.Asked.{Gathers}
use Rattle.testing.proofs.gathered_with.Given as goal

abbrev pub invariant-loop-a : goal.invariant-loop-a
invariant-loop-a l = Gathers l.tested (atoms_of (entries_of l.fn.trail)) (take l.a-index l.step)
