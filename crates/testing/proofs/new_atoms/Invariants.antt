-- The new ones of the atoms passed are held.
use mathlib.Core.Path.{◌≡◌}
use lib.ListN.{drop, take}
use Rattle.testing.specs.New.{new_atoms, packed_atoms}
use Rattle.testing.proofs.new_atoms.Given as goal

abbrev pub invariant-loop-j : goal.invariant-loop-j
invariant-loop-j l = l.fresh ≡ packed_atoms (new_atoms (take l.known l.all) (drop l.known (take l.j l.all)))
