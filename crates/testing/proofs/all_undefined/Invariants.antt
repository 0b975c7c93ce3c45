-- The step's atoms passed are free.
use mathlib.Core.Path.{◌≡◌}
use mathlib.Core.Bool.{true}
use lib.ListN.{drop, take}
use Rattle.calculus.specs.Tests.{atoms_undefined}
use Rattle.testing.proofs.all_undefined.Given as goal

abbrev pub invariant-loop-j : goal.invariant-loop-j
invariant-loop-j l = atoms_undefined (take l.known l.all) (drop l.known (take l.j l.all)) ≡ true
