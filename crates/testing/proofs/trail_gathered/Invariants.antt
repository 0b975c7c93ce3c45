-- Of the entries passed the atoms are gathered.
use mathlib.Core.Path.{◌≡◌}
use mathlib.Core.List.{[]}
use Rattle.calculus.specs.Trails.{atoms_of}
use Rattle.trail.specs.Entries.{trail_of}
use Rattle.testing.specs.Asked.{packed_tested}
use Rattle.testing.proofs.trail_gathered.Given as goal

abbrev pub invariant-loop-e : goal.invariant-loop-e
invariant-loop-e l = l.tested ≡ packed_tested [] (atoms_of (trail_of l.trail l.e-index))
