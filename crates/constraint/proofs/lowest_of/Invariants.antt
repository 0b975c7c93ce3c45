-- After j turns the lowest of the first j + 1 bounds is found.
use Rattle.std.proofs.Common.{◌≡◌}
use Rattle.bounds.specs.Whole.{whole_bounds}
use Rattle.bounds.specs.Squares.{lowest}
use Rattle.constraint.specs.Square.{at}
use Rattle.constraint.proofs.lowest_of.Given as goal

abbrev pub invariant-loop-bound : goal.invariant-loop-bound
invariant-loop-bound l = l.low ≡ lowest whole_bounds (at l.row) l.bound-index
