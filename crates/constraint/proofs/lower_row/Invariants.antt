-- After j turns the first j bounds of the row are lowered.
use Rattle.std.proofs.Common.{◌≡◌, pos, ◌+ℤ◌}
use Rattle.lists.specs.Walk.{Upto}
use Rattle.bounds.specs.Whole.{whole_bounds}
use Rattle.bounds.specs.Squares.{lower}
use Rattle.constraint.specs.Square.{at}
use Rattle.constraint.proofs.lower_row.Given as goal

abbrev pub invariant-loop-j : goal.invariant-loop-j
invariant-loop-j l = Upto (pos 0) (λ k x. x ≡ lower whole_bounds (l.start +ℤ at l.via k) (at l.initial.row k)) l.initial.row l.row l.j
