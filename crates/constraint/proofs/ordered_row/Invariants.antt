-- After j turns the first j bounds of the row are the order's.
use Rattle.std.proofs.Common.{◌≡◌, pos}
use Rattle.lists.specs.Walk.{Upto}
use Rattle.constraint.specs.Square.{by_order}
use Rattle.constraint.proofs.ordered_row.Given as goal

abbrev pub invariant-loop-j : goal.invariant-loop-j
invariant-loop-j l = Upto (pos 0) (λ k x. x ≡ by_order l.constants l.i k) l.initial.bound-items l.bound-items l.j
