-- After i turns the first i rows are the order's.
use Rattle.std.proofs.Common.{◌≡◌, ◌<◌, ℕ, []}
use Rattle.lists.specs.Walk.{Upto}
use Rattle.constraint.specs.Square.{places, at, by_order}
use Rattle.constraint.proofs.ordered.Given as goal

abbrev pub invariant-loop-i : goal.invariant-loop-i
invariant-loop-i l = Upto [] (λ k row. (j : ℕ) → j < places → at row j ≡ by_order l.constants k j) l.initial.row-items l.row-items l.i
