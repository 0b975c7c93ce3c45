-- The rows passed are in order; the first that is not decides.
use Rattle.std.proofs.Common.{ℕ, ◌<◌}
use Rattle.lookup.specs.Tables.{RowInOrder}
use Rattle.lookup.proofs.in_order.Given as goal

abbrev pub invariant-loop-j : goal.invariant-loop-j
invariant-loop-j l = (i : ℕ) → i < l.j → RowInOrder l.keys l.results i
