use Rattle.std.proofs.Common.{◌≡◌, ◌+◌}
use Rattle.lists.specs.Lists.{up_from}
use Rattle.lists.specs.Arrays.{held}
use Rattle.joining.proofs.start.Given as goal

abbrev pub invariant-loop-x : goal.invariant-loop-x
invariant-loop-x l = (l.x-iterator.iter.start ≡ l.out.n + 1) × (l.out.n + l.x-iterator.n ≡ l.v) × (l.out ≡ held 24 0 (up_from 1 l.out.n))
