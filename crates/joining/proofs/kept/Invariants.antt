use Rattle.std.proofs.Common.{◌≡◌, ◌≤◌, ◌+◌, length}
use Rattle.lists.specs.Lists.{keep_if, up_from}
use Rattle.lists.specs.Arrays.{held}
use Rattle.calculus.specs.Merging.{occurs_in}
use Rattle.joining.proofs.kept.Given as goal

abbrev pub invariant-loop-x : goal.invariant-loop-x
invariant-loop-x l =
    let k = length l.yielded in
    (l.x-iterator.iter.start ≡ k + 1) × (k + l.x-iterator.n ≡ l.v) × (l.out.n ≤ k) × (l.out ≡ held 24 0 (keep_if (occurs_in l.atoms l.literals) (up_from 1 k)))
