use Rattle.std.proofs.Common.{◌≡◌, ◌+◌, ◌++◌, take}
use Rattle.lists.specs.Arrays.{held, held_in}
use Rattle.merging.proofs.append_constants.Given as goal

abbrev pub invariant-loop-a : goal.invariant-loop-a
invariant-loop-a l = (l.out.n ≡ l.initial.out.n + l.a-index) × (l.out ≡ held 24 0 (held_in l.initial.out ++ take l.a-index l.constants))
