-- The instances of the literals passed but one are held, blank from there on.
use mathlib.Core.Path.{◌≡◌}
use mathlib.Core.List.{map}
use lib.ListN.{length, take}
use Prim.Native.Nat.{◌≤◌}
use Rattle.basis.specs.Limits.{most_literals}
use Rattle.lists.specs.Arrays.{held}
use Rattle.lists.specs.Lists.{without}
use Rattle.calculus.specs.Clauses.{ground, no_literal}
use Rattle.instances.proofs.other_instances.Given as goal

abbrev pub invariant-loop-j : goal.invariant-loop-j
invariant-loop-j l = record {
  room : length l.literals ≤ most_literals;
  gathered : l.others ≡ held most_literals no_literal (map (ground l.constants) (without l.i (take l.j l.literals)));
}
