use Rattle.std.proofs.Common.{◌≡◌, ◌≤◌, ◌+◌, ◌++◌, map, take}
use Rattle.lists.specs.Lists.{without}
use Rattle.lists.specs.Arrays.{held, held_in}
use Rattle.calculus.specs.Clauses.{no_literal, rename_literal}
use Rattle.joining.specs.Scratch.{through}
use Rattle.merging.proofs.append_literals.Given as goal

abbrev pub invariant-loop-j : goal.invariant-loop-j
invariant-loop-j l = (l.out.n ≤ l.initial.out.n + l.j) × (l.out ≡ held 16 no_literal (held_in l.initial.out ++ map (rename_literal (through l.t l.v)) (without l.i (take l.j l.literals))))
