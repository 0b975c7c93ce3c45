use Rattle.std.proofs.Common.{◌≡◌, ◌≤◌, map, take}
use Rattle.lists.specs.Arrays.{held}
use Rattle.calculus.specs.Clauses.{no_literal, rename_literal, under}
use Rattle.calculus.specs.Merging.{reason_literals}
use Rattle.clauses.specs.Records.{clause_of, instanced_of}
use Rattle.merging.proofs.reason_literals.Given as goal

abbrev pub invariant-loop-j : goal.invariant-loop-j
invariant-loop-j l = (l.literals ≡ (clause_of l.n.clause).literals) × (l.out.n ≤ l.j) × (l.out ≡ held 16 no_literal (map (rename_literal (under l.t)) (reason_literals (instanced_of l.n).instance l.g l.i (take l.j l.literals))))
