use Rattle.std.proofs.Common.{◌≡◌, ◌≤◌, ◌+◌, map, take}
use Rattle.basis.specs.Atoms.{no_atom}
use Rattle.lists.specs.Arrays.{held, held_in}
use Rattle.calculus.specs.Clauses.{rename_atom}
use Rattle.joining.specs.Scratch.{through}
use Rattle.merging.specs.Added.{add_each}
use Rattle.merging.proofs.append_atoms.Given as goal

abbrev pub invariant-loop-a : goal.invariant-loop-a
invariant-loop-a l = (l.out.n ≤ l.initial.out.n + l.a-index) × (l.out ≡ held 48 no_atom (add_each (held_in l.initial.out) (map (rename_atom (through l.t l.v)) (take l.a-index l.atoms))))
