-- After k turns the first k atoms are the slices'.
use Rattle.std.proofs.Common.{◌≡◌}
use Rattle.basis.specs.Atoms.{no_atom}
use Rattle.lists.specs.Walk.{Upto}
use Rattle.constraint_export.specs.Export.{atom_from}
use Rattle.constraint_export.proofs.gather.Given as goal

abbrev pub invariant-loop-k : goal.invariant-loop-k
invariant-loop-k l = Upto no_atom (λ j a. a ≡ atom_from l.places l.bounds j) l.initial.atoms l.atoms l.k
