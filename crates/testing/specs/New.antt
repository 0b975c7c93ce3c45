-- Which atoms are new, and what a trail is with them.
use Rattle.std.specs.Prelude.{List, [], ◌∷◌, ◌++◌, cond}
use Rattle.std.proofs.Math.Option.{none}
use Rattle.basis.specs.declared.Atom.{Atom}
use Rattle.basis.specs.Limits.{most_atoms}
use Rattle.basis.specs.Atoms.{no_atom}
use Rattle.lists.specs.Arrays.{held}
use Rattle.lists.specs.Lists.{any_of}
use Rattle.calculus.specs.Clauses.{same_atom}
use Rattle.calculus.specs.Trails.{Trail, background}
use Rattle.lists.specs.declared.Held.{Held}

-- Of a list of atoms those that are not among the known ones and equal no earlier one of the list, in order
abbrev pub new_atoms : List Atom → List Atom → List Atom
new_atoms known [] = []
new_atoms known (a ∷ az) = let r = new_atoms (known ++ (a ∷ [])) az in cond (any_of (same_atom a) known) r (a ∷ r)

-- The record of a step's atoms, blank past their count
abbrev pub packed_atoms : List Atom → Held Atom most_atoms
packed_atoms az = held most_atoms no_atom az

-- The trail with the atoms appended one after the other
abbrev pub pushed_atoms : List Atom → Trail → Trail
pushed_atoms [] t = t
pushed_atoms (a ∷ az) t = pushed_atoms az (background a none ∷ t)
