-- Atoms put after others, each where it is new.
use Rattle.std.specs.Prelude.{List, [], ◌∷◌, ◌++◌, cond}
use Rattle.basis.specs.declared.Atom.{Atom}
use Rattle.lists.specs.Lists.{any_of}
use Rattle.calculus.specs.Clauses.{same_atom}

-- An atom put at the end where it is new, and several, one after the other
abbrev pub add_one : List Atom → Atom → List Atom
add_one xs b = cond (any_of (λ a. same_atom a b) xs) xs (xs ++ (b ∷ []))

abbrev pub add_each : List Atom → List Atom → List Atom
add_each xs [] = xs
add_each xs (b ∷ bs) = add_each (add_one xs b) bs
