-- What is written for a literal and for a clause, part by part, and how long it is.
use mathlib.Core.Path.{◌≡◌, sym, ap, ◌∙◌}
use mathlib.Core.Bool.{cond}
use mathlib.Core.List.{List, ◌∷◌, ◌++◌}
use Prim.Native.Nat.{ℕ, ◌+◌}
use native.Mathlib.Omega.{arith}
use lib.ListN.{length, length-append, take}
use Rattle.basis.specs.declared.Literal.{Literal}
use Rattle.calculus.specs.Class.{arity_of}
use Rattle.calculus.specs.Clauses.{arguments, Clause}
use Rattle.runfile.specs.Written.{joined, written_argument, written_atom, written_clause, written_literal}
use Rattle.runfile.proofs.Back.{slots_taken}

-- A literal of a predicate that has n arguments
module _ (arities : List ℕ) (l : Literal) (n : ℕ) (reached : n ≡ arity_of arities l.predicate) where
  slots_reached : written_argument n 1 l.x ++ (written_argument n 2 l.y ++ written_argument n 3 l.z) ≡ take (arity_of arities l.predicate) (arguments l)
  slots_reached = slots_taken n l.x l.y l.z ∙ ap (λ (k : ℕ). take k (arguments l)) reached

  pub literal_parts : (b : ℕ) → b ≡ cond l.positive 1 0 → b ∷ l.predicate ∷ written_argument n 1 l.x ++ (written_argument n 2 l.y ++ written_argument n 3 l.z) ≡ written_literal arities l
  literal_parts b e = rw (slots_reached, e)

  pub literal_long : length (written_literal arities l) ≡ 2 + (length (written_argument n 1 l.x) + (length (written_argument n 2 l.y) + length (written_argument n 3 l.z)))
  literal_long =
      omega (
        arith,
        ap length slots_reached,
        length-append (written_argument n 1 l.x) (written_argument n 2 l.y ++ written_argument n 3 l.z),
        length-append (written_argument n 2 l.y) (written_argument n 3 l.z),
      )

-- A clause that has a atoms and b literals
module _ (arities : List ℕ) (C : Clause) where
  pub clause_parts : (a b : ℕ) → length C.atoms ≡ a → length C.literals ≡ b
      → C.variables ∷ a ∷ b ∷ joined written_atom C.atoms ++ joined (written_literal arities) C.literals ≡ written_clause arities C
  unfolding written_clause
  clause_parts a b e f = rw (sym e, sym f)

  pub clause_long : length (written_clause arities C) ≡ 3 + (length (joined written_atom C.atoms) + length (joined (written_literal arities) C.literals))
  unfolding written_clause
  clause_long = omega (arith, length-append (joined written_atom C.atoms) (joined (written_literal arities) C.literals))
