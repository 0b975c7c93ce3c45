-- Atoms, literals, instances and clauses as text for reviewers. One space parts the fields, and numbers are the paper's.
use Rattle.std.specs.Prelude.{Bool, true, false, List, [], ◌∷◌, ◌++◌, ℕ, zero, suc}
use Rattle.basis.specs.declared.Atom.{Atom}
use Rattle.basis.specs.declared.Literal.{Literal}
use Rattle.calculus.specs.Clauses.{Clause, arguments}
use Rattle.text.specs.Text.{bytes, decimal, signed_text}

-- ---- lists

-- The text of each element in turn, which f gives for its number and itself; the first has the number n.
abbrev pub in_turn : {A : Type 0} → ℕ → (ℕ → A → List ℕ) → List A → List ℕ
in_turn n f [] = []
in_turn n f (x ∷ xs) = f n x ++ in_turn (suc n) f xs

-- What parts an element, numbered from 0, from the one before it: nothing stands before the first.
abbrev pub parting : List ℕ → ℕ → List ℕ
parting w zero = []
parting w (suc n) = w

-- ---- atoms, literals, instances

-- A number of an instance, with a comma before it unless it is the first
abbrev pub number_text : ℕ → ℕ → List ℕ
number_text n x = parting (bytes ",") n ++ decimal x

-- Arguments or constants, as `(1,2)`; none, as `()`
unfoldable pub tuple_text : List ℕ → List ℕ
tuple_text xs = bytes "(" ++ in_turn 0 number_text xs ++ bytes ")"

-- p − q ≤ c, as `1-2<=-4`
unfoldable pub atom_text : Atom → List ℕ
atom_text a = decimal a.p ++ bytes "-" ++ decimal a.q ++ bytes "<=" ++ signed_text a.c

-- The numbers before the first 0. A literal's arguments are those: numbers start at 1, and slots past the arity are 0.
abbrev pub until_zero : List ℕ → List ℕ
until_zero [] = []
until_zero (zero ∷ xs) = []
until_zero (suc x ∷ xs) = suc x ∷ until_zero xs

-- Nothing stands before a positive literal.
abbrev pub sign_text : Bool → List ℕ
sign_text true = []
sign_text false = bytes "~"

-- A literal, as `P1(1,2)`, `~P2(1)` or `P3()`
unfoldable pub literal_text : Literal → List ℕ
literal_text l = sign_text l.positive ++ bytes "P" ++ decimal l.predicate ++ tuple_text (until_zero (arguments l))

-- ---- clauses

-- An atom of a clause, with a space before it unless it is the first
abbrev pub listed_atom : ℕ → Atom → List ℕ
listed_atom n a = parting (bytes " ") n ++ atom_text a

-- A literal of a clause, with a space before it
abbrev pub listed_literal : ℕ → Literal → List ℕ
listed_literal n l = bytes " " ++ literal_text l

-- Variables, atoms and literals, as `2 [1-0<=10 0-1<=-3] ~P1(1) P2(1,2)`
unfoldable pub clause_text : Clause → List ℕ
clause_text C = decimal C.variables ++ bytes " [" ++ in_turn 0 listed_atom C.atoms ++ bytes "]" ++ in_turn 0 listed_literal C.literals
