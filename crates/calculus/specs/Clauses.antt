-- Clauses, their instances and complements. The paper's section "Clauses".
use Rattle.std.specs.Prelude.{List, [], ◌∷◌, map, Bool, false, not, ◌&&◌, ℕ, zero, suc, eqb, get_or}
use Rattle.std.specs.Bool.{beq}
use Rattle.basis.specs.declared.Atom.{Atom}
use Rattle.basis.specs.declared.Literal.{Literal}
use Rattle.lists.specs.Lists.{same_list, same_whole}

-- "A literal is a sign, a predicate and as many variables as its arity." The record has three arguments, and those past the arity are 0.
-- In a ground literal they are constants.
abbrev pub arguments : Literal → List ℕ
arguments l = l.x ∷ l.y ∷ l.z ∷ []

-- "A clause has variables 1..v, a list of background atoms (its constraint) and a list of foreground literals."
pub record Clause : Type 0 where
  pub variables : ℕ
  pub atoms : List Atom
  pub literals : List Literal

-- A clause with an instance, which has a constant for each variable in order
pub record Instanced : Type 0 where
  pub clause : Clause
  pub instance : List ℕ

-- What a list has past its end
abbrev pub no_literal : Literal
no_literal = record { positive = false; predicate = 0; x = 0; y = 0; z = 0 }

abbrev pub no_clause : Clause
no_clause = record { variables = 0; atoms = []; literals = [] }

abbrev pub no_instanced : Instanced
no_instanced = record { clause = no_clause; instance = [] }

abbrev pub same_atom : Atom → Atom → Bool
same_atom a b = eqb a.p b.p && (eqb a.q b.q && same_whole a.c b.c)

abbrev pub same_literal : Literal → Literal → Bool
same_literal a b = beq a.positive b.positive && (eqb a.predicate b.predicate && same_list (arguments a) (arguments b))

-- Each place replaced by what f has for it
abbrev pub rename_atom : (ℕ → ℕ) → Atom → Atom
rename_atom f a = record { p = f a.p; q = f a.q; c = a.c }

abbrev pub rename_literal : (ℕ → ℕ) → Literal → Literal
rename_literal f l = record { positive = l.positive; predicate = l.predicate; x = f l.x; y = f l.y; z = f l.z }

-- What a table has for variable x; place 0 is the number zero and stays
abbrev pub under : List ℕ → ℕ → ℕ
under t zero = zero
under t (suc x) = get_or t x zero

-- ""Instance" means variables replaced by constants."
abbrev pub ground : List ℕ → Literal → Literal
ground τ l = rename_literal (under τ) l

abbrev pub ground_atoms : List ℕ → List Atom → List Atom
ground_atoms τ az = map (rename_atom (under τ)) az

abbrev pub complement : Literal → Literal
complement l = record { positive = not l.positive; predicate = l.predicate; x = l.x; y = l.y; z = l.z }
