-- The trail: its entries, what is undefined or false on it, levels, and what is appended to it.
use Rattle.std.specs.Prelude.{List, [], ◌++◌, ◌∷◌, Bool, true, false, not, ◌||◌, cond, ℕ, zero, suc, max, leb}
use Rattle.std.proofs.Math.Option.{Option, none}
use Rattle.basis.specs.declared.Atom.{Atom}
use Rattle.lists.specs.Lists.{any_of}
use Rattle.basis.specs.declared.Literal.{Literal}
use Rattle.calculus.specs.Clauses.{same_atom, same_literal, complement}

-- "A foreground entry keeps its step: Propagate's clause, literal and instance (after Backtrack, those of the learned clause), or
-- Decide's with the sign"; and a decision keeps how many atoms it brought.
pub data Origin : Type 0 where
  propagated : (clause literal : ℕ) (instance : List ℕ) → Origin
  decided : (clause literal : ℕ) (sign : Bool) (instance : List ℕ) (brought : ℕ) → Origin

-- An atom as a Decide names it, "each as clause, atom number, sign (1 as it stands, 0 denied), instance"
pub record Source : Type 0 where
  pub clause : ℕ
  pub number : ℕ
  pub sign : ℕ
  pub instance : List ℕ

-- An atom that a decision brought keeps its source; one that Propagate or Backtrack appended with its literal has none.
pub data Entry : Type 0 where
  foreground : Literal → Origin → Entry
  background : Atom → Option Source → Entry

-- A trail, the last entry first
abbrev pub Trail : Type 0
Trail = List Entry

abbrev pub is_literal : Literal → Entry → Bool
is_literal l (foreground m o) = same_literal l m
is_literal l (background a o) = false

abbrev pub is_atom : Atom → Entry → Bool
is_atom a (foreground m o) = false
is_atom a (background b o) = same_atom a b

abbrev pub on_trail : Literal → Trail → Bool
on_trail l t = any_of (is_literal l) t

abbrev pub atom_on_trail : Atom → Trail → Bool
atom_on_trail a t = any_of (is_atom a) t

-- "A literal is undefined if neither it nor its complement is on the trail, false if its complement is."
abbrev pub undefined : Trail → Literal → Bool
undefined t l = not (on_trail l t || on_trail (complement l) t)

abbrev pub is_false : Trail → Literal → Bool
is_false t l = on_trail (complement l) t

abbrev pub is_decision : Entry → Bool
is_decision (foreground l (propagated c n τ)) = false
is_decision (foreground l (decided c n b τ k)) = true
is_decision (background a o) = false

-- The number of decisions on a trail
abbrev pub decisions : Trail → ℕ
decisions [] = zero
decisions (e ∷ t) = let r = decisions t in cond (is_decision e) (suc r) r

-- "The level of a trail literal, shared by its complement, is the number of decisions up to and including it."
abbrev pub level_of : Literal → Trail → ℕ
level_of l [] = zero
level_of l (e ∷ t) = let r = level_of l t in let d = decisions (e ∷ t) in cond (is_literal l e || is_literal (complement l) e) d r

-- The largest of the literals' levels, 0 if there are none
abbrev pub largest_level : Trail → List Literal → ℕ
largest_level t [] = zero
largest_level t (l ∷ ls) = max (level_of l t) (largest_level t ls)

-- "The trail is cut just before decision i + 1."
abbrev pub cut : ℕ → Trail → Trail
cut i [] = []
cut i (e ∷ t) = let r = cut i t in cond (leb (decisions (e ∷ t)) i) (e ∷ t) r

-- The background atoms of a trail, from its first entry on
abbrev pub atoms_of : Trail → List Atom
atoms_of [] = []
atoms_of (foreground l o ∷ t) = atoms_of t
atoms_of (background a o ∷ t) = atoms_of t ++ (a ∷ [])

-- ".. then the atoms not yet on the trail, in clause order, each once."
abbrev pub append_atoms : List Atom → Trail → Trail
append_atoms [] t = t
append_atoms (a ∷ az) t = append_atoms az (cond (atom_on_trail a t) t (background a none ∷ t))
