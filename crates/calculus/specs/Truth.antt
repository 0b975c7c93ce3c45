-- What a clause says under a reading of the predicates.
use Rattle.std.specs.Prelude.{◌≡◌, ◌↔◌, Bool, true, false, ℕ, zero, take}
use mathlib.Core.List.{List, map, Memᴰ}
use Rattle.basis.specs.declared.Atom.{Atom}
use Rattle.basis.specs.declared.Literal.{Literal}
use Rattle.basis.specs.Numbers.{Numbers}
use Rattle.basis.specs.Atoms.{Holds}
use Rattle.calculus.specs.Clauses.{arguments, Clause}
use Rattle.calculus.specs.Class.{arity_of}

-- A statement as it stands, or denied
abbrev pub with_sign : Bool → Type 0 → Type 0
with_sign true P = P
with_sign false P = ¬ P

-- The numbers are N; predicate n has the nth arity.
module _ (N : Numbers) (arities : List ℕ) where
  -- A reading says of which numbers each predicate holds.
  abbrev pub Reading : Type 1
  Reading = ℕ → List N.Number → Type 0

  -- The literal holds of the numbers ρ has for its arguments, as many as its arity.
  abbrev pub LiteralHolds : Reading → (ℕ → N.Number) → Literal → Type 0
  LiteralHolds I ρ l = with_sign l.positive (I l.predicate (take (arity_of arities l.predicate) (map ρ (arguments l))))

  abbrev pub AllHold : (ℕ → N.Number) → List Atom → Type 0
  AllHold ρ az = (a : Atom) → Memᴰ a az → Holds N ρ a

  abbrev pub NoneHolds : Reading → (ℕ → N.Number) → List Literal → Type 0
  NoneHolds I ρ ls = (l : Literal) → Memᴰ l ls → ¬ LiteralHolds I ρ l

  -- "It says: for all whole numbers, if every atom holds then some literal does": it can't be that none does.
  abbrev pub True : Reading → Clause → Type 0
  True I C = (ρ : ℕ → N.Number) → ρ zero ≡ N.zeroth → AllHold ρ C.atoms → NoneHolds I ρ C.literals → ⊥

  abbrev pub SomeHolds : Reading → (ℕ → N.Number) → List Literal → Type 0
  SomeHolds I ρ ls = (l : Literal) × Memᴰ l ls × LiteralHolds I ρ l

  -- Under a reading that decides of any numbers whether a predicate holds this says that some literal does. Proved in proofs/Truths.antt.
  abbrev pub TrueExactlyIfSomeHolds : Type 1
  TrueExactlyIfSomeHolds = (I : Reading) → ((n : ℕ) (ws : List N.Number) → Dec (I n ws)) → (C : Clause)
      → True I C ↔ ((ρ : ℕ → N.Number) → ρ zero ≡ N.zeroth → AllHold ρ C.atoms → SomeHolds I ρ C.literals)

  -- The clause C is true wherever all of cs are.
  abbrev pub Follows : List Clause → Clause → Type 1
  Follows cs C = (I : Reading) → ((K : Clause) → Memᴰ K cs → True I K) → True I C

  -- No reading makes all of cs true.
  abbrev pub NoModel : List Clause → Type 1
  NoModel cs = (I : Reading) → ((C : Clause) → Memᴰ C cs → True I C) → ⊥
