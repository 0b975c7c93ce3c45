-- The atoms that two slices give, an answer as a number, and what the exported test promises: the number of the answer that is so.
use Rattle.std.specs.Prelude.{◌≡◌, List, ◌++◌, cond, ℕ, ◌+◌, ◌*◌, ◌<◌, leb, length, get_or, take, drop, ℤ, pos, Option, Some, None, Result, Ok, Err}
use Rattle.basis.specs.declared.Atom.{Atom}
use Rattle.basis.specs.declared.Refused.{Refused}
use Rattle.basis.specs.Refusals.{number_of}
use Rattle.constraint.specs.Test.{atom_at, Says}

-- As many atoms as a count of 8 bits says
abbrev pub most_counted : ℕ
most_counted = 255

-- The atom at k: p and q stand by turns in the one slice, c in the other.
abbrev pub atom_from : List ℕ → List ℤ → ℕ → Atom
atom_from places bounds k = record { p = get_or places (k + k) 0; q = get_or places (k + k + 1) 0; c = get_or bounds k (pos 0) }

-- The first `count` atoms
pub record Gathered (count : ℕ) (places : List ℕ) (bounds : List ℤ) (atoms : List Atom) : Type 0 where
  pub long : length atoms ≡ count
  pub each : (k : ℕ) → k < count → atom_at atoms k ≡ atom_from places bounds k

abbrev pub code : Result (Option (List ℤ)) (Refused ℕ) → ℕ
code (Ok (Some numbers)) = 1
code (Ok None) = 0
code (Err refused) = number_of refused.refusal * 256 + refused.place

-- The test's answer to the atoms that two slices give
pub record Found (constants count : ℕ) (places : List ℕ) (bounds : List ℤ) (f : Result (Option (List ℤ)) (Refused ℕ)) : Type 0 where
  pub atoms : List Atom
  pub gathered : Gathered count places bounds atoms
  pub says : Says constants atoms f

-- `drf_possible`: the number of the answer
abbrev pub Tells : (constants count : ℕ) → List ℕ → List ℤ → ℕ → Type 0
Tells constants count places bounds r = (f : Result (Option (List ℤ)) (Refused ℕ)) × Found constants count places bounds f × (r ≡ code f)

-- A slice with numbers in front, if it has room for them
abbrev pub noted : (numbers slots : List ℤ) → List ℤ
noted numbers l = cond (leb (length numbers) (length l)) (numbers ++ drop (length numbers) l) l

-- What is left of a slice for numbers: with a yes the constants' numbers in front, if there is room for them; else it stays.
abbrev pub with_numbers : (constants : ℕ) → Result (Option (List ℤ)) (Refused ℕ) → List ℤ → List ℤ
with_numbers constants (Ok (Some numbers)) l = noted (take constants numbers) l
with_numbers constants (Ok None) l = l
with_numbers constants (Err refused) l = l

-- `drf_numbers`, with the slice l: the number of the answer, and the numbers beside a yes
abbrev pub TellsNumbers : (constants count : ℕ) → List ℕ → List ℤ → (l l' : List ℤ) → ℕ → Type 0
TellsNumbers constants count places bounds l l' r =
    (f : Result (Option (List ℤ)) (Refused ℕ)) × Found constants count places bounds f × (r ≡ code f) × (l' ≡ with_numbers constants f l)

-- The number, and what every lent slot holds afterwards, are unique. Proved in proofs/Unique.antt.
abbrev pub TellsOnce : Type 0
TellsOnce = (constants count : ℕ) (places : List ℕ) (bounds : List ℤ) (r s : ℕ) → Tells constants count places bounds r → Tells constants count places bounds s → r ≡ s

abbrev pub TellsNumbersOnce : Type 0
TellsNumbersOnce = (constants count : ℕ) (places : List ℕ) (bounds : List ℤ) (l l₁ l₂ : List ℤ) (r₁ r₂ : ℕ)
    → TellsNumbers constants count places bounds l l₁ r₁ → TellsNumbers constants count places bounds l l₂ r₂ → (r₁ ≡ r₂) × (l₁ ≡ l₂)
