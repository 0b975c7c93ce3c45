-- The numbers behind a yes. The request "Show the numbers behind a yes": "of all choices for constants and zero in which nothing exceeds 0, the
-- order holds and every atom holds as a difference, take the one largest at each place, then subtract zero's number from all."
use Rattle.std.specs.Prelude.{◌≡◌, ℕ, zero, suc, ◌≤◌, ◌<◌, ℤ, pos, neg_ℤ, ◌-ℤ◌, ◌≤ℤ◌, ◌<ℤ◌}
use mathlib.Core.List.{List, Memᴰ, [], ◌++◌, ◌∷◌}
use Rattle.basis.specs.declared.Atom.{Atom}
use Rattle.basis.specs.Atoms.{Holds}
use Rattle.basis.specs.Numbers.{whole}

-- A choice of whole numbers "for constants and zero", which is place 0: "nothing exceeds 0, the order holds and every atom holds as a difference"
pub record Choice (constants : ℕ) (atoms : List Atom) (v : ℕ → ℤ) : Type 0 where
  pub none_above : (i : ℕ) → i ≤ constants → v i ≤ℤ pos 0
  pub rising : (i : ℕ) → 1 ≤ i → i < constants → v i <ℤ v (suc i)
  pub every : (a : Atom) → Memᴰ a atoms → Holds whole v a

-- "take the one largest at each place"
pub record LargestChoice (constants : ℕ) (atoms : List Atom) (v : ℕ → ℤ) : Type 0 where
  pub choice : Choice constants atoms v
  pub largest : (u : ℕ → ℤ) → Choice constants atoms u → (i : ℕ) → i ≤ constants → u i ≤ℤ v i

-- "then subtract zero's number from all": the constants' numbers, in order. Zero's own is 0 then, and is not listed.
abbrev pub less_zero : (constants : ℕ) → (ℕ → ℤ) → List ℤ
less_zero zero v = []
less_zero (suc k) v = less_zero k v ++ ((v (suc k) -ℤ v 0) ∷ [])

-- The numbers behind a yes, one for each constant
pub record NumbersOf (constants : ℕ) (atoms : List Atom) (numbers : List ℤ) : Type 0 where
  pub choice : ℕ → ℤ
  pub largest : LargestChoice constants atoms choice
  pub less_zero : numbers ≡ less_zero constants choice

-- An example: of two constants the first is at least 2. Nothing exceeds 0, so the largest are -1 and 0, and for zero -3; less zero's number they are
-- 2 and 3. Proved in proofs/Choices.antt.
abbrev pub FirstAtLeastTwo : Type 0
FirstAtLeastTwo = NumbersOf 2 (record { p = 0; q = 1; c = neg_ℤ (pos 2) } ∷ []) (pos 2 ∷ pos 3 ∷ [])
