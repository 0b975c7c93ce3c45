-- What is proved of the numbers behind a yes (basis/specs/Choices.antt, which names no square): they exist exactly if the atoms are possible, are
-- unique, can be checked by hand, and how far from 0 they come (proofs/Numbers.antt); and how a square gives them (proofs/Choices.antt).
use Rattle.std.specs.Prelude.{◌≡◌, ◌↔◌, ℕ, zero, suc, ◌*◌, ◌≤◌, ◌<◌, ℤ, negsuc, pos, get_or, length, ◌<ℤ◌}
use mathlib.Core.List.{List, Memᴰ}
use Rattle.basis.specs.declared.Atom.{Atom}
use Rattle.basis.specs.Atoms.{Holds, Possible}
use Rattle.basis.specs.Choices.{LargestChoice, NumbersOf}
use Rattle.basis.specs.Numbers.{whole}
use Rattle.integers.specs.Sides.{Within}
use Rattle.bounds.specs.Squares.{Closed, Keeps, KeepsAll, values}
use Rattle.bounds.specs.Whole.{whole_bounds}

-- The atoms are over the constants and zero.
abbrev pub Placed : ℕ → List Atom → Type 0
Placed constants atoms = (a : Atom) → Memᴰ a atoms → (a.p ≤ constants) × (a.q ≤ constants)

-- There are numbers exactly if the atoms are possible ..
abbrev pub NumbersExist : Type 0
NumbersExist = (constants : ℕ) (atoms : List Atom) → Placed constants atoms → Possible whole constants atoms ↔ ((numbers : List ℤ) × NumbersOf constants atoms numbers)

-- .. and they are unique.
abbrev pub NumbersOnce : Type 0
NumbersOnce = (constants : ℕ) (atoms : List Atom) (ms ns : List ℤ) → NumbersOf constants atoms ms → NumbersOf constants atoms ns → ms ≡ ns

-- The number at a place: 0 for zero, a constant's from the list
abbrev pub number_at : List ℤ → ℕ → ℤ
number_at numbers zero = pos 0
number_at numbers (suc k) = get_or numbers k (pos 0)

-- What a reader can check by hand: one number for each constant, b1 < b2 < .., and every atom true
pub record Checked (constants : ℕ) (atoms : List Atom) (numbers : List ℤ) : Type 0 where
  pub one_each : length numbers ≡ constants
  pub rising : (i : ℕ) → 1 ≤ i → i < constants → number_at numbers i <ℤ number_at numbers (suc i)
  pub every : (a : Atom) → Memᴰ a atoms → Holds whole (number_at numbers) a

-- The numbers can be checked so.
abbrev pub NumbersChecked : Type 0
NumbersChecked = (constants : ℕ) (atoms : List Atom) (numbers : List ℤ) → Placed constants atoms → NumbersOf constants atoms numbers → Checked constants atoms numbers

-- Where every c is from -b to b, b not 0, no number is further from 0 than b times the number of constants: 16,000,016 for 16 constants and c as the test takes it.
abbrev pub NumbersWithin : Type 0
NumbersWithin = (constants b : ℕ) (atoms : List Atom) (numbers : List ℤ) → 1 ≤ b → Placed constants atoms → ((a : Atom) → Memᴰ a atoms → Within b a.c) → NumbersOf constants atoms numbers
    → (k : ℕ) → k < constants → Within (constants * b) (get_or numbers k (pos 0))

-- So far they do come: whatever the number of constants, some atoms give the last one just this number.
abbrev pub MagnitudeReached : Type 0
MagnitudeReached = (k b : ℕ) → 1 ≤ b → (atoms : List Atom) × Placed (suc k) atoms × ((a : Atom) → Memᴰ a atoms → Within b a.c)
    × (numbers : List ℤ) × NumbersOf (suc k) atoms numbers × (get_or numbers k (pos 0) ≡ pos (suc k * b))

-- ---- the square gives them

-- Of values for the places 0 to n: no two lie further apart than `far`, the order of the constants holds, and so does every atom.
pub record NearKept (n far constants : ℕ) (atoms : List Atom) (v : ℕ → ℤ) : Type 0 where
  pub near : (i j : ℕ) → i < suc n → j < suc n → Keeps whole_bounds v i j (pos far)
  pub rising : (i : ℕ) → 1 ≤ i → i < constants → Keeps whole_bounds v i (suc i) (negsuc 0)
  pub every : (a : Atom) → Memᴰ a atoms → Keeps whole_bounds v a.p a.q a.c

-- Where a closed square says exactly that, each row's lowest bound among zero and the constants is the largest choice: among all choices, not only
-- among those that lie so near.
abbrev pub SquareGives : Type 0
SquareGives = (n far constants : ℕ) (atoms : List Atom) (d : ℕ → ℕ → ℤ) → constants ≤ n → Placed constants atoms → Closed whole_bounds (suc n) d
    → ((v : ℕ → ℤ) → KeepsAll whole_bounds (suc n) d v ↔ NearKept n far constants atoms v) → LargestChoice constants atoms (values whole_bounds constants d)
