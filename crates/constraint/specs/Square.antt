-- The square of 17 by 17 bounds that the test works on, what the private functions do to it, and that no sum of bounds overflows.
-- The promise is in Test and needs nothing of this.
use Rattle.std.specs.Prelude.{cond, ◌&&◌, List, [], ◌↔◌, ℕ, suc, ◌+◌, ◌-◌, ◌*◌, ◌≤◌, ◌<◌, eqb, leb, ltb, get_or, length, Option, Some, None, ℤ, pos, negsuc, ◌+ℤ◌, ◌-ℤ◌}
use Rattle.std.specs.Int.{w64}
use Rattle.std.proofs.Common.{SFits}
use Rattle.basis.specs.declared.Atom.{Atom}
use Rattle.basis.specs.Atoms.{InTest, Possible, Proper}
use Rattle.basis.specs.Limits.{most_denied}
use Rattle.basis.specs.Numbers.{whole}
use Rattle.integers.specs.Sides.{Within}
use Rattle.bounds.specs.Whole.{whole_bounds}
use Rattle.bounds.specs.Squares.{Keeps, KeepsAll, Closed}
use Rattle.constraint.specs.Test.{NumbersIn, atom_at}

-- "a table of bounds between every two of 17 places (16 constants and zero)"
abbrev pub places : ℕ
places = 17

-- The largest bound that may be put in: the test's c reaches −1,000,001.
abbrev pub most_bound : ℕ
most_bound = most_denied

-- The bound that stands in place of none, 17,000,017: values can be drawn together until none lie further apart.
abbrev pub far : ℕ
far = places * most_bound

-- The largest sum of a bound of the square and the one put in, 18,000,018, ..
abbrev pub most_chain : ℕ
most_chain = far + most_bound

-- .. and of these and a second bound of the square, 35,000,035: no sum that the test forms is larger.
abbrev pub most_sum : ℕ
most_sum = most_chain + far

-- The bound at j of a row, and at i and j of the square.
abbrev pub at : List ℤ → ℕ → ℤ
at row j = get_or row j (pos 0)

abbrev pub entry : List (List ℤ) → ℕ → ℕ → ℤ
entry t i j = at (get_or t i []) j

-- The square is closed, and each bound lies from -far to far.
pub record Sound (t : List (List ℤ)) : Type 0 where
  pub closed : Closed whole_bounds places (entry t)
  pub small : (i j : ℕ) → i < places → j < places → Within far (entry t i j)

-- The square says of values exactly what Q says.
pub record Stands (Q : (ℕ → ℤ) → Type 0) (t : List (List ℤ)) : Type 0 where
  pub sound : Sound t
  pub exact : (v : ℕ → ℤ) → KeepsAll whole_bounds places (entry t) v ↔ Q v

-- No two values lie further apart than far.
abbrev pub Near : (ℕ → ℤ) → Type 0
Near v = (i j : ℕ) → i < places → j < places → Keeps whole_bounds v i j (pos far)

-- b1 < b2 < .. as far as the last constant, as bounds: value j - value (j + 1) ≤ -1.
abbrev pub Ordered : ℕ → (ℕ → ℤ) → Type 0
Ordered constants v = Near v × ((j : ℕ) → 1 ≤ j → j < constants → Keeps whole_bounds v j (suc j) (negsuc 0))

-- How many constants stand after the place i in the order, and how many before j: none for zero and for a place past the constants.
abbrev pub stand_after : ℕ → ℕ → ℕ
stand_after constants i = cond (leb 1 i) (constants - i) 0

abbrev pub stand_before : ℕ → ℕ → ℕ
stand_before constants j = cond (leb j constants) (j - 1) 0

-- The bound at i and j by the order alone: i - j where bi < .. < bj; else far, less the steps from i to the last constant and from the first to j.
unfoldable pub by_order : ℕ → ℕ → ℕ → ℤ
by_order constants i j = cond (eqb i j) (pos 0) (cond (leb 1 i && ltb i j && leb j constants) (pos i -ℤ pos j) (pos far -ℤ pos (stand_after constants i + stand_before constants j)))

-- The atom at k, as a bound.
abbrev pub Meets : List Atom → (ℕ → ℤ) → ℕ → Type 0
Meets atoms v k = Keeps whole_bounds v (atom_at atoms k).p (atom_at atoms k).q (atom_at atoms k).c

-- The order and the first k atoms.
abbrev pub Posed : ℕ → List Atom → ℕ → (ℕ → ℤ) → Type 0
Posed constants atoms k v = Ordered constants v × ((j : ℕ) → j < k → Meets atoms v j)

-- What is said of the order and the atoms: numbers exactly if they are possible, and those behind the yes.
abbrev pub Keeping : ℕ → List Atom → Option (List ℤ) → Type 0
Keeping constants atoms (Some slots) = Possible whole constants atoms × NumbersIn constants atoms slots
Keeping constants atoms None = ¬ Possible whole constants atoms

-- None where all atoms are proper, and else the first that is not, from 0.
abbrev pub FirstImproper : ℕ → List Atom → Option ℕ → Type 0
FirstImproper constants atoms None = (j : ℕ) → j < length atoms → Proper InTest constants (atom_at atoms j)
FirstImproper constants atoms (Some k) = (k < length atoms) × ((j : ℕ) → j < k → Proper InTest constants (atom_at atoms j)) × ¬ Proper InTest constants (atom_at atoms k)

-- No sum of bounds overflows: each sum that the test forms, of a sound square and a bound put in, lies from -35,000,035 to 35,000,035,
-- and 64 bits hold it. Every square of the test is sound. Proved in proofs/Sums.antt.
pub record NoOverflow : Type 0 where
  -- The bound put in, after one of the square, ..
  pub chain : (t : List (List ℤ)) (c : ℤ) → Sound t → Within most_bound c → (i p : ℕ) → i < places → p < places → Within most_chain (entry t i p +ℤ c)
  -- .. and before another.
  pub long_chain : (t : List (List ℤ)) (c : ℤ) → Sound t → Within most_bound c → (i p q j : ℕ) → i < places → p < places → q < places → j < places →
      Within most_sum ((entry t i p +ℤ c) +ℤ entry t q j)
  -- The chain that it closes.
  pub round : (t : List (List ℤ)) (c : ℤ) → Sound t → Within most_bound c → (p q : ℕ) → p < places → q < places → Within most_chain (c +ℤ entry t q p)
  pub held : (z : ℤ) → Within most_sum z → SFits w64 z
