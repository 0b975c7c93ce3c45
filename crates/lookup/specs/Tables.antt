-- A lookup table, what it returns, and which tables are in order. Quoted is the request "Clauses from a lookup table".
use Rattle.std.specs.Prelude.{◌≡◌, ℕ, suc, ◌<◌, ℤ, pos, ◌≤ℤ◌, ◌<ℤ◌, length, get_or}
use mathlib.Core.List.{List, [], ◌∷◌, Memᴰ}
use Rattle.basis.specs.Atoms.{InRange}
use Rattle.lookup.specs.declared.Match.{Match}
use Rattle.lookup.specs.declared.Match.TheVariants.{Exact, Approximate}

-- "rows of key and result"
pub record Row : Type 0 where
  pub key : ℤ
  pub result : ℤ

-- The rows that are offered: each key with the result at its place. Results past the keys are of no row.
abbrev pub rows_of : (keys results : List ℤ) → List Row
rows_of [] results = []
rows_of (k ∷ keys) [] = []
rows_of (k ∷ keys) (w ∷ results) = record { key = k; result = w } ∷ rows_of keys results

-- The row that the table finds at x: "the row of the largest key not above x, or the equal key"
abbrev pub Finds : Match → List Row → ℤ → Row → Type 0
Finds Exact rows x r = Memᴰ r rows × (r.key ≡ x)
Finds Approximate rows x r = Memᴰ r rows × (r.key ≤ℤ x) × ((o : Row) → Memᴰ o rows → o.key ≤ℤ x → o.key ≤ℤ r.key)

-- "the table returns y at x": y is the result of the row found.
abbrev pub Returns : Match → List Row → ℤ → ℤ → Type 0
Returns m rows x y = (r : Row) × Finds m rows x r × (r.result ≡ y)

-- Row j, counted from 0, has a result, its key is above the one before it, and both numbers are within ±1,000,000.
pub record RowInOrder (keys results : List ℤ) (j : ℕ) : Type 0 where
  pub has_result : j < length results
  pub rises : (i : ℕ) → j ≡ suc i → get_or keys i (pos 0) <ℤ get_or keys j (pos 0)
  pub key_range : InRange (get_or keys j (pos 0))
  pub result_range : InRange (get_or results j (pos 0))

-- It is not so that "keys not strictly rising, or a key or result outside ±1,000,000": each row is in order. There are as many rows as keys.
abbrev pub InOrder : (keys results : List ℤ) → Type 0
InOrder keys results = (j : ℕ) → j < length keys → RowInOrder keys results j
