-- What is answered of a table that is offered, and what is left of the lent buffer. Quoted is the request "Clauses from a lookup table".
use Rattle.std.specs.Prelude.{◌≡◌, List, [], ◌∷◌, ◌++◌, ℕ, ◌≤◌, ℤ, length, drop, Result, Ok, Err}
use Rattle.basis.specs.Limits.{most_rows}
use Rattle.basis.specs.Refusals.{number_of, too_many_rows, not_in_order, buffer_short}
use Rattle.basis.specs.declared.Refused.{Refused}
use Rattle.calculus.specs.Conditions.{Condition, ◌otherwise◌, EachHolds, FirstLacking}
use Rattle.lookup.specs.declared.Match.{Match}
use Rattle.lookup.specs.Tables.{InOrder, rows_of}
use Rattle.lookup.specs.TableClauses.{table_bytes}

-- The bytes of the table that is offered
abbrev pub bytes_for : (keys results : List ℤ) → Match → List ℕ
bytes_for keys results m = table_bytes m (rows_of keys results)

-- "Refusals: 19 more than 48 rows; 20 keys not strictly rising, or a key or result outside ±1,000,000; 21 buffer too short; in that order."
abbrev pub table_conditions : (keys results : List ℤ) → Match → (room : ℕ) → List Condition
table_conditions keys results m room =
    (length keys ≤ most_rows) otherwise too_many_rows ∷
    InOrder keys results otherwise not_in_order ∷
    (length (bytes_for keys results m) ≤ room) otherwise buffer_short ∷ []

-- What is answered, and left of the buffer d: "into a lent buffer, whose bytes past the last clause stay; a refusal leaves it as found." The
-- place of each of these refusals is 0.
abbrev pub Makes : (keys results : List ℤ) → Match → (d d' : List ℕ) → Result ℕ (Refused ℕ) → Type 0
Makes keys results m d d' (Ok n) =
    let w = bytes_for keys results m in
    EachHolds (table_conditions keys results m (length d)) × (n ≡ length w) × (d' ≡ w ++ drop n d)
Makes keys results m d d' (Err r) =
    FirstLacking (number_of r.refusal) (table_conditions keys results m (length d)) × (r.place ≡ 0) × (d' ≡ d)

-- Whatever is offered has an answer, and a refusal is one of the three. Proved in proofs/Every.antt and proofs/Making.antt.
abbrev pub EveryTable : Type 0
EveryTable = (keys results : List ℤ) (m : Match) (d : List ℕ) → (d' : List ℕ) × (r : Result ℕ (Refused ℕ)) × Makes keys results m d d' r

abbrev pub RefusedByThree : Type 0
RefusedByThree = (keys results : List ℤ) (m : Match) (d d' : List ℕ) (r : Refused ℕ) → Makes keys results m d d' (Err r) → (too_many_rows ≤ number_of r.refusal) × (number_of r.refusal ≤ buffer_short)

-- The answer is unique, and so is what every lent byte holds afterwards. Proved in proofs/Making.antt.
abbrev pub MakesOnce : Type 0
MakesOnce = (keys results : List ℤ) (m : Match) (d d₁ d₂ : List ℕ) (r₁ r₂ : Result ℕ (Refused ℕ)) → Makes keys results m d d₁ r₁ → Makes keys results m d d₂ r₂ → (r₁ ≡ r₂) × (d₁ ≡ d₂)
