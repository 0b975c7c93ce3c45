-- Answers as numbers, and what the exported functions promise: the numbers of the answer that is so.
use Rattle.std.specs.Prelude.{◌≡◌, ◌⊎◌, List, [], ◌∷◌, cond, ℕ, zero, suc, ◌+◌, ◌*◌, ◌/◌, ◌%◌, ◌≤◌, leb, ℤ, length, Result, Ok, Err}
use Rattle.std.proofs.lemmas.List.Edits.{sets}
use Rattle.basis.specs.Refusals.{number_of, too_many_rows}
use Rattle.basis.specs.declared.Refused.{Refused}
use Rattle.judging.specs.Judging.{Lists, Shows, ShowsNumbers}
use Rattle.judging.specs.declared.Written.{Written}
use Rattle.judging.specs.declared.Written.TheVariants.{Bytes, Short}
use Rattle.lookup.specs.declared.Match.{Match}
use Rattle.lookup.specs.declared.Match.TheVariants.{Exact, Approximate}
use Rattle.lookup.specs.Making.{Makes}
use Rattle.lookup.specs.Claims.{most_table_bytes}

-- ---- judging

-- How many bytes were written. No text is empty, so 0 says that the buffer is short.
abbrev pub count : Written → ℕ
count (Bytes n k p) = n
count Short = 0

-- What is left of a slice for the number and place that judging ends with: the two in front, if there is room for them and for the text
abbrev pub noted : Written → List ℕ → List ℕ
noted (Bytes n k p) l = cond (leb 2 (length l)) (sets l 0 (k ∷ p ∷ [])) l
noted Short l = l

-- `drf_judge` of the file s, with the buffer d and the slice l
abbrev pub Judges : (s d l d' l' : List ℕ) → ℕ → Type 0
Judges s d l d' l' r = (a : Written) × Lists s d d' a × (r ≡ count a) × (l' ≡ noted a l)

-- `drf_inspect` of the file s, with the buffer d and the slice l
abbrev pub Inspects : (s d l d' l' : List ℕ) → ℕ → Type 0
Inspects s d l d' l' r = (a : Written) × Shows s d d' a × (r ≡ count a) × (l' ≡ noted a l)

-- `drf_inspect_numbers` of the file s, with the buffer d and the slice l
abbrev pub InspectsNumbers : (s d l d' l' : List ℕ) → ℕ → Type 0
InspectsNumbers s d l d' l' r = (a : Written) × ShowsNumbers s d d' a × (r ≡ count a) × (l' ≡ noted a l)

-- The numbers, and what every lent byte holds afterwards, are unique. Proved in proofs/Unique.antt.
abbrev pub JudgesOnce : Type 0
JudgesOnce = (s d l d₁ d₂ l₁ l₂ : List ℕ) (r₁ r₂ : ℕ) → Judges s d l d₁ l₁ r₁ → Judges s d l d₂ l₂ r₂ → (r₁ ≡ r₂) × (d₁ ≡ d₂) × (l₁ ≡ l₂)

abbrev pub InspectsOnce : Type 0
InspectsOnce = (s d l d₁ d₂ l₁ l₂ : List ℕ) (r₁ r₂ : ℕ) → Inspects s d l d₁ l₁ r₁ → Inspects s d l d₂ l₂ r₂ → (r₁ ≡ r₂) × (d₁ ≡ d₂) × (l₁ ≡ l₂)

abbrev pub InspectsNumbersOnce : Type 0
InspectsNumbersOnce = (s d l d₁ d₂ l₁ l₂ : List ℕ) (r₁ r₂ : ℕ) → InspectsNumbers s d l d₁ l₁ r₁ → InspectsNumbers s d l d₂ l₂ r₂ → (r₁ ≡ r₂) × (d₁ ≡ d₂) × (l₁ ≡ l₂)

-- ---- clauses from lookup tables

-- The kind of match that a number says: 0 exact, every other approximate
abbrev pub match_of : ℕ → Match
match_of zero = Exact
match_of (suc n) = Approximate

-- How many bytes were written; for a refusal 256 times its number, plus its place
abbrev pub table_code : Result ℕ (Refused ℕ) → ℕ
table_code (Ok n) = n
table_code (Err r) = number_of r.refusal * 256 + r.place

-- `drf_table` of a table, with the buffer d
abbrev pub Tables : (keys results : List ℤ) → ℕ → (d d' : List ℕ) → ℕ → Type 0
Tables keys results a d d' r = (m : Result ℕ (Refused ℕ)) × Makes keys results (match_of a) d d' m × (r ≡ table_code m)

-- The number, and what every lent byte holds afterwards, are unique. Proved in proofs/Unique.antt.
abbrev pub TablesOnce : Type 0
TablesOnce = (keys results : List ℤ) (a : ℕ) (d d₁ d₂ : List ℕ) (r₁ r₂ : ℕ) → Tables keys results a d d₁ r₁ → Tables keys results a d d₂ r₂ → (r₁ ≡ r₂) × (d₁ ≡ d₂)

-- The least number of a refusal: 4,864
abbrev pub least_refused : ℕ
least_refused = too_many_rows * 256

-- The number tells the two apart: up to 1,488 so many bytes were written, and from 4,864 on it has the number and the place of the refusal. Proved
-- in proofs/Codes.antt.
abbrev pub CodeTells : Type 0
CodeTells =
    (keys results : List ℤ) (a : ℕ) (d d' : List ℕ) (r : ℕ) → Tables keys results a d d' r
    → ((r ≤ most_table_bytes) × Makes keys results (match_of a) d d' (Ok r))
    ⊎ ((least_refused ≤ r) × (e : Refused ℕ) × (number_of e.refusal ≡ r / 256) × (e.place ≡ r % 256) × Makes keys results (match_of a) d d' (Err e))
