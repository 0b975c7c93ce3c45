-- Reading: a file is a list of bytes, and what is read from a place on is a value or a refusal. "Bytes count from 0."
use Rattle.std.specs.Prelude.{List, [], ◌∷◌, ◌++◌, cond, ℕ, zero, suc, ◌+◌, eqb, leb, length, take, drop}
use Rattle.basis.specs.Refusals.{accepted, ends_inside}
use Rattle.calculus.specs.Checks.{Check, first_refusal}

-- A value and the place after it, or a refusal's number and its place
pub data Got (A : Type 0) : Type 0 where
  got : A → (next : ℕ) → Got A
  bad : (number place : ℕ) → Got A

-- What is read of a file from a place on
abbrev pub Reader : Type 0 → Type 0
Reader A = List ℕ → ℕ → Got A

-- Going on from a value and the place after it; a refusal stays.
abbrev pub onward : {A B : Type 0} → Got A → (A → ℕ → Got B) → Got B
onward (got x j) k = k x j
onward (bad n p) k = bad n p

-- One reading after the other, which knows the value of the first
infixr 20 ◌then◌
abbrev pub ◌then◌ : {A B : Type 0} → Reader A → (A → Reader B) → Reader B
◌then◌ f g s i = onward (f s i) (λ x j. g x s j)

-- A value for which nothing is read
abbrev pub give : {A : Type 0} → A → Reader A
give x s i = got x i

-- "The place is the byte where the field, clause or surplus begins": what is read is judged at its end, and refused at its first byte.
infixl 30 ◌judged◌
abbrev pub ◌judged◌ : {A : Type 0} → Reader A → (A → List Check) → Reader A
◌judged◌ f checks s i = onward (f s i) (λ x j. let n = first_refusal (checks x) in cond (eqb n accepted) (got x j) (bad n i))

-- A field of n bytes, or "the file ends inside a field"
unfoldable pub field : ℕ → Reader (List ℕ)
field n s i = cond (leb (i + n) (length s)) (got (take n (drop i s)) (i + n)) (bad ends_inside i)

-- n readings, one after the other
unfoldable pub times : {A : Type 0} → ℕ → Reader A → Reader (List A)
times zero f = give []
times (suc n) f = times n f then λ xs. f then λ x. give (xs ++ (x ∷ []))
