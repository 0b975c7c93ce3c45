-- What a reader of the code answers, as a reading of the run file.
use Rattle.std.specs.Prelude.{Bool, cond, ◌≡◌, List, [], ◌∷◌, ℕ, Result, Ok, Err}
use Rattle.basis.specs.Refusals.{number_of}
use Rattle.basis.specs.declared.Refusal.{Refusal}
use Rattle.basis.specs.declared.Refused.{Refused}
use Rattle.basis.specs.RuleNumbers.{rule_number}
use Rattle.basis.specs.declared.Rule.{Rule}
use Rattle.lists.specs.Arrays.{held}
use Rattle.lists.specs.declared.Held.{Held}
use Rattle.calculus.specs.Checks.{◌or◌, between}
use Rattle.runfile.specs.Readers.{Got, Reader, ◌judged◌, ◌then◌, bad, give, got, times}
use Rattle.runfile.specs.File.{byte, letters}

-- A value and the place after it, or a refusal and its place, as what was read; each value is seen by `view`.
abbrev pub read_as : {T A : Type 0} → (T → A) → Result (T × ℕ) (Refused ℕ) → Got A
read_as view (Ok x) = got (view x.0) x.1
read_as view (Err e) = bad (number_of e.refusal) e.place

-- The same of a value that is its own view
abbrev pub read : {A : Type 0} → Result (A × ℕ) (Refused ℕ) → Got A
read r = read_as (λ x. x) r

-- A value that was read and the place after it, if it passes; else the refusal, at the place where it began.
abbrev pub passed : {T : Type 0} → Bool → T → (next : ℕ) → Refusal → (at : ℕ) → Result (T × ℕ) (Refused ℕ)
passed ok x next r at = cond ok (Ok (x, next)) (Err (record { refusal = r; place = at }))

-- What was read has one answer. Proved in proofs/Laws.antt.
abbrev pub ReadOnce : Type 1
ReadOnce = (A : Type 0) (r s : Result (A × ℕ) (Refused ℕ)) (g : Got A) → read r ≡ g → read s ≡ g → r ≡ s

-- A rule, seen by its number
abbrev pub rule_read : Result (Rule × ℕ) (Refused ℕ) → Got ℕ
rule_read r = read_as rule_number r

abbrev pub RuleReadOnce : Type 0
RuleReadOnce = (r s : Result (Rule × ℕ) (Refused ℕ)) (g : Got ℕ) → rule_read r ≡ g → rule_read s ≡ g → r ≡ s

-- The mark, of which no value is given
abbrev pub marked : Result (Unit {0} × ℕ) (Refused ℕ) → Got (List ℕ)
marked r = read_as (λ _. letters) r

abbrev pub MarkedOnce : Type 0
MarkedOnce = (r s : Result (Unit {0} × ℕ) (Refused ℕ)) (g : Got (List ℕ)) → marked r ≡ g → marked s ≡ g → r ≡ s

-- A number of one byte from least to most, else refused by n
abbrev pub ranged : (least most n : ℕ) → Reader ℕ
ranged least most n = byte judged λ x. between least most x or n ∷ []

-- ---- what is read several times

-- What a call for a place may answer is what f reads of s there.
abbrev pub Calls : {T : Type 0} → (ℕ → Result (T × ℕ) (Refused ℕ) → Type 0) → Reader T → List ℕ → Type 0
Calls answers f s = (i : ℕ) (r : _) → answers i r → read r ≡ f s i

-- n readings, one after the other, in an array with room for N, which is blank past them
abbrev pub filled : {T : Type 0} (N : ℕ) → T → ℕ → Reader T → Reader (Held T N)
filled N blank n f = times n f then λ xs. give (held N blank xs)

-- There is a reading, of some bytes, that calls answer by.
abbrev pub Described : {T : Type 0} → (ℕ → Result (T × ℕ) (Refused ℕ) → Type 0) → Type 0
Described {T} answers = (f : Reader T) × (s : List ℕ) × Calls answers f s

-- What reading n values by such calls answers: what it is of every reading that they answer by.
abbrev pub ReadsEach : {T : Type 0} → (ℕ → Result (T × ℕ) (Refused ℕ) → Type 0) → (N : ℕ) → T → (n at : ℕ) → Result (Held T N × ℕ) (Refused ℕ) → Type 0
ReadsEach {T} answers N blank n at r = (f : Reader T) (s : List ℕ) → Calls answers f s → read r ≡ filled N blank n f s at

-- It is unique. Proved in proofs/Laws.antt.
abbrev pub ReadEachOnce : Type 1
ReadEachOnce = (T : Type 0) (answers : ℕ → Result (T × ℕ) (Refused ℕ) → Type 0) (N : ℕ) (blank : T) (n at : ℕ) (r r' : Result (Held T N × ℕ) (Refused ℕ))
    → Described answers → ReadsEach answers N blank n at r → ReadsEach answers N blank n at r' → r ≡ r'
