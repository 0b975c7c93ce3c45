-- Conditions of the code, tried one after the other as the calculus's.
use Rattle.std.specs.Prelude.{◌≡◌, Bool, ℕ, Option, None, Some, Result, Ok, Err}
use Rattle.basis.specs.Refusals.{accepted, number_of}
use Rattle.basis.specs.declared.Refusal.{Refusal}
use Rattle.calculus.specs.Checks.{Check, ◌or◌}

-- A condition of the code, with the refusal given where it does not hold
abbrev pub check_of : Bool × Refusal → Check
check_of c = c.0 or number_of c.1

-- The number of an answer that says no more than which refusal it is
abbrev pub answer_number : Result (Unit {0}) Refusal → ℕ
answer_number (Ok u) = accepted
answer_number (Err r) = number_of r

-- The number of a refusal, or of none
abbrev pub given_number : Option Refusal → ℕ
given_number None = accepted
given_number (Some r) = number_of r

-- No two answers have one number. Proved in proofs/Trying.antt.
abbrev pub AnswerNumberOnce : Type 0
AnswerNumberOnce = (r s : Result (Unit {0}) Refusal) (n : ℕ) → answer_number r ≡ n → answer_number s ≡ n → r ≡ s

abbrev pub GivenNumberOnce : Type 0
GivenNumberOnce = (r s : Option Refusal) (n : ℕ) → given_number r ≡ n → given_number s ≡ n → r ≡ s
