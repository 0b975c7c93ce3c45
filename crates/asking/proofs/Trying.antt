-- Conditions tried one after the other.
use Rattle.std.proofs.Common.{◌≡◌, ◌∙◌, ap, refl, sym, List, ◌∷◌, ℕ, ◌+◌, ◌<◌, ◌≤◌, suc, Bool, true, false, length, get_or, drop, map, Option, None, Some, Result, Ok, Err, if◌then◌else◌}
use Rattle.std.proofs.lemmas.List.{drop_all}
use Rattle.std.specs.Result.{result_err}
use lib.Dec.{eqb}
use lib.Seq.{drop-cons}
use native.Mathlib.Numerals.{add-one}
use Rattle.basis.proofs.Numbered.{numbered, numbered_again, in_table}
use Rattle.basis.specs.Refusals.{accepted, number_of}
use Rattle.basis.specs.declared.Refusal.{Refusal}
use Rattle.basis.specs.declared.Refusal.TheVariants as refusals
use Rattle.calculus.specs.Checks.{first_refusal}
use Rattle.asking.specs.Trying.{AnswerNumberOnce, GivenNumberOnce, answer_number, check_of, given_number}

module _ (l : List (Bool × Refusal)) (i : ℕ) (h : i < length l) where
  this : drop i l ≡ get_or l i (false, refusals.EndsInside) ∷ drop (suc i) l
  this = drop-cons l i (false, refusals.EndsInside) h

  -- A condition holds: the rest tells.
  pub goes_on : (get_or l i (false, refusals.EndsInside)).0 ≡ true → first_refusal (map check_of (drop (i + 1) l)) ≡ first_refusal (map check_of (drop i l))
  goes_on e = rw (this, e, add-one i)

  -- It does not: its refusal is given.
  pub stops : (get_or l i (false, refusals.EndsInside)).0 ≡ false → number_of (get_or l i (false, refusals.EndsInside)).1 ≡ first_refusal (map check_of (drop i l))
  stops e = rw (this, e)

-- None is left.
pub all_tried : (l : List (Bool × Refusal)) (i : ℕ) → length l ≤ i → accepted ≡ first_refusal (map check_of (drop i l))
all_tried l i h = rw (drop_all i l h)

-- ---- one answer

abbrev untold : ℕ → Result (Unit {0}) Refusal
untold n = if eqb n accepted then Ok tt else Err (numbered n)

told_again : (r : Result (Unit {0}) Refusal) → untold (answer_number r) ≡ r
told_again (Ok u) = refl
told_again (Err r) = rw (in_table r, numbered_again r)

pub answer_number_once : AnswerNumberOnce
answer_number_once r s n e h = sym (told_again r) ∙ ap untold (e ∙ sym h) ∙ told_again s

abbrev ungiven : ℕ → Option Refusal
ungiven n = if eqb n accepted then None else Some (numbered n)

given_again : (r : Option Refusal) → ungiven (given_number r) ≡ r
given_again None = refl
given_again (Some r) = rw (in_table r, numbered_again r)

pub given_number_once : GivenNumberOnce
given_number_once r s n e h = sym (given_again r) ∙ ap ungiven (e ∙ sym h) ∙ given_again s

-- A refusal, or none, of an answer
pub err_given : (r : Result (Unit {0}) Refusal) → given_number (result_err r) ≡ answer_number r
err_given (Ok u) = refl
err_given (Err r) = refl
