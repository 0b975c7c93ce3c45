-- What passes its checks and what does not.
use Rattle.std.proofs.Common.{◌≡◌, ◌∙◌, ap, refl, sym, List, [], ◌∷◌, ℕ, Bool, true, false, Result, Ok, Err}
use Rattle.basis.specs.Refusals.{number_of}
use Rattle.basis.specs.declared.Refusal.{Refusal}
use Rattle.basis.specs.declared.Refusal.TheVariants as refusals
use Rattle.basis.specs.declared.Refused.{Refused}
use Rattle.basis.proofs.Numbered.{in_table, numbered, numbered_again}
use Rattle.basis.specs.RuleNumbers.{rule_number, rule_numbered}
use Rattle.basis.specs.declared.Rule.{Rule}
use Rattle.basis.specs.declared.Rule.TheVariants.{Propagate, Decide, Conflict, Resolve, Factorize, Skip, Backtrack, Grow}
use Rattle.basis.specs.declared.UnknownRule.{UnknownRule}
use Rattle.calculus.specs.Checks.{◌or◌}
use Rattle.lists.specs.declared.Held.{Held}
use Rattle.fields.specs.Views.{MarkedOnce, ReadEachOnce, ReadOnce, RuleReadOnce, filled, marked, passed, read_as}
use Rattle.lists.proofs.Tests.{same_list→eq}
use Rattle.lists.specs.Lists.{same_list}
use Rattle.runfile.specs.File.{letters, mark}
use Rattle.runfile.specs.Readers.{Got, Reader, ◌judged◌, bad, field, got}

-- ---- one answer

-- Where the view of a value tells the value, ..
module _ {T A : Type 0} (view : T → A) (back : A → T) (again : (x : T) → back (view x) ≡ x) where
  abbrev unread : Got A → Result (T × ℕ) (Refused ℕ)
  unread (got x j) = Ok (back x, j)
  unread (bad n p) = Err (record { refusal = numbered n; place = p })

  read_again : (r : Result (T × ℕ) (Refused ℕ)) → unread (read_as view r) ≡ r
  read_again (Ok x) = ap (λ (y : T). Ok (y, x.1)) (again x.0)
  read_again (Err e) = ap (λ (r : Refusal). Err (record { refusal = r; place = e.place })) (numbered_again e.refusal)

  -- .. what was read has one answer.
  pub read_as_once : (r s : Result (T × ℕ) (Refused ℕ)) (g : Got A) → read_as view r ≡ g → read_as view s ≡ g → r ≡ s
  read_as_once r s g e h = sym (read_again r) ∙ ap unread (e ∙ sym h) ∙ read_again s

pub read_once : ReadOnce
read_once A = read_as_once (λ (x : A). x) (λ x. x) (λ x. refl)

pub marked_once : MarkedOnce
marked_once = read_as_once (λ (_ : Unit {0}). letters) (λ _. tt) (λ _. refl)

-- The rule with a number
pub rule_back : ℕ → Rule
rule_back n = by (rule_numbered n)
  where
    by : Result Rule UnknownRule → Rule
    by (Ok r) = r
    by (Err u) = Grow

pub rule_again : (r : Rule) → rule_back (rule_number r) ≡ r
unfolding rule_back
rule_again Propagate = refl
rule_again Decide = refl
rule_again Conflict = refl
rule_again Resolve = refl
rule_again Factorize = refl
rule_again Skip = refl
rule_again Backtrack = refl
rule_again Grow = refl

pub rule_read_once : RuleReadOnce
rule_read_once = read_as_once rule_number rule_back rule_again

-- ---- judged

module _ {A T : Type 0} (view : T → A) (f : Reader A) (ok : A → Bool) (r : Refusal) (s : List ℕ) (i : ℕ) where
  -- A value that was read, as the code judges it and as the definition does
  pub judges : (x : T) (j : ℕ) (b : Bool) → got (view x) j ≡ f s i → ok (view x) ≡ b → read_as view (passed b x j r i) ≡ (f judged λ z. ok z or number_of r ∷ []) s i
  judges x j true e h = rw (sym e, h)
  judges x j false e h = rw (sym e, h, in_table r)

-- The mark, of which the code gives no value
pub mark_judged : (s bytes : List ℕ) (i j : ℕ) (ok : Bool) → got bytes j ≡ field 3 s i → same_list bytes letters ≡ ok → marked (passed ok tt j refusals.WrongMark i) ≡ mark s i
mark_judged s bytes i j true e h = rw (sym e, h, same_list→eq bytes letters (rw h tt))
mark_judged s bytes i j false e h = rw (sym e, h)

pub read_each_once : ReadEachOnce
read_each_once T answers N blank n at r r' (f, s, c) a b = read_once (Held T N) r r' (filled N blank n f s at) (a f s c) (b f s c)
