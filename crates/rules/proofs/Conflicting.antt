-- Conflict: each answer in terms of what the code has seen.
use Rattle.std.specs.Option.{is_none, is_some, unwrap_or}
use Rattle.std.specs.Prelude.{None, Option, Some}
use mathlib.Core.Path.{◌∙◌, ◌≡◌, refl, subst, sym}
use mathlib.Core.Logic.{◌↔◌}
use mathlib.Core.List.{List}
use mathlib.Core.Bool.{Bool, ◌&&◌, cond, false, not, true}
use Prim.Native.Nat.{◌+◌, ◌<◌, ◌≤◌, ℕ}
use native.Mathlib.Omega.{arith}
use lib.Dec.{T, eqb, leb}
use lib.ListN.{length, take}
use borrow.Author.Tests.{leb-false, leb-true, not-false, not-true}
use Rattle.rules.proofs.Asking.{and_so, asked, none, other_told, passed, place_told, some}
use Rattle.calculus.specs.Clauses as calculus
use Rattle.asking.specs.Looking.{looked_at}
use Rattle.rules.specs.Records.{RunAnswer, Shown, refused_at, refused_by, taken_up}
use Rattle.asking.specs.declared.Looked.{Looked}
use Rattle.basis.specs.Atoms.{Possible}
use Rattle.basis.specs.Limits.{most_variables}
use Rattle.basis.specs.Numbers.{whole}
use Rattle.basis.specs.Refusals.{above_limit, no_such, not_false, not_possible, wrong_moment}
use Rattle.lists.specs.Arrays.{exactly}
use Rattle.rules.specs.Answers.{RunOf, Told}
use Rattle.rules.specs.declared.Run.{Run}
use Rattle.calculus.specs.Checks.{between}
use Rattle.calculus.specs.Clauses.{ground_atoms}
use Rattle.calculus.specs.Tests.{all_false, clause_exists, instance_fits}
use Rattle.calculus.specs.States.{Conflict, State, Step, clause_at, clauses, stands}
use Rattle.calculus.specs.Trails.{atoms_of}
use Rattle.clauses.specs.Records.{clause_of, packed}
use Rattle.rules.proofs.Naming.{and_true, asked_is, instance_is, instance_long, instance_short, looks_named, named_packed, named_there}
use Rattle.reaching.proofs.Reached.{named_proper}
use Rattle.rules.proofs.Runs.{fine, standing, stands_is, with_conflict}
use Rattle.rules.proofs.Testing.{carry, decides, hands, tested}
use Rattle.rules.proofs.Told.{accepted_as, refused, refused_at_lem, refused_by_lem}
use Rattle.trail.proofs.NotFalse.{its_number, none_fails, one_fails}
use Rattle.testing.specs.Asked.{Gathers, WitnessOf, tested_atoms}
use Rattle.testing.specs.declared.Tested.{Tested}
use Rattle.trail.specs.Answers.{first_number, passes}
use Rattle.trail.specs.Entries.{trail_of}
use Rattle.calculus.specs.Rules.{question}

-- The number that is given by the first condition that does not hold, or 0
abbrev pub conflict_number : Bool → Bool → Bool → Bool → Bool → ℕ
conflict_number few free named false_all possible = cond few (cond free (cond named (cond false_all (cond possible 0 not_possible) not_false) no_such) wrong_moment) above_limit

module _ {r : Run} {s : State} (R : RunOf r s) (k : Looked) (c count : ℕ) (ι : List ℕ) (long : length ι ≡ 12) {υ : List ℕ} (read : υ ≡ take count ι) where
  conflict_long : most_variables < count → Told s (Conflict c (exactly count 0 ι)) (refused_by r above_limit)
  conflict_long h = refused R (Conflict c (exactly count 0 ι)) above_limit tt tt (λ b. rw (instance_long count ι h))

  module _ (h₁ : count ≤ most_variables) where
    abbrev y : Step
    y = Conflict c υ

    given : {a : RunAnswer} → Told s y a → Told s (Conflict c (exactly count 0 ι)) a
    given {a} = subst (λ (ρ : List ℕ). Told s (Conflict c ρ) a) (read ∙ sym (instance_is count ι (omega arith)))

    short : leb (length υ) most_variables ≡ true
    short = rw read (instance_short count ι (omega arith) h₁)

    conflict_standing : r.stands ≡ true → Told s (Conflict c (exactly count 0 ι)) (refused_by r wrong_moment)
    conflict_standing h = given (refused R y wrong_moment tt tt (λ b. simp (short, standing R h)))

    module _ (h₂ : r.stands ≡ false) (handed : k ≡ looked_at s (Conflict c (exactly count 0 ι))) where
      looks : T (clause_exists (clauses s) c) → k.clause ≡ packed (clause_at (clauses s) c)
      looks = looks_named s k c handed

      free : stands s.conflict ≡ false
      free = sym (stands_is R) ∙ h₂

      abbrev D : calculus.Clause
      D = clause_at (clauses s) c

      -- What the code asks of the numbers
      abbrev Named : Bool
      Named = between 1 (r.input + r.learned) c && instance_fits r.constants (clause_of k.clause) υ

      named : {b : Bool} → Named ≡ b → (clause_exists (clauses s) c && instance_fits s.constants D υ) ≡ b
      named h = sym (asked_is R k.clause c looks (λ n E. instance_fits n E υ)) ∙ h

      conflict-no-such : Named ≡ false → Told s (Conflict c (exactly count 0 ι)) (refused_by r no_such)
      conflict-no-such h = given (refused R y no_such tt tt (λ b. simp (short, free, named h)))

      module _ (h₃ : Named ≡ true) (p : Option ℕ) (p-is : p ≡ first_number (passes None (trail_of r.trail r.length) υ) (clause_of k.clause).literals) where
        there : between 1 (r.input + r.learned) c ≡ true
        there = (and_true (between 1 (r.input + r.learned) c) (instance_fits r.constants (clause_of k.clause) υ) h₃).0

        fits : instance_fits s.constants D υ ≡ true
        fits = (and_true (clause_exists (clauses s) c) (instance_fits s.constants D υ) (named h₃)).1

        number_is : p ≡ first_number (passes None s.trail υ) D.literals
        number_is = carry R k.clause c looks there (λ D t. p ≡ first_number (passes None t υ) D.literals) p-is

        conflict-not-false : (i : ℕ) → p ≡ Some i → Told s (Conflict c (exactly count 0 ι)) (refused_at r i)
        conflict-not-false i h = given (refused_at_lem R y i (sym (its_number (passes None s.trail υ) D.literals i (sym number_is ∙ h)))
            (λ b. simp (short, free, named h₃, one_fails (passes None s.trail υ) D.literals i (sym number_is ∙ h))))

        module _ (h₄ : p ≡ None) (w : Tested) (G : Gathers w (atoms_of (trail_of r.trail r.length)) (ground_atoms υ (clause_of k.clause).atoms)) (b : Shown) (d : WitnessOf r.constants (tested_atoms w) b) where
          all : all_false s.trail υ D.literals ≡ true
          all = none_fails (passes None s.trail υ) D.literals (sym number_is ∙ h₄)

          together : tested_atoms w ≡ question s y
          together = tested R k.clause c looks there υ w G

          says : T (is_some b) ↔ Possible whole s.constants (question s y)
          says = decides R y d together (named_proper (fine R) c υ (named_there R k.clause c looks there) (subst T (sym fits) tt))

          conflict-impossible : is_some b ≡ false → Told s (Conflict c (exactly count 0 ι)) (refused_by r not_possible)
          conflict-impossible h = given (refused_by_lem R y (is_some b) says not_possible tt tt (simp (short, free, named h₃, all, h)))

          conflict-accepted : is_some b ≡ true → (a : List ℕ) → a ≡ exactly most_variables 0 υ
              → Told s (Conflict c (exactly count 0 ι)) (taken_up r (record { clause = k.clause; instance = a }) b)
          conflict-accepted h a q = given (accepted_as R y (is_some b) says
              (simp (short, free, named h₃, all, h) (tt, (tt, (tt, (tt, (tt, tt)))))) (hands R y d together refl h)
              _ (with_conflict R (record { clause = k.clause; instance = a }) b (record { clause = D; instance = υ }) (λ i. record { clause = named_packed R k.clause c looks there i; instance = q i })))

  module _ (handed : k ≡ looked_at s (Conflict c (exactly count 0 ι))) (a : Bool) (a-is : a ≡ (leb (length υ) most_variables && (between 1 (r.input + r.learned) c && instance_fits r.constants (clause_of k.clause) υ)))
      (p : Option ℕ) (p-is : p ≡ first_number (passes None (trail_of r.trail r.length) υ) (clause_of k.clause).literals)
      (w : Tested) (G : Gathers w (atoms_of (trail_of r.trail r.length)) (ground_atoms υ (clause_of k.clause).atoms)) (b : Shown) (d : WitnessOf r.constants (tested_atoms w) b) {n n₁ n₂ n₃ n₄ : ℕ}
      (e₄ : n₄ ≡ cond (is_some b) 0 not_possible) (e₃ : n₃ ≡ cond (is_none p) n₄ not_false) (e₂ : n₂ ≡ cond a n₃ no_such) (e₁ : n₁ ≡ cond (not r.stands) n₂ wrong_moment) (e₀ : n ≡ cond (leb count most_variables) n₁ above_limit) where
    is_named : leb count most_variables ≡ true → {q : Bool} → a ≡ q → (between 1 (r.input + r.learned) c && instance_fits r.constants (clause_of k.clause) υ) ≡ q
    is_named t e = and_so (leb (length υ) most_variables) (between 1 (r.input + r.learned) c && instance_fits r.constants (clause_of k.clause) υ) (short (leb-true count most_variables t)) a-is e

    pub conflict_refused : ¬ (n ≡ 0) → Told s (Conflict c (exactly count 0 ι)) (cond (eqb n not_false) (refused_at r (unwrap_or p 0)) (refused_by r n))
    conflict_refused h =
        asked (leb count most_variables) _ _ e₀ (λ f q. other_told (unwrap_or p 0) q tt (conflict_long (leb-false count most_variables f))) (λ t₀ q₀. let h₁ = leb-true count most_variables t₀ in
        asked (not r.stands) _ _ e₁ (λ f q. other_told (unwrap_or p 0) (q₀ ∙ q) tt (conflict_standing h₁ (not-false r.stands f))) (λ t₁ q₁. let h₂ = not-true r.stands t₁ in
        asked a _ _ e₂ (λ f q. other_told (unwrap_or p 0) (q₀ ∙ q₁ ∙ q) tt (conflict-no-such h₁ h₂ handed (is_named t₀ f))) (λ t₂ q₂.
        asked (is_none p) _ _ e₃ (λ f q. place_told (unwrap_or p 0) (q₀ ∙ q₁ ∙ q₂ ∙ q) (conflict-not-false h₁ h₂ handed (is_named t₀ t₂) p p-is (unwrap_or p 0) (some p f))) (λ t₃ q₃. let h₄ = none p t₃ in
        asked (is_some b) _ _ e₄ (λ f q. other_told (unwrap_or p 0) (q₀ ∙ q₁ ∙ q₂ ∙ q₃ ∙ q) tt (conflict-impossible h₁ h₂ handed (is_named t₀ t₂) p p-is h₄ w G b d f))
        (λ t₄ q₄. absurd (h (q₀ ∙ q₁ ∙ q₂ ∙ q₃ ∙ q₄)))))))

    pub conflict_told : n ≡ 0 → (σ : List ℕ) → σ ≡ exactly most_variables 0 υ
        → Told s (Conflict c (exactly count 0 ι)) (taken_up r (record { clause = k.clause; instance = σ }) b)
    conflict_told o σ q =
        let (t₀, z₁) = passed (leb count most_variables) _ _ e₀ tt o in
        let (t₁, z₂) = passed (not r.stands) _ _ e₁ tt z₁ in
        let (t₂, z₃) = passed a _ _ e₂ tt z₂ in
        let (t₃, z₄) = passed (is_none p) _ _ e₃ tt z₃ in
        let (t₄, z₅) = passed (is_some b) _ _ e₄ tt z₄ in
        conflict-accepted (leb-true count most_variables t₀) (not-true r.stands t₁) handed (is_named t₀ t₂) p p-is (none p t₃) w G b d t₄ σ q
