-- One step: the record of a step, by its rule number, and what its rule answers.
use mathlib.Core.Path.{◌≡◌, refl, subst, transport⁻¹}
use Prim.Native.Nat.{ℕ}
use borrow.Author.Tests.{ne_eqb}
use Rattle.asking.specs.declared.Step as steps
use Rattle.rules.proofs.Told.{refused}
use Rattle.basis.specs.Refusals.{unknown_rule}
use Rattle.rules.specs.Answers.{Answered, Answers, Handed}
use Rattle.rules.specs.Records.{RunAnswer, refused_by}
use Rattle.asking.specs.Steps.{decide_of, instance_of, step_of}
use Rattle.asking.specs.declared.Looked.{Looked}
use Rattle.rules.specs.declared.Run.{Run}
use Rattle.calculus.specs.States.{Backtrack, Conflict, Factorize, Grow, Propagate, Resolve, Skip, Step, Unknown}

-- ---- by the rule number

pub propagate_step : (x : steps.Step) → x.rule ≡ 1 → step_of x ≡ Propagate x.clause x.literal (instance_of x)
propagate_step x e = rw e

pub decide_step : (x : steps.Step) → x.rule ≡ 2 → step_of x ≡ decide_of x
decide_step x e = rw e

pub conflict_step : (x : steps.Step) → x.rule ≡ 3 → step_of x ≡ Conflict x.clause (instance_of x)
conflict_step x e = rw e

pub resolve_step : (x : steps.Step) → x.rule ≡ 4 → step_of x ≡ Resolve x.literal
resolve_step x e = rw e

pub factorize_step : (x : steps.Step) → x.rule ≡ 5 → step_of x ≡ Factorize x.literal x.other
factorize_step x e = rw e

pub skip_step : (x : steps.Step) → x.rule ≡ 6 → step_of x ≡ Skip
skip_step x e = rw e

pub backtrack_step : (x : steps.Step) → x.rule ≡ 7 → step_of x ≡ Backtrack x.literal
backtrack_step x e = rw e

pub grow_step : (x : steps.Step) → x.rule ≡ 8 → step_of x ≡ Grow x.amount
grow_step x e = rw e

pub unknown_step : (x : steps.Step) → ¬ (x.rule ≡ 1) → ¬ (x.rule ≡ 2) → ¬ (x.rule ≡ 3) → ¬ (x.rule ≡ 4) → ¬ (x.rule ≡ 5) → ¬ (x.rule ≡ 6) → ¬ (x.rule ≡ 7) → ¬ (x.rule ≡ 8) → step_of x ≡ Unknown x.rule
unknown_step x h1 h2 h3 h4 h5 h6 h7 h8 = simp (ne_eqb x.rule 1 h1, ne_eqb x.rule 2 h2, ne_eqb x.rule 3 h3, ne_eqb x.rule 4 h4, ne_eqb x.rule 5 h5, ne_eqb x.rule 6 h6, ne_eqb x.rule 7 h7, ne_eqb x.rule 8 h8)

-- ---- what is handed on and what is answered

module _ {r : Run} {k : Looked} where
  pub handed_as : {x y : Step} → x ≡ y → Handed r k x → Handed r k y
  handed_as e h = subst (Handed r k) e h

  -- What the rule of a step answers is the answer to the step.
  pub answered_as : {x y : Step} {a b : RunAnswer} → x ≡ y → a ≡ b → Answered r k y b → Answered r k x a
  answered_as e q h = transport⁻¹ (λ i. Answered r k (e i) (q i)) h

  pub answers_as : {x y : Step} {a b : RunAnswer} → x ≡ y → a ≡ b → Answers r y b → Answered r k x a
  answers_as e q h = answered_as e q (λ s R looks. h s R)

-- "Unknown rule" is refused by 7.
pub unknown_answered : (r : Run) (n : ℕ) → Answers r (Unknown n) (refused_by r unknown_rule)
unknown_answered r n s R = refused R (Unknown n) unknown_rule tt tt (λ b. refl)
