-- The step of which an outline was read, by its rule.
use mathlib.Core.Path.{◌∙◌, ◌≡◌, ap, sym}
use Rattle.basis.specs.RuleNumbers.{rule_number}
use Rattle.basis.specs.declared.Rule.{Rule}
use Rattle.basis.specs.declared.Rule.TheVariants as rules
use Rattle.lists.specs.Arrays.{exactly}
use Rattle.calculus.specs.States.{Backtrack, Conflict, Factorize, Grow, Propagate, Resolve, Skip}
use Rattle.asking.specs.Steps.{step_of}
use Rattle.asking.specs.declared.Step.{Step}
use Rattle.rules.proofs.Steps.{backtrack_step, conflict_step, factorize_step, grow_step, propagate_step, resolve_step, skip_step}
use Rattle.steps.specs.Records.{record_of, without_atoms}
use Rattle.steps.specs.declared.Outline.{Outline}

module _ (x : Step) (o : Outline) (read : record_of o ≡ without_atoms x) where
  -- They have one rule,
  pub rule_told : {r : Rule} → o.rule ≡ r → x.rule ≡ rule_number r
  rule_told e = sym (ap (λ (q : Step). q.rule) read) ∙ ap rule_number e

  -- and the arguments that it looks at.
  pub propagates : o.rule ≡ rules.Propagate → step_of x ≡ Propagate o.clause o.literal (exactly o.count 0 o.instance)
  propagates e = propagate_step x (rule_told e) ∙ sym (ap (λ (q : Step). Propagate q.clause q.literal (exactly q.count 0 q.instance)) read)

  pub conflicts : o.rule ≡ rules.Conflict → step_of x ≡ Conflict o.clause (exactly o.count 0 o.instance)
  conflicts e = conflict_step x (rule_told e) ∙ sym (ap (λ (q : Step). Conflict q.clause (exactly q.count 0 q.instance)) read)

  pub resolves : o.rule ≡ rules.Resolve → step_of x ≡ Resolve o.literal
  resolves e = resolve_step x (rule_told e) ∙ sym (ap (λ (q : Step). Resolve q.literal) read)

  pub factorizes : o.rule ≡ rules.Factorize → step_of x ≡ Factorize o.literal o.other
  factorizes e = factorize_step x (rule_told e) ∙ sym (ap (λ (q : Step). Factorize q.literal q.other) read)

  pub skips : o.rule ≡ rules.Skip → step_of x ≡ Skip
  skips e = skip_step x (rule_told e)

  pub backtracks : o.rule ≡ rules.Backtrack → step_of x ≡ Backtrack o.literal
  backtracks e = backtrack_step x (rule_told e) ∙ sym (ap (λ (q : Step). Backtrack q.literal) read)

  pub grows : o.rule ≡ rules.Grow → step_of x ≡ Grow o.amount
  grows e = grow_step x (rule_told e) ∙ sym (ap (λ (q : Step). Grow q.amount) read)
