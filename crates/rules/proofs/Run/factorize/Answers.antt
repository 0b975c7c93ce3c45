use Rattle.std.proofs.Common.{ap, refl}
use Rattle.asking.specs.Trying.{answer_number}
use Rattle.rules.proofs.Asking.{found, some_number}
use mathlib.Core.Path.{ap₂, ◌∙◌}
use Rattle.rules.proofs.Simple.{factorize-accepted, factorize_passed, factorize_refused}
use Rattle.merging.specs.Results.{factorized}
use Rattle.rules.proofs.Run.factorize.Goals as goal

pub returns-in-Err : goal.returns-in-Err
returns-in-Err c = rw c.refused.ensures (λ s R. factorize_refused R _ _ _ _ c.two_literals.ensures c.same_instance.ensures refl refl (found c.in-Err.is c.first_lacking-lacking.ensures) (some_number c.in-Err.refusal))

pub returns : goal.returns
returns c = rw c.taken_up.ensures (λ s R. let h = factorize_passed R _ _ _ _ c.two_literals.ensures c.same_instance.ensures refl refl c.first_lacking-lacking.ensures (ap answer_number c.in_default.is) in
    factorize-accepted R _ _ h.0 h.1 h.2 _ (c.factorize-merged.ensures ∙ ap₂ (factorized _) c.index_of.ensures c.index_of-2.ensures) _ _ c.unwrap_or-of.ensures _ refl)
