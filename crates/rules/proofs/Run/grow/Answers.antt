use Rattle.std.proofs.Common.{ap, refl}
use Rattle.asking.specs.Trying.{answer_number}
use Rattle.rules.proofs.Asking.{found, some_number}
use Rattle.rules.proofs.Simple.{grow_refused, grow_passed, grow_accepted}
use Rattle.rules.proofs.Run.grow.Goals as goal

pub returns-in-Err : goal.returns-in-Err
returns-in-Err c = rw c.refused.ensures (λ s R. grow_refused R _ refl refl (found c.in-Err.is c.first_lacking-lacking.ensures) (some_number c.in-Err.refusal))

pub returns : goal.returns
returns c = λ s R. let h = grow_passed R _ refl refl c.first_lacking-lacking.ensures (ap answer_number c.in_default.is) in grow_accepted R _ h.0 h.1 h.2 _ c.empty_trail-self.ensures _ refl
