use Rattle.std.proofs.Common.{ap, refl}
use Rattle.asking.specs.Trying.{answer_number}
use Rattle.rules.proofs.Asking.{found, some_number}
use native.Mathlib.Omega.{arith}
use Rattle.rules.proofs.Runs.{kept_small}
use Rattle.rules.proofs.Simple.{skip_refused, skip_passed, skip-accepted}
use Rattle.rules.proofs.Run.skip.Goals as goal

pub bounds-self-k : goal.bounds-self-k
bounds-self-k c = omega (arith, c.last_slot-k.ensures, (kept_small c.requires).few_entries)

pub returns-in-Err : goal.returns-in-Err
returns-in-Err c = rw c.refused.ensures (λ s R. skip_refused R _ c.last_slot-k.ensures _ c.in_conflict.ensures refl refl (found c.in-Err.is c.first_lacking-lacking.ensures) (some_number c.in-Err.refusal))

pub bounds-self-k-2 : goal.bounds-self-k-2
bounds-self-k-2 c = omega (arith, c.last_slot-k.ensures, (kept_small c.requires).few_entries)

pub returns : goal.returns
returns c = λ s R. let h = skip_passed R _ c.last_slot-k.ensures _ c.in_conflict.ensures refl refl c.first_lacking-lacking.ensures (ap answer_number c.in_default.is) in
    skip-accepted R h.0 h.1 _ c.last_slot-k.ensures h.2 _ c.level_after.ensures _ c.blank_entry.ensures _ refl
