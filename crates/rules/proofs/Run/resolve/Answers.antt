use Rattle.std.proofs.Common.{ap, refl}
use Rattle.asking.specs.Trying.{answer_number}
use Rattle.rules.proofs.Asking.{found, some_number}
use native.Mathlib.Omega.{arith}
use Rattle.rules.proofs.Runs.{kept_small}
use Rattle.rules.proofs.Resolving.{resolve_refused, resolve_told}
use Rattle.rules.proofs.Run.resolve.Goals as goal

pub bounds-self-last_slot : goal.bounds-self-last_slot
bounds-self-last_slot c = omega (arith, c.last_slot.ensures, (kept_small (c.requires.0, c.requires.1)).few_entries)

pub returns-in-Err : goal.returns-in-Err
returns-in-Err c = rw c.refused.ensures (λ s R looks. resolve_refused R c.args.looked _ looks _ c.last_slot.ensures _ _ _ c.literal_exists.ensures c.is_propagated.ensures c.is_complement.ensures _ c.resolvent-merged.ensures _ _ c.unwrap_or-of.ensures
    refl refl refl refl refl (found c.in-Err.is (rw c.is_some.ensures at c.first_lacking-lacking.ensures)) (some_number c.in-Err.refusal))

pub returns : goal.returns
returns c = rw c.taken_up.ensures (λ s R looks. resolve_told R c.args.looked _ looks _ c.last_slot.ensures _ _ _ c.literal_exists.ensures c.is_propagated.ensures c.is_complement.ensures _ c.resolvent-merged.ensures _ _ c.unwrap_or-of.ensures
    refl refl refl refl refl (rw c.is_some.ensures at c.first_lacking-lacking.ensures) _ refl (ap answer_number c.in_default.is))
