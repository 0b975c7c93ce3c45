use Rattle.std.proofs.Common.{ap, refl}
use Rattle.asking.specs.Trying.{answer_number}
use Rattle.rules.proofs.Asking.{found, some_number}
use native.Mathlib.Omega.{arith}
use Rattle.rules.proofs.Growing.{few_new}
use Rattle.rules.proofs.Runs.{kept_small}
use Rattle.rules.proofs.Backtracking.{backtrack_refused, backtrack_fits, backtrack_told, kept_below}
use Rattle.testing.proofs.Gathering.{gathers_first, in_room}
use Rattle.rules.proofs.Places.{first_entries}
use lib.ListN.{length-take}
use Rattle.rules.proofs.Run.backtrack.Goals as goal

pub shared_ref_as_front-trail : goal.shared_ref_as_front-trail
shared_ref_as_front-trail c = (kept_small c.requires).few_entries

pub levels-at-requires : goal.levels-at-requires
levels-at-requires c = let h = kept_small c.requires in omega (arith, length-take c.args.self.length c.args.self.trail, h.few_entries)

pub shared_ref_as_front-entries : goal.shared_ref_as_front-entries
shared_ref_as_front-entries c = let h = kept_small c.requires in omega (arith, h.few_entries, h.slots, kept_below c.args.self c.args.l (rw (first_entries c.requires) at c.levels-at.ensures))

pub gathered-tested-requires : goal.gathered-tested-requires
gathered-tested-requires c =
    omega (arith, length-take c.levels-at.result.kept c.args.self.trail, (kept_small c.requires).few_entries, kept_below c.args.self c.args.l (rw (first_entries c.requires) at c.levels-at.ensures))

pub new_atoms-fresh-requires : goal.new_atoms-fresh-requires
new_atoms-fresh-requires c = in_room c.gathered-tested.ensures

pub overflow_add-kept : goal.overflow_add-kept
overflow_add-kept c = omega (arith, few_new c.gathered-tested.ensures c.new_atoms-fresh.ensures, (kept_small c.requires).few_entries, kept_below c.args.self c.args.l (rw (first_entries c.requires) at c.levels-at.ensures))

pub returns-in-Err : goal.returns-in-Err
returns-in-Err c =
    rw c.refused.ensures (λ s R. backtrack_refused R _ _ _ c.literal_exists.ensures c.again.ensures _ (rw (first_entries c.requires) at c.levels-at.ensures) _ (gathers_first c.args.self.trail c.levels-at.result.kept refl (omega (arith, (kept_small c.requires).few_entries, kept_below c.args.self c.args.l (rw (first_entries c.requires) at c.levels-at.ensures))) (rw c.constants-constants.ensures at c.gathered-tested.ensures)) c.possible-together.result c.possible-together.ensures _ c.new_atoms-fresh.ensures
    refl refl refl refl refl refl (found c.in-Err.is (rw c.is_some.ensures at c.first_lacking-lacking.ensures)) (some_number c.in-Err.refusal))

pub overflow_add-own : goal.overflow_add-own
overflow_add-own c = let h = kept_small c.requires in omega (arith, h.few_input, h.few_learned)

pub overflow_add-own-2 : goal.overflow_add-own-2
overflow_add-own-2 c = let h = kept_small c.requires in omega (arith, h.few_input, h.few_learned)

pub overflow_add-self : goal.overflow_add-self
overflow_add-self c = omega (arith, (kept_small c.requires).few_learned)

pub appended-requires : goal.appended-requires
appended-requires c =
    let h = backtrack_fits c.requires.1 _ _ _ c.literal_exists.ensures c.again.ensures _ (rw (first_entries c.requires) at c.levels-at.ensures) _ (gathers_first c.args.self.trail c.levels-at.result.kept refl (omega (arith, (kept_small c.requires).few_entries, kept_below c.args.self c.args.l (rw (first_entries c.requires) at c.levels-at.ensures))) (rw c.constants-constants.ensures at c.gathered-tested.ensures)) c.possible-together.result c.possible-together.ensures _ c.new_atoms-fresh.ensures
    refl refl refl refl refl refl (rw c.is_some.ensures at c.first_lacking-lacking.ensures) (ap answer_number c.in_default.is) in (h.0, h.1, (kept_small c.requires).few_entries)

pub returns : goal.returns
returns c =
    rw c.appended.ensures (λ s R. backtrack_told R _ _ _ c.literal_exists.ensures c.again.ensures _ (rw (first_entries c.requires) at c.levels-at.ensures) _ (gathers_first c.args.self.trail c.levels-at.result.kept refl (omega (arith, (kept_small c.requires).few_entries, kept_below c.args.self c.args.l (rw (first_entries c.requires) at c.levels-at.ensures))) (rw c.constants-constants.ensures at c.gathered-tested.ensures)) c.possible-together.result c.possible-together.ensures _ c.new_atoms-fresh.ensures
    refl refl refl refl refl refl (rw c.is_some.ensures at c.first_lacking-lacking.ensures) (ap answer_number c.in_default.is) _ c.conflict_instance-g.ensures _ (rw c.constants-constants.ensures at c.propagated_entry-e.ensures) _ c.no_instanced-self.ensures)
