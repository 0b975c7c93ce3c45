use Rattle.rules.proofs.Growing.{few_new}
use Rattle.rules.proofs.Runs.{kept_small}
use Rattle.rules.proofs.Propagating.{propagate_number, propagate_refused, propagate_fits, propagate_told}
use Rattle.testing.proofs.Gathering.{gathers_first, in_room}
use Rattle.rules.proofs.Places.{first_entries}
use Rattle.std.specs.Option.{is_none, is_some, unwrap_or}
use mathlib.Core.Bool.{not}
use Prim.Native.Nat.{◌+◌}
use lib.Dec.{leb, ltb}
use native.Mathlib.Omega.{arith}
use lib.ListN.{length, length-take}
use Rattle.basis.specs.Limits.{most_entries, most_variables}
use Rattle.rules.proofs.Naming.{constants_read}
use borrow.Author.Rules.{rules}
use Rattle.std.proofs.Common.{◌≡◌, ap, refl}
use Rattle.asking.specs.Trying.{answer_number}
use Rattle.rules.proofs.Asking.{found, some_number, with_place}
use Rattle.rules.proofs.Run.propagate.Goals as goal

pub overflow_add-self : goal.overflow_add-self
overflow_add-self c = let h = kept_small (c.requires.0, c.requires.1) in omega (arith, h.few_input, h.few_learned)

pub shared_ref_as_front-trail : goal.shared_ref_as_front-trail
shared_ref_as_front-trail c = (kept_small (c.requires.0, c.requires.1)).few_entries

pub gathered-tested-requires : goal.gathered-tested-requires
gathered-tested-requires c = omega (arith, length-take c.args.self.length c.args.self.trail, (kept_small (c.requires.0, c.requires.1)).few_entries)

pub new_atoms-fresh-requires : goal.new_atoms-fresh-requires
new_atoms-fresh-requires c = in_room c.gathered-tested.ensures

pub overflow_add-m : goal.overflow_add-m
overflow_add-m c = omega (arith, few_new c.gathered-tested.ensures c.new_atoms-fresh.ensures, (kept_small (c.requires.0, c.requires.1)).few_entries)

pub returns-in-Err : goal.returns-in-Err
returns-in-Err c =
    let long : length c.args.instance ≡ most_variables = let g = c.well_formed.1.1.1.1.0 in search rules in
    let asked : answer_number c.first_lacking-lacking.result ≡ propagate_number (leb c.args.count most_variables) (not c.args.self.stands) c.literal_named-named.result c.literals_seen-seen.result.free (is_none c.literals_seen-seen.result.first) (is_some c.possible-together.result) (ltb (c.args.self.length + c.new_atoms-fresh.result.n) most_entries) = search rules in
    rw c.refused_at.ensures (λ s R looks. with_place c.in-Err.refusal (unwrap_or c.literals_seen-seen.result.first 0) (propagate_refused R c.args.looked _ _ _ c.args.instance long (constants_read c.args.count c.args.instance long (rw c.from.ensures at c.min.ensures)) looks _ c.literal_named-named.ensures _ c.literal_instance-g.ensures _ (rw (first_entries (c.requires.0, c.requires.1)) at c.literals_seen-seen.ensures) _ (gathers_first c.args.self.trail c.args.self.length refl (omega (arith, (kept_small (c.requires.0, c.requires.1)).few_entries)) c.gathered-tested.ensures) c.possible-together.result c.possible-together.ensures _ c.new_atoms-fresh.ensures
    refl refl refl refl refl refl (found c.in-Err.is asked) (some_number c.in-Err.refusal)))

pub appended-requires : goal.appended-requires
appended-requires c =
    let long : length c.args.instance ≡ most_variables = let g = c.well_formed.1.1.1.1.0 in search rules in
    let asked : answer_number c.first_lacking-lacking.result ≡ propagate_number (leb c.args.count most_variables) (not c.args.self.stands) c.literal_named-named.result c.literals_seen-seen.result.free (is_none c.literals_seen-seen.result.first) (is_some c.possible-together.result) (ltb (c.args.self.length + c.new_atoms-fresh.result.n) most_entries) = search rules in
    propagate_fits c.requires.1 c.args.looked _ _ _ c.args.instance long (constants_read c.args.count c.args.instance long (rw c.from.ensures at c.min.ensures)) c.requires.2 _ c.literal_named-named.ensures _ c.literal_instance-g.ensures _ (rw (first_entries (c.requires.0, c.requires.1)) at c.literals_seen-seen.ensures) _ (gathers_first c.args.self.trail c.args.self.length refl (omega (arith, (kept_small (c.requires.0, c.requires.1)).few_entries)) c.gathered-tested.ensures) c.possible-together.result c.possible-together.ensures _ c.new_atoms-fresh.ensures
    refl refl refl refl refl refl asked (ap answer_number c.in_default.is)

pub returns : goal.returns
returns c =
    let long : length c.args.instance ≡ most_variables = let g = c.well_formed.1.1.1.1.0 in search rules in
    let asked : answer_number c.first_lacking-lacking.result ≡ propagate_number (leb c.args.count most_variables) (not c.args.self.stands) c.literal_named-named.result c.literals_seen-seen.result.free (is_none c.literals_seen-seen.result.first) (is_some c.possible-together.result) (ltb (c.args.self.length + c.new_atoms-fresh.result.n) most_entries) = search rules in
    rw c.appended.ensures (λ s R looks. propagate_told R c.args.looked _ _ _ c.args.instance long (constants_read c.args.count c.args.instance long (rw c.from.ensures at c.min.ensures)) looks _ c.literal_named-named.ensures _ c.literal_instance-g.ensures _ (rw (first_entries (c.requires.0, c.requires.1)) at c.literals_seen-seen.ensures) _ (gathers_first c.args.self.trail c.args.self.length refl (omega (arith, (kept_small (c.requires.0, c.requires.1)).few_entries)) c.gathered-tested.ensures) c.possible-together.result c.possible-together.ensures _ c.new_atoms-fresh.ensures
    refl refl refl refl refl refl asked (ap answer_number c.in_default.is) _ c.propagated_entry-e.ensures)
