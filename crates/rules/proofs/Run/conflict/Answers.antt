use Rattle.std.proofs.Common.{◌≡◌, ap, refl}
use Rattle.asking.specs.Trying.{answer_number}
use Rattle.rules.proofs.Asking.{found, some_number, with_place}
use Rattle.rules.proofs.Runs.{kept_small}
use Rattle.testing.proofs.Gathering.{gathers_first}
use Rattle.rules.proofs.Places.{first_entries}
use Rattle.std.specs.Option.{is_none, is_some, unwrap_or}
use mathlib.Core.Bool.{not}
use lib.Dec.{leb}
use native.Mathlib.Omega.{arith}
use lib.ListN.{length, length-take}
use Rattle.basis.specs.Limits.{most_variables}
use Rattle.rules.proofs.Naming.{constants_read}
use Rattle.rules.proofs.Conflicting.{conflict_number, conflict_refused, conflict_told}
use borrow.Author.Rules.{rules}
use Rattle.trail.specs.declared.LiteralsSeen.{LiteralsSeen}
use Rattle.rules.proofs.Run.conflict.Goals as goal

pub overflow_add-self : goal.overflow_add-self
overflow_add-self c = let h = kept_small (c.requires.0, c.requires.1) in omega (arith, h.few_input, h.few_learned)

pub shared_ref_as_front-trail : goal.shared_ref_as_front-trail
shared_ref_as_front-trail c = (kept_small (c.requires.0, c.requires.1)).few_entries

pub gathered-tested-requires : goal.gathered-tested-requires
gathered-tested-requires c = omega (arith, length-take c.args.self.length c.args.self.trail, (kept_small (c.requires.0, c.requires.1)).few_entries)

pub returns-in-Err : goal.returns-in-Err
returns-in-Err c =
    let long : length c.args.instance ≡ most_variables = let g = c.well_formed.1.1.1.0 in search rules in
    let asked : answer_number c.first_lacking-lacking.result ≡ conflict_number (leb c.args.count most_variables) (not c.args.self.stands) c.instance_named-named.result (is_none c.literals_seen-seen.result.first) (is_some c.possible-witness.result) = search rules in
    rw c.refused_at.ensures (λ s R looks. with_place c.in-Err.refusal (unwrap_or c.literals_seen-seen.result.first 0) (conflict_refused R c.args.looked _ _ c.args.instance long (constants_read c.args.count c.args.instance long (rw c.from.ensures at c.min.ensures)) looks _ c.instance_named-named.ensures _ (ap (λ (u : LiteralsSeen). u.first) (rw (first_entries (c.requires.0, c.requires.1)) at c.literals_seen-seen.ensures)) _ (gathers_first c.args.self.trail c.args.self.length refl (omega (arith, (kept_small (c.requires.0, c.requires.1)).few_entries)) c.gathered-tested.ensures) c.possible-witness.result c.possible-witness.ensures
    refl refl refl refl (found c.in-Err.is asked) (some_number c.in-Err.refusal)))

pub returns : goal.returns
returns c =
    let long : length c.args.instance ≡ most_variables = let g = c.well_formed.1.1.1.0 in search rules in
    let asked : answer_number c.first_lacking-lacking.result ≡ conflict_number (leb c.args.count most_variables) (not c.args.self.stands) c.instance_named-named.result (is_none c.literals_seen-seen.result.first) (is_some c.possible-witness.result) = search rules in
    rw c.taken_up.ensures (λ s R looks. conflict_told R c.args.looked _ _ c.args.instance long (constants_read c.args.count c.args.instance long (rw c.from.ensures at c.min.ensures)) looks _ c.instance_named-named.ensures _ (ap (λ (u : LiteralsSeen). u.first) (rw (first_entries (c.requires.0, c.requires.1)) at c.literals_seen-seen.ensures)) _ (gathers_first c.args.self.trail c.args.self.length refl (omega (arith, (kept_small (c.requires.0, c.requires.1)).few_entries)) c.gathered-tested.ensures) c.possible-witness.result c.possible-witness.ensures
    refl refl refl refl asked (ap answer_number c.in_default.is) _ c.first_constants.ensures)
