use Rattle.std.proofs.Common.{◌≡◌, [], refl, sym, arith, length}
use lib.ListN.{length-map, length-take, take}
use Rattle.basis.specs.Refusals.{number_of}
use Rattle.admission.specs.Offered.{offered, offered_table}
use Rattle.state.proofs.Opening.{admitted, opens_accepted, opens_refused, records_long}
use Rattle.state.proofs.admit.Goals as goal
use Rattle.state.proofs.admit.Goals.{In-Ok}

-- As many records are taken as there are clauses.
taken : (c : In-Ok) → length (take (length c.args.clauses.now) c.in-Ok.table) ≡ length c.args.clauses.now
taken c =
    let a = c.args in
    records_long a.version a.constants a.arities.now (offered_table a.arities.now a.clauses.now) c.in-Ok.table c.in-Ok.ensures (length a.clauses.now) (sym (length-map a.clauses.now (offered a.arities.now)))

pub slice_bounds-table-end : goal.slice_bounds-table-end
slice_bounds-table-end c = omega (arith, taken c, length-take (length c.args.clauses.now) c.in-Ok.table)

pub slice_bounds-new_state-end : goal.slice_bounds-new_state-end
slice_bounds-new_state-end c = sym (taken (goal.at.slice_bounds-new_state-end c).In-Ok)

pub new_state-state-requires : goal.new_state-state-requires
new_state-state-requires c =
    let a = c.args in
    let k = admitted a.version a.constants a.arities.now (offered_table a.arities.now a.clauses.now) c.in-Ok.table c.in-Ok.ensures in
    (k.few_predicates, omega (arith, k.few_clauses, length-map a.clauses.now (offered a.arities.now), length-take (length a.clauses.now) c.in-Ok.table))

pub returns-in-Ok : goal.returns-in-Ok
returns-in-Ok c =
    let a = c.args in
    let cs = offered_table a.arities.now a.clauses.now in
    opens_accepted a.version a.constants a.arities.now cs c.in-Ok.table c.in-Ok.ensures (length a.clauses.now) (sym (length-map a.clauses.now (offered a.arities.now))) _ c.new_state-state.ensures

pub returns-in-Err : goal.returns-in-Err
returns-in-Err c =
    let a = c.args in
    let e = c.in-Err.refused in
    rw c.from.ensures (opens_refused a.version a.constants a.arities.now (offered_table a.arities.now a.clauses.now) (number_of e.refusal) e.place c.in-Err.ensures _ (c.new_state-blank.ensures [] refl))
