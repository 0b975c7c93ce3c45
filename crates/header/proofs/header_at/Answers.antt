-- The clauses are read by the arities that are kept.
use Rattle.std.proofs.Common.{rules}
use Rattle.std.proofs.lemmas.Result.{err_from_is_err_and}
use Rattle.basis.specs.Refusals.{number_of}
use Rattle.basis.specs.Limits.{most_arguments}
use Rattle.runfile.specs.File.{count}
use Rattle.header.proofs.Parts.{clauses_bad, header_read, steps_bad}
use Rattle.header.proofs.header_at.Goals as goal

pub several-requires : goal.several-requires
several-requires c = (search rules, (search rules, (search rules, (count most_arguments, c.args.s.now, search rules))))

pub returns-in_err-at-2 : goal.returns-in_err-at-2
returns-in_err-at-2 c =
    let p = err_from_is_err_and c.from_residual-in_err-at-2.result c.from_residual-in_err-at-2.ensures.1 in
    let e = c.in_err-at-2.field-0.0 in
    rw (p.1, p.2)
    (clauses_bad c.args.s.now _ _ _ _ _ _ _ _ _ _ c.in_ok-at.ensures c.in_ok-version.ensures c.in_ok-constants.ensures.reads c.in_ok-count.ensures.reads c.in_ok-input.ensures.reads _ _ c.in_ok-count.ensures.few (c.in_ok-arities.ensures.reads (count most_arguments) c.args.s.now (search rules)) c.as_slice.ensures c.args.table.now (number_of e.refusal) e.place c.in_err-at-2.ensures)

pub returns-in_err-steps : goal.returns-in_err-steps
returns-in_err-steps c =
    let p = err_from_is_err_and c.from_residual-in_err-steps.result c.from_residual-in_err-steps.ensures.1 in
    let e = c.in_err-steps.field-0.0 in
    rw (p.1, p.2)
    (steps_bad c.args.s.now _ _ _ _ _ _ _ _ _ _ c.in_ok-at.ensures c.in_ok-version.ensures c.in_ok-constants.ensures.reads c.in_ok-count.ensures.reads c.in_ok-input.ensures.reads _ _ c.in_ok-count.ensures.few (c.in_ok-arities.ensures.reads (count most_arguments) c.args.s.now (search rules)) c.as_slice.ensures c.args.table.now _ _ c.in_ok-at-2.ensures (number_of e.refusal) e.place c.in_err-steps.ensures.reads)

pub returns : goal.returns
returns c = header_read c.args.s.now _ _ _ _ _ _ _ _ _ _ c.in_ok-at.ensures c.in_ok-version.ensures c.in_ok-constants.ensures.reads c.in_ok-count.ensures.reads c.in_ok-input.ensures.reads _ _ c.in_ok-count.ensures.few (c.in_ok-arities.ensures.reads (count most_arguments) c.args.s.now (search rules)) c.as_slice.ensures c.args.table.now _ _ c.in_ok-at-2.ensures _ _ c.in_ok-steps.ensures.reads
