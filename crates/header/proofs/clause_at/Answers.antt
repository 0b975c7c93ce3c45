-- A clause whose fields are read, by what admission says of it
use Rattle.std.proofs.Common.{◌∙◌, ap}
use Rattle.std.proofs.lemmas.Result.{err_from_is_err_and}
use Rattle.admission.specs.Offered.{clause_answer}
use Rattle.basis.specs.Refusals.{number_of}
use Rattle.clauses.specs.Records.{packed}
use Rattle.runfile.specs.File.{clause_fields}
use Rattle.header.proofs.Loops.{seen_got}
use Rattle.header.proofs.Parts.{clause_held, clause_none, clause_refused}
use Rattle.header.proofs.clause_at.Goals as goal

pub returns-in_err-clause : goal.returns-in_err-clause
returns-in_err-clause c =
    let p = err_from_is_err_and c.from_residual.result c.from_residual.ensures.1 in
    let e = c.in_err-clause.field-0.0 in
    rw (p.1, p.2) (clause_none c.args.arities.now c.args.s.now c.args.at (number_of e.refusal) e.place c.in_err-clause.ensures)

pub returns-in-Ok : goal.returns-in-Ok
returns-in-Ok c =
    let w = seen_got packed (clause_fields c.args.arities.now c.args.s.now c.args.at) c.in_ok-clause.clause c.in_ok-clause.next c.in_ok-clause.ensures in
    clause_held c.args.arities.now c.args.s.now c.args.at c.in_ok-clause.next w.value w.is c.in-Ok.read (c.in-Ok.ensures ∙ ap (clause_answer c.args.arities.now) w.view_is)

pub returns-in-Err : goal.returns-in-Err
returns-in-Err c =
    let w = seen_got packed (clause_fields c.args.arities.now c.args.s.now c.args.at) c.in_ok-clause.clause c.in_ok-clause.next c.in_ok-clause.ensures in
    clause_refused c.args.arities.now c.args.s.now c.args.at c.in_ok-clause.next w.value w.is (number_of c.in-Err.refusal) (c.in-Err.ensures ∙ ap (clause_answer c.args.arities.now) w.view_is)
