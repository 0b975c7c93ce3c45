-- The loop lays each of the clauses into the table.
use Rattle.std.proofs.Common.{◌≡◌, refl, sym, ◌∙◌, ◌+◌, arith, set}
use Rattle.std.proofs.lemmas.List.{set_past}
use Rattle.std.proofs.lemmas.Result.{err_from_is_err_and}
use Rattle.basis.specs.Refusals.{number_of}
use Rattle.clauses.specs.Records.{packed}
use Rattle.runfile.specs.File.{clause}
use Rattle.runfile.specs.Readers.{times}
use Rattle.header.specs.Records.{laid}
use Rattle.header.proofs.Loops.{fail, turn, stored_clause}
use Rattle.header.proofs.clauses_at.Goals as goal
use Rattle.header.proofs.clauses_at.Goals.{then-j-table, else-j-table}

pub loop-j-init : goal.loop-j-init
unfolding times
loop-j-init c = refl

pub returns-in_err-c : goal.returns-in_err-c
returns-in_err-c c =
    let p = err_from_is_err_and c.from_residual.result c.from_residual.ensures.1 in
    let e = c.in_err-c.field-0.0 in
    rw (p.1, p.2)
    (fail (clause c.args.arities.now) packed (laid c.args.table.now) (c.loop-j.j + 1) (λ cs c' h. stored_clause c.args.table.now cs c') c.args.s.now c.args.at c.loop-j.j c.loop-j.table c.loop-j.end c.loop-j.invariant (number_of e.refusal) e.place c.args.n (omega (arith, c.from-j-end.ensures, c.loop-j-test.true)) c.in_err-c.ensures)

pub loop-j-preserved : goal.loop-j-preserved
loop-j-preserved c =
    let stored : set c.loop-j.table c.loop-j.j c.in_ok-c.c ≡ c.if-j-table.table = elim c.if-j-table.branch [ then-j-table w ↦ sym w.table-is | else-j-table w ↦ set_past c.loop-j.table c.loop-j.j c.in_ok-c.c w.if-j-table.false ∙ sym w.table-is ] in
    let all =
    turn (clause c.args.arities.now) packed (laid c.args.table.now) (c.loop-j.j + 1) (λ cs c' h. stored_clause c.args.table.now cs c') c.args.s.now c.args.at c.loop-j.j c.loop-j.table c.loop-j.end c.loop-j.invariant c.in_ok-c.c c.in_ok-c.next
    (omega arith) c.in_ok-c.ensures
    in
    rw (sym stored) all

pub returns : goal.returns
returns c =
    let e : c.loop-j.j ≡ c.args.n = omega (arith, c.from-j-end.ensures, c.loop-j-test.false, c.loop-j.auto.j-end) in
    rw e at c.loop-j.invariant
