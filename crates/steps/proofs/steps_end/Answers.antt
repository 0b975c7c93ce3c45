-- `steps::steps_end` meets its contract.
use Rattle.std.proofs.Common.{refl, arith}
use Rattle.std.proofs.lemmas.Result.{err_from_is_err_and}
use Rattle.runfile.specs.File.{step}
use Rattle.steps.specs.Records.{packed_step, without_atoms}
use Rattle.fields.proofs.Turns.{made_ended, made_more, made_none, unmade, unmade_bad}
use Rattle.steps.proofs.steps_end.Goals as goal

pub loop-init : goal.loop-init
loop-init c = made_none (step c.args.form) c.args.s.now c.args.at (λ _. tt)

pub returns-in_err-next : goal.returns-in_err-next
returns-in_err-next c =
    let p = err_from_is_err_and c.from_residual.result c.from_residual.ensures.1 in
    let f = step c.args.form in
    rw (p.1, p.2, made_ended f c.args.s.now c.args.at (λ _. tt) c.loop.counter c.args.n tt c.loop.past _ _ c.loop.invariant (unmade_bad (λ x. without_atoms (packed_step x)) (f c.args.s.now c.loop.past) c.in_err-next.ensures) (omega (arith, c.loop-test.true)))

pub loop-preserved : goal.loop-preserved
loop-preserved c =
    let f = step c.args.form in
    let u = unmade (λ x. without_atoms (packed_step x)) (f c.args.s.now c.loop.past) c.in_ok-next.ensures in
    made_more f c.args.s.now c.args.at (λ _. tt) c.loop.counter tt c.loop.past u.value c.in_ok-next.next (λ x. x) c.loop.invariant u.read (λ xs e. refl)
