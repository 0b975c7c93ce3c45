-- Each atom that is passed over counts.
use Rattle.std.proofs.Common.{arith, sym}
use Rattle.std.proofs.lemmas.Result.{err_from_is_err_and}
use Prim.Native.Nat.{◌+◌}
use mathlib.Core.List.{[], ◌∷◌}
use lib.ListN.{length, length-append}
use Rattle.runfile.specs.File.{source}
use Rattle.steps.specs.Records.{packed_source}
use Rattle.fields.proofs.Turns.{made_ended, made_more, made_none, unmade, unmade_bad}
use Rattle.steps.proofs.sources_end.Goals as goal

pub loop-init : goal.loop-init
loop-init c = made_none source c.args.s.now c.args.at length

pub returns-in_err-next : goal.returns-in_err-next
returns-in_err-next c =
    let p = err_from_is_err_and c.from_residual.result c.from_residual.ensures.1 in
    rw (p.1, p.2, made_ended source c.args.s.now c.args.at length c.loop.counter c.args.brought c.loop.counter c.loop.past _ _ c.loop.invariant (unmade_bad packed_source (source c.args.s.now c.loop.past) c.in_err-next.ensures) (omega (arith, c.loop-test.true)))

pub loop-preserved : goal.loop-preserved
loop-preserved c =
    let u = unmade packed_source (source c.args.s.now c.loop.past) c.in_ok-next.ensures in
    made_more source c.args.s.now c.args.at length c.loop.counter c.loop.counter c.loop.past u.value c.in_ok-next.next (λ x. x + 1) c.loop.invariant u.read (λ xs e. sym (length-append xs (u.value ∷ [])))
