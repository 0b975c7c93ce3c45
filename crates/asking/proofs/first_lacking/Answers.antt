-- `asking::first_lacking` meets its contract.
use Rattle.std.proofs.Common.{◌∙◌, refl, arith}
use Rattle.asking.proofs.Trying.{all_tried, goes_on, stops}
use Rattle.asking.proofs.first_lacking.Goals as goal

pub loop-holds-init : goal.loop-holds-init
loop-holds-init c = refl

pub returns-then-not-holds : goal.returns-then-not-holds
returns-then-not-holds c = stops c.args.conditions.now c.loop-holds.holds-index (omega arith) c.if-not-holds.true ∙ c.loop-holds.invariant

pub loop-holds-preserved : goal.loop-holds-preserved
loop-holds-preserved c = goes_on c.args.conditions.now c.loop-holds.holds-index (omega arith) c.if-not-holds.false ∙ c.loop-holds.invariant

pub returns : goal.returns
returns c = all_tried c.args.conditions.now c.loop-holds.holds-index (omega arith) ∙ c.loop-holds.invariant
