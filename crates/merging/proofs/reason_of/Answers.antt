use Rattle.std.proofs.Common.{◌≡◌, ◌∙◌, sym, true, false}
use Rattle.clauses.specs.Records.{counted}
use Rattle.merging.specs.Results.{reason_of}
use Rattle.merging.proofs.reason_of.Goals as goal

pub returns-then-not-counted : goal.returns-then-not-counted
unfolding reason_of
returns-then-not-counted c = let e : counted c.args.n.now.clause ≡ false = sym c.counted.ensures ∙ c.if-not-counted.true in c.no_reason.ensures ∙ sym (rw e)

pub returns : goal.returns
unfolding reason_of
returns c = let e : counted c.args.n.now.clause ≡ true = sym c.counted.ensures ∙ c.if-not-counted.false in c.reason_counted.ensures ∙ sym (rw e)
