use Rattle.std.proofs.Common.{◌≡◌, ◌∙◌, sym, true, false}
use Rattle.clauses.specs.Records.{counted}
use Rattle.merging.specs.Results.{resolved}
use Rattle.merging.proofs.resolve.Goals as goal
use Rattle.merging.proofs.resolve.Goals.{then-not-counted-via-then-not-counted, then-not-counted-via-else-not-counted+then-not-counted-2}

pub returns-then-not-counted : goal.returns-then-not-counted
unfolding resolved
returns-then-not-counted c =
    elim c.then-not-counted.branch [
      | then-not-counted-via-then-not-counted w ↦ let e : counted c.args.n.now.clause ≡ false = sym c.counted.ensures ∙ w.if-not-counted.true in sym (rw e)
      | then-not-counted-via-else-not-counted+then-not-counted-2 w ↦
          let e : counted c.args.n.now.clause ≡ true = sym c.counted.ensures ∙ w.if-not-counted.false in
          let f : counted c.args.r.now.clause ≡ false = sym w.counted-else-not-counted.ensures ∙ w.if-not-counted-2.true in sym (rw (e, f))
    ]

pub returns : goal.returns
unfolding resolved
returns c =
    let e : counted c.args.n.now.clause ≡ true = sym c.counted.ensures ∙ c.if-not-counted.false in
    let f : counted c.args.r.now.clause ≡ true = sym c.counted-else-not-counted.ensures ∙ c.if-not-counted-2.false in
    c.resolve_counted.ensures ∙ sym (rw (e, f))
