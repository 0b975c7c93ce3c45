use Rattle.std.proofs.Common.{◌≡◌, ◌∙◌, refl, sym, ap, ap₂, true, false, min, max, ℕ, arith}
use Rattle.calculus.specs.Merging.{factored}
use Rattle.clauses.specs.Records.{instanced_of, counted}
use Rattle.joining.specs.Fitted.{fitted}
use Rattle.merging.specs.Results.{factorized}
use Rattle.merging.proofs.Whole.{factored_low_high}
use Rattle.merging.proofs.factorize.Goals as goal

pub returns-then-not-counted : goal.returns-then-not-counted
unfolding factorized
returns-then-not-counted c = let e : counted c.args.n.now.clause ≡ false = sym c.counted.ensures ∙ c.if-not-counted.true in sym (rw e)

pub returns : goal.returns
unfolding factorized
returns c =
    let i = c.args.i in
    let j = c.args.j in
    let N = instanced_of c.args.n.now in
    let e : counted c.args.n.now.clause ≡ true = sym c.counted.ensures ∙ c.if-not-counted.false in
    let ordered = factored_low_high N (min i j) (max i j) (min i j) (max i j) (omega arith) (omega arith) ∙ sym (factored_low_high N i j (min i j) (max i j) refl refl) in
    c.factor_counted.ensures ∙ ap₂ (λ (a b : ℕ). fitted (factored N a b)) c.min.ensures c.max.ensures ∙ ap fitted ordered ∙ sym (rw e)
