use Rattle.std.proofs.Common.{◌≡◌, ◌∙◌, ap, sym, arith, ◌+◌, ◌++◌, ◌∷◌, [], length}
use lib.ListN.{length-append}
use Rattle.lists.specs.Arrays.{pushed}
use Rattle.calculus.specs.Merging.{occurs_in}
use Rattle.joining.proofs.Scratch.{held_count, kept_turn, left_turn}
use Rattle.joining.proofs.kept.Goals as goal

pub loop-x-preserved-then-occurs_in : goal.loop-x-preserved-then-occurs_in
loop-x-preserved-then-occurs_in c =
    let s = c.loop-x in
    let k = length s.yielded in
    let p = occurs_in c.args.atoms.now c.args.literals.now in
    let (at, left) = c.in-Some.ensures.steps in
    let x : c.in-Some.x ≡ k + 1 = at.0 ∙ s.invariant.0 in
    let more : length (s.yielded ++ c.in-Some.x ∷ []) ≡ k + 1 = length-append s.yielded (c.in-Some.x ∷ []) in
    let kept = ap p (sym x) ∙ sym c.occurs_in.ensures ∙ c.if-occurs_in.true in
    rw more
    (omega (arith, x, at.1), omega (arith, left), omega (arith, held_count c.push.ensures), c.push.ensures ∙ ap (pushed s.out) x ∙ kept_turn p k 24 (omega (arith, left)) kept s.invariant.3)

pub loop-x-preserved : goal.loop-x-preserved
loop-x-preserved c =
    let s = c.loop-x in
    let k = length s.yielded in
    let p = occurs_in c.args.atoms.now c.args.literals.now in
    let (at, left) = c.in-Some.ensures.steps in
    let x : c.in-Some.x ≡ k + 1 = at.0 ∙ s.invariant.0 in
    let more : length (s.yielded ++ c.in-Some.x ∷ []) ≡ k + 1 = length-append s.yielded (c.in-Some.x ∷ []) in
    rw more (omega (arith, x, at.1), omega (arith, left), omega arith, left_turn p k 24 (ap p (sym x) ∙ sym c.occurs_in.ensures ∙ c.if-occurs_in.false) s.invariant.3)
