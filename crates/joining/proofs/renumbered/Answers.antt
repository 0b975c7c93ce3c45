use Rattle.std.proofs.Common.{◌∙◌, ap, ap₂, ℕ, List, cond, eqb, get_or, arith}
use lib.ListN.{set}
use Rattle.lists.proofs.Arrays.{each_turn}
use Rattle.joining.proofs.Scratch.{not_yet}
use Rattle.joining.proofs.renumbered.Goals as goal

pub loop-z-preserved : goal.loop-z-preserved
loop-z-preserved c =
    let a = c.args in
    let s = c.loop-z in
    let f = λ (z : ℕ). cond (eqb z a.hi) a.lo z in
    let here = ap (λ (l : List ℕ). get_or l s.z-index 0) s.invariant.1 ∙ not_yet f a.t s.z-index 0 (omega (arith, s.invariant.0)) in
    (s.invariant.0, ap₂ (λ (l : List ℕ) (x : ℕ). set l s.z-index x) s.invariant.1 (c.moved.ensures ∙ ap f here) ∙ each_turn f a.t s.z-index 0 (omega (arith, s.invariant.0)))
