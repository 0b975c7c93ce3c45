use Rattle.std.proofs.Common.{◌≡◌, ◌∙◌, ap, sym, arith, ◌+◌, ℕ}
use Rattle.lists.specs.Arrays.{held, pushed}
use Rattle.lists.specs.Lists.{up_from}
use Rattle.joining.proofs.Scratch.{held_count, start_turn}
use Rattle.joining.proofs.start.Goals as goal

pub loop-x-preserved : goal.loop-x-preserved
loop-x-preserved c =
    let s = c.loop-x in
    let (at, left) = c.in-Some.ensures.steps in
    let x : c.in-Some.x ≡ s.out.n + 1 = at.0 ∙ s.invariant.0 in
    let n : c.push.new.self.n ≡ s.out.n + 1 = held_count c.push.ensures in (
      omega (arith, x, n, at.1),
      omega (arith, n, left),
      c.push.ensures ∙ ap (pushed s.out) x ∙ start_turn 24 s.out.n (omega (arith, left)) s.invariant.2 ∙ ap (λ (k : ℕ). held 24 0 (up_from 1 k)) (sym n),
    )
