-- By the tests, as the definition has them; no difference overflows.
use mathlib.Core.Path.{sym, ap₂, ◌∙◌}
use Prim.Native.Nat.{ℕ, ◌+◌, ◌≤◌}
use native.Mathlib.Omega.{arith}
use lib.IntN.{pos, ◌-ℤ◌}
use Rattle.constraint.specs.Square.{far}
use Rattle.constraint.proofs.Start.{on_diagonal, as_ordered, as_far, after_most, before_most, difference_back}
use Rattle.constraint.proofs.by_order.Goals as goal
use Rattle.constraint.proofs.by_order.Goals.{else-i-gt0-via-then-i-gt0+then-i-j-2+else-j-constants, else-i-gt0-via-then-i-gt0+else-i-j-2, else-i-gt0-via-else-i-gt0}

pub returns-then-i-j : goal.returns-then-i-j
returns-then-i-j c = sym (on_diagonal c.args.constants c.args.i c.args.j c.if-i-j.true)

pub returns-then-j-constants : goal.returns-then-j-constants
returns-then-j-constants c =
    let a = c.args in
    difference_back a.i a.j (omega arith) (omega arith) ∙ sym (as_ordered a.constants a.i a.j c.if-i-gt0.true c.if-i-j-2.true c.if-j-constants.true)

pub returns-else-i-gt0 : goal.returns-else-i-gt0
returns-else-i-gt0 c =
    let a = c.args in
    -- Both counts together are at most 32.
    let few : c.stand_after.result + c.stand_before.result ≤ 32 = omega (arith, after_most a.constants a.i, before_most a.constants a.j) in
    difference_back far (c.stand_after.result + c.stand_before.result) (omega arith) (omega arith)
    ∙ ap₂ (λ (x y : ℕ). pos far -ℤ pos (x + y)) c.stand_after.ensures c.stand_before.ensures
    ∙ sym (as_far a.constants a.i a.j c.if-i-j.false
    (λ x y z. elim c.else-i-gt0.branch [
      | else-i-gt0-via-then-i-gt0+then-i-j-2+else-j-constants w ↦ omega arith
      | else-i-gt0-via-then-i-gt0+else-i-j-2 w ↦ omega arith
      | else-i-gt0-via-else-i-gt0 w ↦ omega arith
    ]))
