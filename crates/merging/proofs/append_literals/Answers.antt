use Rattle.std.proofs.Common.{◌≡◌, ◌∙◌, ap, sym, Bool, cond, eqb, arith}
use borrow.Author.Tests.{eq-eqb, ne_eqb}
use Rattle.joining.proofs.Scratch.{held_count}
use Rattle.lists.specs.Arrays.{held_in, pushed}
use Rattle.calculus.specs.Clauses.{rename_literal}
use Rattle.joining.specs.Scratch.{through}
use Rattle.merging.proofs.Appending.{literals_turn, at_most_one}
use Rattle.merging.proofs.append_literals.Goals as goal
use Rattle.merging.proofs.append_literals.Goals.{then-j-i, else-j-i}

pub loop-j-preserved : goal.loop-j-preserved
loop-j-preserved c =
    let a = c.args in
    let s = c.loop-j in
    let o = s.out in
    let b = c.literal_by-b.result in
    let now : c.if-j-i.out ≡ cond (eqb s.j a.i) o (pushed o b) =
    elim c.if-j-i.branch [
      | then-j-i w ↦ w.out-is ∙ w.push.ensures ∙ sym (ap (λ (t : Bool). cond t o (pushed o b)) (ne_eqb _ _ w.if-j-i.true))
      | else-j-i w ↦ w.out-is ∙ sym (ap (λ (t : Bool). cond t o (pushed o b)) (eq-eqb _ _ w.if-j-i.false))
    ] in
    let e = literals_turn (held_in a.out.now) (rename_literal (through a.t.now a.v)) a.i a.literals.now s.j o c.if-j-i.out b (omega arith) (omega (arith, held_count c.requires.0)) s.invariant.1 c.literal_by-b.ensures now in
    (omega (arith, held_count now, at_most_one o b (eqb s.j a.i)), e)
