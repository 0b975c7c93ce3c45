use Rattle.std.proofs.Common.{◌≡◌, ◌≤◌, ◌∙◌, ◌||◌, sym, Bool, true, false, not, eqb, ap, length, length-take, ℕ, get_or, arith}
use Rattle.basis.specs.declared.Literal.{Literal}
use Rattle.lists.specs.declared.Held.{Held}
use Rattle.calculus.specs.Clauses.{no_literal, same_literal, ground, rename_literal, under}
use Rattle.clauses.specs.Records.{instanced_of}
use Rattle.joining.proofs.Scratch.{apart_none, held_count}
use Rattle.merging.proofs.Own.{stay_turn, stays_at, stays_other, goes}
use Rattle.merging.proofs.reason_literals.Goals as goal
use Rattle.merging.proofs.reason_literals.Goals.{then-j-i, then-j-i-via-then-j-i, then-j-i-via-else-j-i+then-not-own, else-j-i+else-not-own}

pub push-requires : goal.push-requires
push-requires c = let n = c.args.n.now.clause in omega (arith, ap length c.loop-j.invariant.0, length-take n.literalcount n.literals, c.requires.few_literals)

pub loop-j-preserved : goal.loop-j-preserved
loop-j-preserved c =
    let a = c.args in
    let s = c.loop-j in
    let ls = c.literals-literals.result.now in
    let τ = (instanced_of a.n.now).instance in
    let f = rename_literal (under a.t.now) in
    let n = a.n.now.clause in
    let own = c.is_own-own.ensures in
    let few : length ls ≤ 8 = omega (arith, ap length s.invariant.0, length-take n.literalcount n.literals, c.requires.few_literals) in
    let eb = c.literal_by-b.ensures ∙ ap (λ (h : ℕ → ℕ). rename_literal (λ x. under a.t.now (h x)) (get_or ls s.j no_literal)) apart_none in
    let turn = λ (o : Held Literal 16) (b : Bool). stay_turn τ a.g f a.i ls s.j s.out o c.literal_by-b.result b (omega arith) (omega arith) s.invariant.2 eb in
    elim c.if-j-i.branch [
      | then-j-i w ↦
          let push = w.out-is ∙ w.push.ensures in
          let kept : true ≡ (eqb s.j a.i || not (same_literal (ground τ (get_or ls s.j no_literal)) a.g)) =
          elim w.then-j-i.branch [
            | then-j-i-via-then-j-i w' ↦ stays_at s.j a.i _ w'.if-j-i.true
            | then-j-i-via-else-j-i+then-not-own w' ↦ stays_other s.j a.i _ w'.if-j-i.false (sym own ∙ w'.if-not-own.true)
          ] in
          (s.invariant.0, omega (arith, held_count push), turn c.if-j-i.out true kept push)
      | else-j-i+else-not-own w ↦ (s.invariant.0, omega (arith, held_count w.out-is), turn c.if-j-i.out false (goes s.j a.i _ w.if-j-i.false (sym own ∙ w.if-not-own.false)) w.out-is)
    ]
