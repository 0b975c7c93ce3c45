use Rattle.std.proofs.Common.{◌≡◌, ◌∙◌, ap, sym, Bool, cond, get_or, ℕ, arith}
use Rattle.lists.specs.Lists.{pair_up}
use Rattle.calculus.specs.Clauses.{arguments, no_literal, rename_literal}
use Rattle.calculus.specs.Merging.{joins}
use Rattle.clauses.specs.Records.{instanced_of}
use Rattle.joining.proofs.Scratch.{apart_none}
use Rattle.merging.proofs.Own.{own_turn}
use Rattle.merging.proofs.joined_own.Goals as goal
use Rattle.merging.proofs.joined_own.Goals.{then-is_own, else-is_own}

pub loop-m-preserved : goal.loop-m-preserved
loop-m-preserved c =
    let a = c.args in
    let s = c.loop-m in
    let ls = c.literals-literals.result.now in
    let m = get_or ls s.m-index no_literal in
    let o = joins (pair_up (arguments a.l) (arguments m)) s.t in
    let own = c.is_own in
    let now : c.if-is_own.t ≡ cond own.result o s.t =
    elim c.if-is_own.branch [
      | then-is_own w ↦ w.t-is ∙ w.joined_arguments-next.ensures ∙ ap (λ (f : ℕ → ℕ). joins (pair_up (arguments a.l) (arguments (rename_literal f m))) s.t) apart_none ∙ sym (ap (λ (b : Bool). cond b o s.t) w.if-is_own.true)
      | else-is_own w ↦ w.t-is ∙ sym (ap (λ (b : Bool). cond b o s.t) w.if-is_own.false)
    ] in
    own_turn (instanced_of a.n.now).instance a.g a.l ls s.m-index a.t s.t c.if-is_own.t own.result (omega arith) s.invariant own.ensures now
