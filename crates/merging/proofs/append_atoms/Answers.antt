use Rattle.std.proofs.Common.{◌≡◌, ◌∙◌, ap, sym, Bool, cond, arith}
use Rattle.joining.proofs.Scratch.{held_count}
use Rattle.lists.specs.Lists.{any_of}
use Rattle.lists.specs.Arrays.{held_in, pushed}
use Rattle.calculus.specs.Clauses.{same_atom, rename_atom}
use Rattle.joining.specs.Scratch.{through}
use Rattle.merging.proofs.Appending.{atoms_turn, at_most_one}
use Rattle.merging.proofs.append_atoms.Goals as goal
use Rattle.merging.proofs.append_atoms.Goals.{then-not-old, else-not-old}

pub loop-a-preserved : goal.loop-a-preserved
loop-a-preserved c =
    let a = c.args in
    let s = c.loop-a in
    let o = s.out in
    let b = c.atom_by-b.result in
    let h = c.has_atom-old in
    let now : c.if-not-old.out ≡ cond h.result o (pushed o b) =
    elim c.if-not-old.branch [
      | then-not-old w ↦ w.out-is ∙ w.push.ensures ∙ sym (ap (λ (t : Bool). cond t o (pushed o b)) w.if-not-old.true)
      | else-not-old w ↦ w.out-is ∙ sym (ap (λ (t : Bool). cond t o (pushed o b)) w.if-not-old.false)
    ] in
    let known = h.ensures ∙ ap (any_of (λ a. same_atom a b)) c.as_slice.ensures in
    let e = atoms_turn (held_in a.out.now) (rename_atom (through a.t.now a.v)) a.atoms.now s.a-index o c.if-not-old.out b h.result (omega arith) (omega (arith, held_count c.requires.0)) s.invariant.1 c.atom_by-b.ensures known now in
    (omega (arith, held_count now, at_most_one o b h.result), e)
