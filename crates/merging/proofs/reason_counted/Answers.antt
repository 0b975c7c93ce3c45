use Rattle.std.proofs.Common.{[], ◌∙◌, ◌≤◌, ap, ap₂, length, arith}
use Rattle.std.specs.Option.{unwrap_or}
use Rattle.basis.specs.declared.Atom.{Atom}
use Rattle.basis.specs.declared.Literal.{Literal}
use Rattle.lists.specs.Arrays.{held}
use Rattle.calculus.specs.Clauses.{ground}
use Rattle.calculus.specs.Merging.{merge, own_pairs, reason_literals, own_index, reason}
use Rattle.clauses.specs.Records.{clause_of, instanced_of}
use Rattle.joining.specs.Scratch.{both_atoms}
use Rattle.joining.specs.Fitted.{fitted}
use Rattle.merging.specs.Results.{packed_reason}
use Rattle.merging.proofs.Own.{own_index_is, stay_few}
use Rattle.merging.proofs.Whole.{atoms_first, merge_made, merge_limits, few_atoms}
use Rattle.merging.proofs.reason_counted.Goals as goal

pub returns : goal.returns
unfolding reason
returns c =
    let a = c.args in
    let N = a.n.now in
    let n = N.clause in
    let C = clause_of n in
    let τ = (instanced_of N).instance in
    let h = c.requires in
    let t = c.joined_own-t.result in
    let l = c.literal_at-l.result in
    let g = c.ground-g.result in
    let el = c.literal_at-l.ensures in
    let eg = c.ground-g.ensures ∙ ap₂ ground c.constants-constants.ensures el in
    let few : length (reason_literals τ g a.i C.literals) ≤ 8 = omega (arith, h.few_literals, stay_few τ g a.i n.literals n.literalcount) in
    let az = atoms_first t C.atoms c.atoms.ensures (c.new-atoms.ensures ∙ ap (λ (d : Atom). held both_atoms d []) c.no_atom.ensures) c.append_atoms.ensures in
    let made = c.close_up-merged.ensures
    ∙ ap fitted (merge_made (own_pairs τ g l C.literals) n.variables C.atoms (reason_literals τ g a.i C.literals) τ
    c.from-v.ensures (omega (arith, h.few_variables)) (omega (arith, few_atoms n h)) (omega arith) c.start.ensures c.joined_own-t.ensures az c.reason_literals-literals.ensures c.as_slice.ensures c.as_slice-2.ensures c.constants-constants.ensures)
    ∙ merge_limits (own_pairs τ g l C.literals) n.variables C.atoms (reason_literals τ g a.i C.literals) τ h.few_variables (few_atoms n h) few in
    let own = c.own_index-own.ensures ∙ own_index_is τ g a.i C.literals in
    let of = c.unwrap_or.ensures ∙ ap (λ o. unwrap_or o c.no_instanced.result) made in
    (λ k. record { of = of k; own = own k })
    ∙ ap₂ (λ (g l : Literal). packed_reason (record { of = merge (own_pairs τ g l C.literals) n.variables C.atoms (reason_literals τ g a.i C.literals) τ; own = own_index τ g a.i C.literals })) eg el
