use Rattle.std.proofs.Common.{[], ◌∙◌, ap, ap₂, sym, get_or, ℕ, arith}
use Rattle.basis.specs.declared.Atom.{Atom}
use Rattle.basis.specs.declared.Literal.{Literal}
use Rattle.lists.specs.Lists.{pair_up, without}
use Rattle.lists.specs.Arrays.{held}
use Rattle.calculus.specs.Clauses.{arguments, no_literal, rename_literal}
use Rattle.calculus.specs.Merging.{joins}
use Rattle.clauses.specs.Records.{clause_of, instanced_of}
use Rattle.joining.specs.Scratch.{both_atoms, both_literals}
use Rattle.joining.specs.Fitted.{fitted}
use Rattle.joining.proofs.Scratch.{apart_none}
use Rattle.merging.proofs.Whole.{atoms_first, literals_first, merge_made, factored_low_high, few_atoms, few_others}
use Rattle.merging.proofs.factor_counted.Goals as goal

pub returns : goal.returns
returns c =
    let a = c.args in
    let N = a.n.now in
    let n = N.clause in
    let C = clause_of n in
    let h = c.requires.0 in
    let t = c.joined_arguments-t.result in
    let es = ap (λ (f : ℕ → ℕ). pair_up (arguments c.literal_at-l.result) (arguments (rename_literal f c.literal_at-k.result))) apart_none
    ∙ ap₂ (λ (l k : Literal). pair_up (arguments l) (arguments k)) c.literal_at-l.ensures c.literal_at-k.ensures in
    let az = atoms_first t C.atoms c.atoms.ensures (c.new-atoms.ensures ∙ ap (λ (d : Atom). held both_atoms d []) c.no_atom.ensures) c.append_atoms.ensures in
    let ls = literals_first t (without a.hi C.literals) (ap (without a.hi) c.literals.ensures) (c.new-literals.ensures ∙ ap (λ (d : Literal). held both_literals d []) c.no_literal.ensures) c.append_literals.ensures in
    c.close_up.ensures
    ∙ ap fitted (merge_made (pair_up (arguments (get_or C.literals a.lo no_literal)) (arguments (get_or C.literals a.hi no_literal))) n.variables C.atoms (without a.hi C.literals) (instanced_of N).instance
    c.from-v.ensures (omega (arith, h.few_variables)) (omega (arith, few_atoms n h)) (omega (arith, few_others n h a.hi)) c.start.ensures (c.joined_arguments-t.ensures ∙ ap (λ e. joins e c.start.result) es)
    az ls c.as_slice.ensures c.as_slice-2.ensures c.constants.ensures)
    ∙ ap fitted (sym (factored_low_high (instanced_of N) a.lo a.hi a.lo a.hi (omega (arith, c.requires.1)) (omega (arith, c.requires.1))))
