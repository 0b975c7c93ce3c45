use Rattle.std.proofs.Common.{[], ◌++◌, ◌≤◌, map, ◌+◌, ◌∙◌, ap, ap₂, length, get_or, length-take, length-append, arith}
use Rattle.basis.specs.declared.Atom.{Atom}
use Rattle.basis.specs.declared.Literal.{Literal}
use Rattle.lists.specs.Lists.{pair_up, without}
use Rattle.lists.specs.Arrays.{held}
use Rattle.basis.specs.Atoms.{no_atom}
use Rattle.calculus.specs.Clauses.{arguments, no_literal, rename_atom, rename_literal, under}
use Rattle.calculus.specs.Merging.{joins, apart, resolvent}
use Rattle.clauses.specs.Records.{clause_of, instanced_of}
use Rattle.joining.specs.Scratch.{both_atoms, both_literals}
use Rattle.joining.specs.Fitted.{fitted}
use Rattle.joining.proofs.Scratch.{held_count, held_read, held_again}
use Rattle.merging.proofs.Whole.{atoms_first, atoms_both, atoms_few, literals_first, literals_both, literals_few, constants_first, constants_both, merge_made, few_atoms, few_literals, few_others, few_both_atoms, few_both_others}
use Rattle.merging.proofs.resolve_counted.Goals as goal

pub append_atoms-requires-2 : goal.append_atoms-requires-2
append_atoms-requires-2 c =
    let t = c.joined_arguments-t.result in
    let n = c.args.n.now.clause in
    let r = c.args.r.now.clause in
    let h = c.requires in
    let xs = (clause_of n).atoms in
    let az = atoms_first t xs c.atoms.ensures (c.new-atoms.ensures ∙ ap (λ (d : Atom). held both_atoms d []) c.no_atom.ensures) c.append_atoms.ensures in
    let few = atoms_few (rename_atom (under t)) xs az in
    (held_again no_atom _ (omega (arith, held_count az, few, few_atoms n h.0)) az, omega (arith, few, few_atoms n h.0, ap length c.atoms-2.ensures, few_atoms r h.1))

pub append_literals-requires-2 : goal.append_literals-requires-2
append_literals-requires-2 c =
    let t = c.joined_arguments-t.result in
    let n = c.args.n.now.clause in
    let r = c.args.r.now.clause in
    let h = c.requires in
    let xs = without c.args.j (clause_of n).literals in
    let ls = literals_first t xs (ap (without c.args.j) c.literals.ensures) (c.new-literals.ensures ∙ ap (λ (d : Literal). held both_literals d []) c.no_literal.ensures) c.append_literals.ensures in
    let few = literals_few (rename_literal (under t)) xs ls in
    (held_again no_literal _ (omega (arith, held_count ls, few, few_others n h.0 c.args.j)) ls, omega (arith, few, few_others n h.0 c.args.j, ap length c.literals-2.ensures, few_literals r h.1))

pub append_constants-requires-2 : goal.append_constants-requires-2
append_constants-requires-2 c =
    let N = c.args.n.now in
    let R = c.args.r.now in
    let h = c.requires in
    let A = (instanced_of N).instance in
    let fs = constants_first A c.constants.ensures c.new-constants.ensures c.append_constants.ensures in
    let few : length A ≤ 12 = omega (arith, h.0.few_variables, length-take N.clause.variables N.instance) in
    (held_again 0 A (omega arith) fs, omega (arith, few, held_count fs, ap length c.constants-2.ensures, h.1.few_variables, length-take R.clause.variables R.instance))

pub returns : goal.returns
unfolding resolvent
returns c =
    let a = c.args in
    let N = a.n.now in
    let R = a.r.now in
    let n = N.clause in
    let r = R.clause in
    let C = clause_of n in
    let D = clause_of r in
    let A = (instanced_of N).instance in
    let B = (instanced_of R).instance in
    let h = c.requires in
    let v = n.variables in
    let t = c.joined_arguments-t.result in
    let es = ap₂ (λ (l k : Literal). pair_up (arguments l) (arguments (rename_literal (apart v) k))) c.literal_at-l.ensures c.literal_at-k.ensures in
    let az = atoms_first t C.atoms c.atoms.ensures (c.new-atoms.ensures ∙ ap (λ (d : Atom). held both_atoms d []) c.no_atom.ensures) c.append_atoms.ensures in
    let bz = atoms_both t v C.atoms D.atoms c.atoms-2.ensures (omega (arith, few_atoms n h.0)) az c.append_atoms-2.ensures in
    let ls = literals_first t (without a.j C.literals) (ap (without a.j) c.literals.ensures) (c.new-literals.ensures ∙ ap (λ (d : Literal). held both_literals d []) c.no_literal.ensures) c.append_literals.ensures in
    let ms = literals_both t v (without a.j C.literals) (without a.i D.literals) (ap (without a.i) c.literals-2.ensures) (omega (arith, few_others n h.0 a.j)) ls c.append_literals-2.ensures in
    let fs = constants_first A c.constants.ensures c.new-constants.ensures c.append_constants.ensures in
    let gs = constants_both A B c.constants-2.ensures (omega (arith, length-take v N.instance, h.0.few_variables)) fs c.append_constants-2.ensures in
    c.close_up.ensures
    ∙ ap fitted (merge_made (pair_up (arguments (get_or C.literals a.j no_literal)) (arguments (rename_literal (apart v) (get_or D.literals a.i no_literal)))) (v + r.variables)
    (C.atoms ++ map (rename_atom (apart v)) D.atoms) (without a.j C.literals ++ map (rename_literal (apart v)) (without a.i D.literals)) (A ++ B)
    (omega (arith, c.from.ensures, c.from-2.ensures)) (omega (arith, h.0.few_variables, h.1.few_variables)) (few_both_atoms n r h.0 h.1 v) (few_both_others n r h.0 h.1 v a.j a.i)
    c.start.ensures (c.joined_arguments-t.ensures ∙ ap (λ e. joins e c.start.result) es) bz ms c.as_slice.ensures c.as_slice-2.ensures
    (c.as_slice-3.ensures ∙ held_read 0 (A ++ B) (omega (arith, length-append A B, length-take v N.instance, length-take r.variables R.instance, h.0.few_variables, h.1.few_variables)) gs))
