use Rattle.std.proofs.Common.{◌≡◌, ◌∙◌, ap, length, arith}
use Rattle.lists.specs.Lists.{keep_if, up_from}
use Rattle.calculus.specs.Merging.{occurs_in}
use Rattle.joining.proofs.Scratch.{held_read, kept_short}
use Rattle.joining.proofs.Closing.{close_no_variables, close_no_atoms, close_no_literals, close_is}
use Rattle.joining.proofs.close_up.Goals as goal
use Rattle.joining.proofs.close_up.Goals.{then-atoms-gt-MOST_ATOMS-via-then-atoms-gt-MOST_ATOMS, then-atoms-gt-MOST_ATOMS-via-else-atoms-gt-MOST_ATOMS+then-literals-gt-MOST_LITERALS, then-atoms-gt-MOST_ATOMS-via-else-atoms-gt-MOST_ATOMS+else-literals-gt-MOST_LITERALS+then-ks-gt-MOST_VARIABLES}

pub returns-then-atoms-gt-MOST_ATOMS : goal.returns-then-atoms-gt-MOST_ATOMS
returns-then-atoms-gt-MOST_ATOMS c =
    let a = c.args in
    let p = occurs_in a.atoms.now a.literals.now in
    let ks : c.as_slice-ks.result.now ≡ keep_if p (up_from 1 a.v) = c.as_slice-ks.ensures ∙ held_read 0 (keep_if p (up_from 1 a.v)) (omega (arith, kept_short p a.v)) c.kept-names.ensures in
    elim c.then-atoms-gt-MOST_ATOMS.branch [
      | then-atoms-gt-MOST_ATOMS-via-then-atoms-gt-MOST_ATOMS w ↦ close_no_atoms a.v a.atoms.now a.literals.now a.instance.now (omega arith)
      | then-atoms-gt-MOST_ATOMS-via-else-atoms-gt-MOST_ATOMS+then-literals-gt-MOST_LITERALS w ↦ close_no_literals a.v a.atoms.now a.literals.now a.instance.now (omega arith)
      | then-atoms-gt-MOST_ATOMS-via-else-atoms-gt-MOST_ATOMS+else-literals-gt-MOST_LITERALS+then-ks-gt-MOST_VARIABLES w ↦ close_no_variables a.v a.atoms.now a.literals.now a.instance.now (omega (arith, ap length ks))
    ]

pub returns : goal.returns
returns c =
    let a = c.args in
    let p = occurs_in a.atoms.now a.literals.now in
    let ks : c.as_slice-ks.result.now ≡ keep_if p (up_from 1 a.v) = c.as_slice-ks.ensures ∙ held_read 0 (keep_if p (up_from 1 a.v)) (omega (arith, kept_short p a.v)) c.kept-names.ensures in
    close_is a.v a.atoms.now a.literals.now a.instance.now ks (omega arith) (omega arith) (omega arith) c.closed_atoms.ensures c.closed_literals.ensures c.constants.ensures
