-- Five writers, one after the other.
use mathlib.Core.Path.{◌≡◌, ap}
use native.Mathlib.Omega.{arith}
use borrow.Author.Rules.{rules}
use lib.ListN.{length, length-take}
use Rattle.basis.specs.Limits.{most_atoms, most_literals}
use Rattle.text.proofs.Text.{and_then, as_text}
use Rattle.clausetext.specs.ClauseText.{clause_text, in_turn, listed_atom, listed_literal}
use Rattle.clausetext.proofs.put_clause.Goals as goal

pub returns : goal.returns
unfolding clause_text
returns c =
    let atoms = as_text (ap (in_turn 0 listed_atom) c.atoms.ensures) c.put_atoms-atoms.ensures.wrote in
    let few_atoms : length c.args.c.atoms ≡ most_atoms = search rules in
    let few_literals : length c.args.c.literals ≡ most_literals = search rules in
    let literals = as_text (ap (in_turn 0 listed_literal) c.literals.ensures) c.put_literals.ensures.wrote in
    record { wrote = and_then (and_then (and_then (and_then c.put_number-variables.ensures.wrote c.put_word-open.ensures) atoms) c.put_byte-close.ensures) literals; room = omega (arith, ap length c.atoms.ensures, ap length c.literals.ensures, length-take c.args.c.atomcount c.args.c.atoms, length-take c.args.c.literalcount c.args.c.literals) }
