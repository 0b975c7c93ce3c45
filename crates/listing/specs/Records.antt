-- The lines by what the code has: a rule's name by its number, and the last line by the run record of the last answer's state.
use Rattle.std.specs.Prelude.{◌≡◌, List, Bool, ◌&&◌, cond, ℕ, eqb}
use Rattle.calculus.specs.Rules.{Answer}
use Rattle.asking.specs.Steps.{step_of}
use Rattle.asking.specs.declared.Step.{Step}
use Rattle.rules.specs.Records.{packed_run}
use Rattle.rules.specs.declared.Run.{Run}
use Rattle.text.specs.Text.{bytes}
use Rattle.listing.specs.Lines.{rule_name, closing, last_line}

-- A rule's name by its number; a number that is none of the eight has none.
abbrev pub name_of : (rule : ℕ) → List ℕ
name_of rule =
    cond (eqb rule 1) (bytes "propagate")
    (cond (eqb rule 2) (bytes "decide")
    (cond (eqb rule 3) (bytes "conflict")
    (cond (eqb rule 4) (bytes "resolve")
    (cond (eqb rule 5) (bytes "factorize")
    (cond (eqb rule 6) (bytes "skip")
    (cond (eqb rule 7) (bytes "backtrack")
    (cond (eqb rule 8) (bytes "grow")
    (bytes ""))))))))

-- It is the name of the step that a record with this number says. Proved in proofs/Lines.antt.
abbrev pub NamesRule : Type 0
NamesRule = (x : Step) → name_of x.rule ≡ rule_name (step_of x)

-- A conflict stands and has no literals.
abbrev pub refuted : Run → Bool
refuted r = r.stands && eqb r.conflict.clause.literalcount 0

-- Of the record of the last answer's state it is the last line. Proved in proofs/Lines.antt.
abbrev pub ClosesAsLast : Type 0
ClosesAsLast = (e : Answer) → closing (refuted (packed_run e.state)) e.number ≡ last_line e
