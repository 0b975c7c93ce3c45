-- The answer by whether the counts are within the limits, and by what is judged of the clause as it was read.
use Rattle.std.proofs.Common.{sym, ◌∙◌, ap, subst}
use Rattle.clauses.specs.Records.{clause_of, packed, Counted}
use Rattle.clauses.proofs.Records.{counted_facts}
use Rattle.calculus.specs.Class.{clause_refusal}
use Rattle.admission.specs.Offered.{offered, handed, clause_answer}
use Rattle.admission.proofs.Judging.{answer_above, offered_says, packed_counted}
use Rattle.admission.proofs.admit_clause.Goals as goal

pub returns-then-not-counted : goal.returns-then-not-counted
returns-then-not-counted c = answer_above c.args.arities.now c.args.c (sym c.counted.ensures ∙ c.if-not-counted.true)

pub judge-requires : goal.judge-requires
judge-requires c = subst Counted (sym c.clean.ensures) (packed_counted c.args.arities.now c.args.c (counted_facts c.args.c (sym c.counted.ensures ∙ c.if-not-counted.false)))

pub returns : goal.returns
unfolding clause_answer
returns c =
    let A = c.args.arities.now in
    let h = counted_facts c.args.c (sym c.counted.ensures ∙ c.if-not-counted.false) in
    c.judge.ensures ∙ ap (λ r. handed r (clause_refusal A (clause_of r))) c.clean.ensures ∙ ap (λ C. handed (packed (offered A c.args.c)) (clause_refusal A C)) (offered_says A c.args.c h)
