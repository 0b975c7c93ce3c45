-- A walk over a range, against a walk over the numbers in it.
use Rattle.std.proofs.Common.{rules, tests, refl, ◌∙◌, ◌+◌, arith}
use Rattle.std.proofs.lemmas.Iterator.{YieldsList-from_range, serves_from_Range}
use Rattle.std.proofs.lemmas.Iterator.Search.{all_from_yields_List}
use Rattle.calculus.specs.Merging.{occurs_in}
use Rattle.clauses.specs.Records.{clause_of}
use Rattle.admission.proofs.Judging.{all_up}
use Rattle.admission.proofs.all_occur.Goals as goal

pub all-requires-clause-callable : goal.all-requires-clause-callable
all-requires-clause-callable c = serves_from_Range (λ x q r. search (rules, tests)) (λ x l u. search rules)

pub returns : goal.returns
returns c =
    let C = clause_of c.args.c in
    all_from_yields_List (λ x. occurs_in C.atoms C.literals (x + 1)) _ _ _ c.all.ensures.ran (YieldsList-from_range 0 C.variables C.variables refl (omega arith)) (λ x b q k. search (rules, tests))
    ∙ all_up (occurs_in C.atoms C.literals) 0 C.variables
