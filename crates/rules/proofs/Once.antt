-- The answer of a rule that looks at no clause of the table is unique, as that of one that does, and that of Decide.
use Rattle.rules.specs.Answers.{NamedAnswerUnique, RunAnswerUnique}
use Rattle.rules.proofs.Told.{outcome_once, told_once}

pub run_answer_unique : RunAnswerUnique
run_answer_unique r x a b (s, R) f g = outcome_once r a b (told_once s x (f s R) (g s R))

pub named_answer_unique : NamedAnswerUnique
named_answer_unique r k n x a b (s, R, l, m) f g = outcome_once r a b (told_once s x (f s R l m) (g s R l m))
