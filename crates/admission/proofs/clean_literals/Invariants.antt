-- The literals passed are as they are read, and the others as they were.
use Rattle.std.proofs.Common.{◌≡◌, map, ◌++◌, length, take, drop}
use Rattle.admission.specs.Offered.{cleaned}
use Rattle.admission.proofs.clean_literals.Given as goal

abbrev pub invariant-loop-l : goal.invariant-loop-l
invariant-loop-l s = (length s.fn.literals ≡ 8) × (s.l-items ≡ map (cleaned s.arities) (take s.l-index s.fn.literals) ++ drop s.l-index s.fn.literals)
