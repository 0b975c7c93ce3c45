-- After k turns the first k slots have their constants' numbers.
use Rattle.std.proofs.Common.{◌≡◌}
use Rattle.basis.specs.Choices.{less_zero}
use Rattle.bounds.specs.Whole.{whole_bounds}
use Rattle.bounds.specs.Squares.{values}
use Rattle.constraint.specs.Square.{entry}
use Rattle.constraint.specs.Witnesses.{packed_numbers}
use Rattle.constraint.proofs.numbers_of.Given as goal

abbrev pub invariant-loop-k : goal.invariant-loop-k
invariant-loop-k l = l.numbers ≡ packed_numbers (less_zero l.k (values whole_bounds l.constants (entry l.t)))
