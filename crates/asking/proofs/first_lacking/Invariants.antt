-- `asking::first_lacking`: what the conditions that are left come to is what all of them do.
use Rattle.std.proofs.Common.{◌≡◌, map, drop}
use Rattle.calculus.specs.Checks.{first_refusal}
use Rattle.asking.specs.Trying.{check_of}
use Rattle.asking.proofs.first_lacking.Given as goal

abbrev pub invariant-loop-holds : goal.invariant-loop-holds
invariant-loop-holds l = first_refusal (map check_of (drop l.holds-index l.conditions)) ≡ first_refusal (map check_of l.conditions)
