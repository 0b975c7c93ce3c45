-- Each step hands back a state reached.
use Rattle.state.specs.States.{Made}
use Rattle.rule_cases.proofs.run.Given as goal

abbrev pub invariant-loop-k : goal.invariant-loop-k
invariant-loop-k l = Made l.state
