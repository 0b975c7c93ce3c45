-- A step hands back a state reached.
use Rattle.state.proofs.Runs.{step_keeps}
use Rattle.rule_cases.proofs.tried.Goals as goal

pub print_state-requires : goal.print_state-requires
print_state-requires c = step_keeps c.args.state c.args.x c.step-answer.result c.requires c.step-answer.ensures

pub returns : goal.returns
returns c = step_keeps c.args.state c.args.x c.step-answer.result c.requires c.step-answer.ensures
