-- Admission makes a state reached.
use Rattle.state.proofs.Opening.{admit_keeps}
use Rattle.rule_cases.proofs.admitted.Goals as goal

pub returns : goal.returns
returns c = admit_keeps _ _ _ _ c.admit-opened.result c.admit-opened.ensures
