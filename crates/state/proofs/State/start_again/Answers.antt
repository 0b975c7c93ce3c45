use mathlib.Core.Path.{ap}
use Rattle.state.specs.declared.State.{State}
use Rattle.rules.specs.declared.Run.{Run}
use Rattle.state.proofs.State.start_again.Goals as goal

abbrev with : State → Run → State
with s q = record {
  run = record { version = q.version; trail = q.trail; conflict = q.conflict; constants = q.constants; input = q.input; learned = s.run.learned; level = q.level; length = q.length; stands = q.stands };
  predicates = s.predicates;
  arities = s.arities;
  table = s.table;
}

pub returns : goal.returns
returns c = ap (with c.args.self) c.new_run-run.ensures
