-- `steps::steps_end` meets its contract. So many steps were passed over.
use Rattle.std.proofs.Common.{◌≡◌}
use Rattle.runfile.specs.Readers.{got}
use Rattle.steps.specs.Records.{passed_over}
use Rattle.steps.proofs.steps_end.Given as goal

abbrev pub invariant-loop : goal.invariant-loop
invariant-loop l = passed_over l.counter l.form l.s l.initial.past ≡ got tt l.past
