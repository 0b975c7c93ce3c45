-- So many atoms were passed over.
use Rattle.std.proofs.Common.{◌≡◌}
use Rattle.runfile.specs.Readers.{got}
use Rattle.steps.specs.Records.{counted}
use Rattle.steps.proofs.sources_end.Given as goal

abbrev pub invariant-loop : goal.invariant-loop
invariant-loop l = counted l.counter l.s l.initial.past ≡ got l.counter l.past
