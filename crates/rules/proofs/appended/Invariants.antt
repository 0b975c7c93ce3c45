use Rattle.std.proofs.Common.{◌≡◌}
use Rattle.rules.proofs.Runs.{restored}
use Rattle.rules.specs.Records.{with_atoms}
use Rattle.rules.proofs.appended.Given as goal

abbrev pub invariant-loop-j : goal.invariant-loop-j
invariant-loop-j l = l.run ≡ restored l.initial.run (with_atoms l.initial.run.trail l.m l.fn.fresh.at l.j)
