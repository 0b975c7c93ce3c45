use Rattle.std.proofs.Common.{◌≡◌, length}
use Rattle.rules.proofs.Runs.{restored}
use Rattle.rules.specs.Records.{with_brought}
use Rattle.rules.proofs.decided.Given as goal

abbrev pub invariant-loop-j : goal.invariant-loop-j
invariant-loop-j l = l.run ≡ restored l.initial.run (with_brought l.initial.run.trail l.m l.fn.at l.fn.sources (length l.yielded))
