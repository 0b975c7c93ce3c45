-- The clauses read so far are laid into the table.
use Rattle.std.proofs.Common.{◌≡◌}
use Rattle.runfile.specs.File.{clause}
use Rattle.runfile.specs.Readers.{got, times}
use Rattle.header.specs.Records.{laid, seen}
use Rattle.header.proofs.clauses_at.Given as goal

abbrev pub invariant-loop-j : goal.invariant-loop-j
invariant-loop-j l = got l.table l.end ≡ seen (laid l.initial.table) (times l.j (clause l.arities) l.s l.at)
