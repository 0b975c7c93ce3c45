-- Each packed file leaves less.
use Rattle.std.proofs.Common.{length}
use Rattle.file_cases.proofs.print_all_packed.Given as goal

abbrev pub decreases-loop-name : goal.decreases-loop-name
decreases-loop-name g l = length l.rest
