-- The loop writes the literals in turn.
use Rattle.std.proofs.Common.{take}
use Rattle.text.specs.Text.{Wrote}
use Rattle.runfile.specs.Written.{joined, written_literal}
use Rattle.clausebytes.proofs.put_literals.Given as goal

abbrev pub invariant-loop-l : goal.invariant-loop-l
invariant-loop-l l = Wrote l.initial.out l.at (joined (written_literal l.arities) (take l.l-index l.literals)) l.out l.next
