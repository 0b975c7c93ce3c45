-- The loop writes the word's bytes in turn.
use Rattle.std.proofs.Common.{take, ◌+◌}
use Rattle.text.specs.Text.{Wrote}
use Rattle.text.proofs.put_word.Given as goal

abbrev pub invariant-loop-j : goal.invariant-loop-j
invariant-loop-j l = Wrote l.initial.out l.at (take l.j l.word) l.out (l.at + l.j)
