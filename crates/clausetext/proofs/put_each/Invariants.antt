-- The loop writes the items in turn.
use Rattle.clausetext.proofs.Turns.{Turned}
use Rattle.clausetext.proofs.put_each.Given as goal

abbrev pub invariant-loop-j : goal.invariant-loop-j
invariant-loop-j g l = Turned g.each l.items l.j l.initial.out l.at l.out l.next
