-- `trying::run_steps` meets its contract. The invariant of the loop over the steps: the run so far; of the loop over a step's atoms: what was found
-- of them.
use mathlib.Core.Path.{◌≡◌}
use Rattle.trying.proofs.Running.{Finds, SoFar}
use Rattle.trying.proofs.run_steps.Given as goal

abbrev pub invariant-loop-i : goal.invariant-loop-i
invariant-loop-i l = Finds l.run l.table l.x l.i (record { right = l.right; at = l.named })

abbrev pub invariant-steps : goal.invariant-steps
invariant-steps l = (l.number ≡ 0) × (l.place ≡ 0) × SoFar l.numbered l.file l.initial.out l.head.version l.head.steps l.out l.run l.table l.cursor l.at l.j
