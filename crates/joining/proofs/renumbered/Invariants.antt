use Rattle.std.proofs.Common.{◌≡◌, map, cond, eqb, ◌++◌, length, take, drop}
use Rattle.joining.proofs.renumbered.Given as goal

abbrev pub invariant-loop-z : goal.invariant-loop-z
invariant-loop-z l = (length l.fn.t ≡ 24) × (l.z-items ≡ map (λ z. cond (eqb z l.hi) l.lo z) (take l.z-index l.fn.t) ++ drop l.z-index l.fn.t)
