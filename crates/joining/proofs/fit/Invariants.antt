use Rattle.std.proofs.Common.{◌≡◌, ◌<◌, ℕ, length, get_or, map, take}
use Rattle.lists.specs.Arrays.{exactly}
use Rattle.joining.proofs.fit.Given as goal

abbrev pub invariant-loop-j : goal.invariant-loop-j
invariant-loop-j g l =
    (h : _ → _) → ((k : ℕ) → k < length l.list → (r : _) → goal.F-post g l.f (get_or l.list k l.fn.blank) r → r ≡ h (get_or l.list k l.fn.blank)) → l.out ≡ exactly g.row.N l.fn.blank (map h (take l.j l.list))
