-- What a test's answer says.
use Rattle.std.specs.Prelude.{◌≡◌, Bool, true, false}

-- True says that P holds, false that it does not.
abbrev pub Decides : Type 0 → Bool → Type 0
Decides P true = P
Decides P false = ¬ P

-- The answer is unique. Proved in proofs/Tests.antt.
abbrev pub DecidesOnce : Type 1
DecidesOnce = (P : Type 0) (r s : Bool) → Decides P r → Decides P s → r ≡ s
