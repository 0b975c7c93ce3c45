-- Lists that a step record holds.
use mathlib.Core.Path.{◌∙◌, ◌≡◌}
use mathlib.Core.List.{List}
use Prim.Native.Nat.{◌≤◌, ℕ}
use native.Mathlib.Omega.{arith}
use lib.ListN.{length}
use Rattle.basis.specs.Limits.{most_variables}
use Rattle.lists.proofs.Arrays.{exactly_length, exactly_take, take_exactly}
use Rattle.lists.specs.Arrays.{exactly}

-- A list that its array has room for is what is read of the array, as many elements as it has.
pub array_said : {A : Type 0} (d : A) (most : ℕ) (l : List A) → length l ≤ most → exactly (length l) d (exactly most d l) ≡ l
array_said d most l h = exactly_take d (length l) (exactly most d l) (omega (arith, exactly_length d most l)) ∙ take_exactly d most l h

pub instance_said : (τ : List ℕ) → length τ ≤ most_variables → exactly (length τ) 0 (exactly most_variables 0 τ) ≡ τ
instance_said τ h = array_said 0 most_variables τ h
