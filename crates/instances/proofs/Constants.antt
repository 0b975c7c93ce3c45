-- An array of constants whose first ones are copied from an instance, and which is blank from there on.
use mathlib.Core.Path.{◌≡◌, ap, refl, sym}
use mathlib.Core.List.{List, [], ◌++◌, ◌∷◌}
use Prim.Native.Nat.{suc, zero, ℕ}
use lib.ListN.{drop, length, replicate, take}
use Rattle.lists.proofs.Arrays.{exactly_none}
use Rattle.lists.specs.Arrays.{exactly}

module _ {A : Type 0} (d : A) where
  -- The first n of a list, and what they leave of as many blanks
  pub blank_behind : (n : ℕ) (l : List A) → take n l ++ drop (length (take n l)) (replicate n d) ≡ exactly n d l
  unfolding exactly
  blank_behind zero l = refl
  blank_behind (suc n) [] = sym (exactly_none d (suc n))
  blank_behind (suc n) (x ∷ l) = ap {B = List A} (λ r. x ∷ r) (blank_behind n l)

  -- What stands past the room is not looked at.
  pub exactly_first : (n : ℕ) (l : List A) → exactly n d (take n l) ≡ exactly n d l
  unfolding exactly
  exactly_first zero l = refl
  exactly_first (suc n) [] = refl
  exactly_first (suc n) (x ∷ l) = ap {B = List A} (λ r. x ∷ r) (exactly_first n l)
