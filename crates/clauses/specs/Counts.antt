-- How many elements of an array are counted.
use Rattle.std.specs.Prelude.{◌≡◌, List, ℕ, ◌≤◌, length, take}

-- r is the count n of an array with room for `most`, and no more than that.
pub record Counts {A : Type 0} (l : List A) (most n r : ℕ) : Type 0 where
  pub long : length l ≡ most
  pub few : r ≤ most
  pub same : take r l ≡ take n l

-- Such a number is unique. Proved in proofs/Counts.antt.
abbrev pub CountsOnce : Type 1
CountsOnce = (A : Type 0) (l : List A) (most n r q : ℕ) → Counts l most n r → Counts l most n q → r ≡ q
