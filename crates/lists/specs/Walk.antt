-- A loop that goes over a list from the front and stores at each place: the invariant of every such loop.
use Rattle.std.specs.Prelude.{◌≡◌, List, ℕ, ◌≤◌, ◌<◌, length, get_or}

-- Of the list l, which was before: P holds of each place below j, the others are as they were, and so is the length.
pub record Upto {A : Type 0} (z : A) (P : ℕ → A → Type 0) (before l : List A) (j : ℕ) : Type 0 where
  pub done : (k : ℕ) → k < j → P k (get_or l k z)
  pub rest : (k : ℕ) → j ≤ k → get_or l k z ≡ get_or before k z
  pub long : length l ≡ length before
