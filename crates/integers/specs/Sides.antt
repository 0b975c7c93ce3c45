-- A whole number is `over z - under z`, of which one is 0: so every linear fact of whole numbers is one of naturals, for `omega`.
-- The laws that turn orders and sums into such facts are in proofs/.
use Rattle.std.specs.Prelude.{ℕ, suc, ◌+◌, ◌≤◌, ℤ, pos, negsuc}

-- How far z lies over zero.
abbrev pub over : ℤ → ℕ
over (pos n) = n
over (negsuc n) = 0

-- How far z lies under zero.
abbrev pub under : ℤ → ℕ
under (pos n) = 0
under (negsuc n) = suc n

-- z lies from -m to m. Said as two differences, so that the range of a sum follows by `omega`.
pub record Within (m : ℕ) (z : ℤ) : Type 0 where
  pub above : over z ≤ m + under z
  pub below : under z ≤ m + over z
