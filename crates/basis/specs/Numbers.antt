-- The numbers that atoms and clauses are read over. The calculus takes them as a parameter and uses them at the whole numbers.
use Rattle.std.specs.Prelude.{◌≡◌, refl, ℕ, suc, ℤ, pos, ◌-ℤ◌, ◌≤ℤ◌, ◌<ℤ◌}
use Rattle.std.proofs.Common.{arith, lt→ltb}
use Rattle.std.specs.Int.Signed.{lt_z_yes}

-- What is asked of a kind of number: zero, x − y ≤ c, x < y, and that rising numbers exist, as many as one likes.
pub record Numbers : Type 1 where
  pub Number : Type 0
  pub zeroth : Number
  pub AtMost : Number → Number → ℤ → Type 0
  pub Below : Number → Number → Type 0
  pub counted : ℕ → Number
  pub counted_zero : counted 0 ≡ zeroth
  pub counted_rises : (i : ℕ) → Below (counted i) (counted (suc i))

-- "We read the arithmetic over whole numbers, since product codes are whole."
abbrev pub whole : Numbers
whole = record {
  Number = ℤ;
  zeroth = pos 0;
  AtMost = λ x y c. (x -ℤ y) ≤ℤ c;
  Below = ◌<ℤ◌;
  counted = pos;
  counted_zero = refl;
  counted_rises = λ i. lt_z_yes (lt→ltb i (suc i) (omega arith));
}
