-- The order of whole numbers: what a test leaves, transitivity, sums on both sides, and ranges.
use mathlib.Core.Path.{◌≡◌, sym, subst}
use mathlib.Core.Bool.{Bool, true, false, not}
use Prim.Native.Nat.{ℕ, ◌+◌}
use native.Mathlib.Decide.{map_dec}
use native.Mathlib.Omega.{arith}
use lib.Dec.{T}
use lib.IntN.{ℤ, pos, negsuc, neg_ℤ, ◌+ℤ◌, ◌-ℤ◌}
use lib.Signed.{◌≤ℤ◌, ◌<ℤ◌, le_z, le_z_yes, lt_z, lt_z_yes, lt_z_no}
use Rattle.integers.specs.Sides.{Within}
use Rattle.integers.proofs.Linear.{le→, lt→, →le, →lt, →eq, sum, negated}

pub lt_z_true : {a b : ℤ} → lt_z a b ≡ true → a <ℤ b
lt_z_true e = lt_z_yes (subst T (sym e) tt)

pub lt_z_false : {a b : ℤ} → lt_z a b ≡ false → b ≤ℤ a
lt_z_false e = lt_z_no (subst (λ (t : Bool). T (not t)) (sym e) tt)

-- The order is decided.

test_decided : (t : Bool) → Dec (T t)
test_decided true = yes tt
test_decided false = no (λ h. h)

pub at_most_decided : (a b : ℤ) → Dec (a ≤ℤ b)
at_most_decided a b = map_dec le_z_yes (λ h. h.le) (test_decided (le_z a b))

pub below_decided : (a b : ℤ) → Dec (a <ℤ b)
below_decided a b = map_dec lt_z_yes (λ h. h.lt) (test_decided (lt_z a b))

pub <→≤ : {a b : ℤ} → a <ℤ b → a ≤ℤ b
<→≤ {a} {b} h = →le a b (omega (arith, lt→ h))

pub ≤ℤ_trans : {a b c : ℤ} → a ≤ℤ b → b ≤ℤ c → a ≤ℤ c
≤ℤ_trans {a} {b} {c} h k = →le a c (omega (arith, le→ h, le→ k))

pub ≤ℤ_antisym : {a b : ℤ} → a ≤ℤ b → b ≤ℤ a → a ≡ b
≤ℤ_antisym {a} {b} h k = →eq a b (omega (arith, le→ h, le→ k))

pub +ℤ_mono : {a b c d : ℤ} → a ≤ℤ b → c ≤ℤ d → (a +ℤ c) ≤ℤ (b +ℤ d)
+ℤ_mono {a} {b} {c} {d} h k = →le (a +ℤ c) (b +ℤ d) (omega (arith, le→ h, le→ k, sum a c, sum b d))

pub +ℤ_cancel : {a b : ℤ} (c : ℤ) → (a +ℤ c) ≤ℤ (b +ℤ c) → a ≤ℤ b
+ℤ_cancel {a} {b} c h = →le a b (omega (arith, le→ h, sum a c, sum b c))

-- x - y ≤ c, said by a sum, and back
pub by_sum : (x y c : ℤ) → (x -ℤ y) ≤ℤ c → x ≤ℤ (c +ℤ y)
by_sum x y c h = →le x (c +ℤ y) (omega (arith, le→ h, sum x (neg_ℤ y), sum c y, negated y))

pub of_sum : (x y c : ℤ) → x ≤ℤ (c +ℤ y) → (x -ℤ y) ≤ℤ c
of_sum x y c h = →le (x -ℤ y) c (omega (arith, le→ h, sum x (neg_ℤ y), sum c y, negated y))

-- Below, by at least one, and back
pub by_order_lem : (x y : ℤ) → x <ℤ y → x ≤ℤ (negsuc 0 +ℤ y)
by_order_lem x y h = →le x (negsuc 0 +ℤ y) (omega (arith, lt→ h, sum (negsuc 0) y))

pub of_order : (x y : ℤ) → x ≤ℤ (negsuc 0 +ℤ y) → x <ℤ y
of_order x y h = →lt x y (omega (arith, le→ h, sum (negsuc 0) y))

-- Both numbers less the same one
pub shifted_rises : (x y z : ℤ) → x ≤ℤ (negsuc 0 +ℤ y) → (x -ℤ z) <ℤ (y -ℤ z)
shifted_rises x y z h = →lt (x -ℤ z) (y -ℤ z) (omega (arith, le→ h, sum (negsuc 0) y, sum x (neg_ℤ z), sum y (neg_ℤ z)))

pub shifted_holds : (x y z c : ℤ) → x ≤ℤ (c +ℤ y) → ((x -ℤ z) -ℤ (y -ℤ z)) ≤ℤ c
shifted_holds x y z c h = →le ((x -ℤ z) -ℤ (y -ℤ z)) c
    (omega (arith, le→ h, sum c y, sum x (neg_ℤ z), sum y (neg_ℤ z), negated (y -ℤ z), sum (x -ℤ z) (neg_ℤ (y -ℤ z))))

-- The range of a sum
pub within_sum : {m n : ℕ} {x y : ℤ} → Within m x → Within n y → Within (m + n) (x +ℤ y)
within_sum {x = x} {y = y} W U = record { above = omega (arith, sum x y); below = omega (arith, sum x y) }

-- The range of a difference
pub within_difference : {m n : ℕ} {x y : ℤ} → Within m x → Within n y → Within (m + n) (x -ℤ y)
within_difference {x = x} {y = y} W U = record { above = omega (arith, sum x (neg_ℤ y), negated y); below = omega (arith, sum x (neg_ℤ y), negated y) }

-- Two numbers from -m to 0 lie no further apart than m.
pub near_below_zero : {m : ℕ} {x y : ℤ} → x ≤ℤ pos 0 → pos 0 ≤ℤ (pos m +ℤ x) → y ≤ℤ pos 0 → pos 0 ≤ℤ (pos m +ℤ y) → Within m (x -ℤ y)
near_below_zero {m} {x} {y} h k i j = record {
  above = omega (arith, le→ h, le→ j, sum (pos m) y, sum x (neg_ℤ y), negated y);
  below = omega (arith, le→ i, le→ k, sum (pos m) x, sum x (neg_ℤ y), negated y);
}
