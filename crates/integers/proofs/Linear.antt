-- Orders, sums and negation of whole numbers as facts of naturals: any linear goal over ℤ closes by
-- `→le _ _ (omega (arith, le→ h, sum a b, ..))`, with a `le→` or `lt→` for each fact and a `sum` for each sum that stands in it.
use mathlib.Core.Path.{◌≡◌, refl, ap}
use mathlib.Core.Bool.{Bool, true, false, not, cond}
use Prim.Native.Nat.{ℕ, zero, suc, ◌+◌, ◌-◌, ◌≤◌, ◌<◌}
use native.Mathlib.Omega.{arith}
use lib.Dec.{T, ltb, ltb→lt, nltb→le, leb→le, le→leb, lt→ltb}
use lib.IntN.{ℤ, pos, negsuc, neg_ℤ, sub_ℕ, ◌+ℤ◌}
use lib.Signed.{◌≤ℤ◌, ◌<ℤ◌, mag, le_z_yes, lt_z_yes}
use Rattle.integers.specs.Sides.{over, under}

pub le→ : {a b : ℤ} → a ≤ℤ b → over a + under b ≤ over b + under a
le→ {a = pos a} {b = pos b} h = omega (arith, leb→le a b h.le)
le→ {a = pos a} {b = negsuc b} h = absurd h.le
le→ {a = negsuc a} {b = pos b} h = omega arith
le→ {a = negsuc a} {b = negsuc b} h = omega (arith, leb→le b a h.le)

pub lt→ : {a b : ℤ} → a <ℤ b → over a + under b < over b + under a
lt→ {a = pos a} {b = pos b} h = omega (arith, ltb→lt a b h.lt)
lt→ {a = pos a} {b = negsuc b} h = absurd h.lt
lt→ {a = negsuc a} {b = pos b} h = omega arith
lt→ {a = negsuc a} {b = negsuc b} h = omega (arith, ltb→lt b a h.lt)

pub →le : (a b : ℤ) → over a + under b ≤ over b + under a → a ≤ℤ b
→le (pos a) (pos b) h = le_z_yes (le→leb a b (omega arith))
→le (pos a) (negsuc b) h = absurd (omega arith)
→le (negsuc a) (pos b) h = le_z_yes tt
→le (negsuc a) (negsuc b) h = le_z_yes (le→leb b a (omega arith))

pub →lt : (a b : ℤ) → over a + under b < over b + under a → a <ℤ b
→lt (pos a) (pos b) h = lt_z_yes (lt→ltb a b (omega arith))
→lt (pos a) (negsuc b) h = absurd (omega arith)
→lt (negsuc a) (pos b) h = lt_z_yes tt
→lt (negsuc a) (negsuc b) h = lt_z_yes (lt→ltb b a (omega arith))

pub →eq : (a b : ℤ) → over a + under b ≡ over b + under a → a ≡ b
→eq (pos a) (pos b) h = ap pos (omega arith)
→eq (pos a) (negsuc b) h = absurd (omega arith)
→eq (negsuc a) (pos b) h = absurd (omega arith)
→eq (negsuc a) (negsuc b) h = ap negsuc (omega arith)

-- A difference of naturals.
sub_is : (a b : ℕ) → over (sub_ℕ a b) + b ≡ a + under (sub_ℕ a b)
sub_is a b = go (ltb a b) (λ t. ltb→lt a b t) (λ t. nltb→le a b t)
  where
    go : (c : Bool) → (T c → a < b) → (T (not c) → b ≤ a) → over (cond c (negsuc (b - suc a)) (pos (a - b))) + b ≡ a + under (cond c (negsuc (b - suc a)) (pos (a - b)))
    go true f g = omega (arith, f tt)
    go false f g = omega (arith, g tt)

-- A sum of whole numbers.
pub sum : (a b : ℤ) → over (a +ℤ b) + (under a + under b) ≡ (over a + over b) + under (a +ℤ b)
sum (pos a) (pos b) = omega arith
sum (pos a) (negsuc b) = omega (arith, sub_is a (suc b))
sum (negsuc a) (pos b) = omega (arith, sub_is b (suc a))
sum (negsuc a) (negsuc b) = omega arith

-- Negation exchanges the two sides.
pub negated : (a : ℤ) → (over (neg_ℤ a) ≡ under a) × (under (neg_ℤ a) ≡ over a)
negated (pos zero) = (refl, refl)
negated (pos (suc n)) = (refl, refl)
negated (negsuc n) = (refl, refl)

-- A range on both sides bounds the magnitude.
pub →mag : (z : ℤ) (m most : ℕ) → over z ≤ m + under z → under z ≤ m + over z → m < most → mag z < most
→mag (pos n) m most h k l = omega arith
→mag (negsuc n) m most h k l = omega arith
