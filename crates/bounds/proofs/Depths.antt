-- Depths, as naturals, of so many places, drawn together: of the depths below x only those are counted that lie within b above some place.
-- The count rises with x by at most 1 a step, by 1 at each of the b steps above a place, and never beyond b for each place.
use mathlib.Core.Path.{◌≡◌, refl, sym, ap, subst}
use Prim.Native.Nat.{ℕ, zero, suc, ◌+◌, ◌-◌, ◌*◌, ◌≤◌, ◌<◌, min, max}
use native.Mathlib.Decide.{dec_lt}
use native.Mathlib.Nat.{add-zero, add-suc, suc-mul}
use native.Mathlib.Omega.{arith}

-- How many of the depths below x lie within b above the depth e.
share : ℕ → ℕ → ℕ → ℕ
share b e x = min x e - (e - b)

share_most : (b e x : ℕ) → share b e x ≤ b
unfolding share
share_most b e x = omega arith

share_step : (b e t : ℕ) → (share b e t ≤ share b e (suc t)) × (share b e (suc t) ≤ share b e t + 1)
unfolding share
share_step b e t = (omega arith, omega arith)

share_steep : (b e t : ℕ) → t < e → e ≤ t + b → share b e (suc t) ≡ share b e t + 1
unfolding share
share_steep b e t h k = omega arith

-- 1 if the depth t is one of these, else 0.
abbrev counts : ℕ → ℕ → ℕ → ℕ
counts b e t = share b e (suc t) - share b e t

same : (i k : ℕ) → i < suc k → k ≤ i → i ≡ k
same i k h e = omega arith

module _ (b : ℕ) (depth : ℕ → ℕ) where
  -- 1 if the depth t lies within b above one of the first k places, else 0.
  some : ℕ → ℕ → ℕ
  some zero t = 0
  some (suc k) t = max (counts b (depth k) t) (some k t)

  some_most : (k t : ℕ) → some k t ≤ 1
  unfolding some
  some_most zero t = omega arith
  some_most (suc k) t = omega (arith, some_most k t, share_step b (depth k) t)

  some_of : (k t i : ℕ) → i < k → counts b (depth i) t ≤ some k t
  unfolding some
  some_of zero t i h = absurd (omega arith)
  some_of (suc k) t i h = elim (dec_lt i k) [ yes e ↦ omega (arith, some_of k t i e) | no e ↦ omega (arith, ap (λ (n : ℕ). counts b (depth n) t) (same i k h (omega arith))) ]

  -- How many of the depths below x are counted.
  pub counted : ℕ → ℕ → ℕ
  counted k zero = 0
  counted k (suc x) = counted k x + some k x

  counted_one_more : (k x : ℕ) → counted (suc k) x ≤ counted k x + share b (depth k) x
  unfolding counted some
  counted_one_more k zero = omega arith
  counted_one_more k (suc x) = omega (arith, counted_one_more k x, share_step b (depth k) x)

  counted_none : (x : ℕ) → counted 0 x ≡ 0
  unfolding counted some
  counted_none zero = refl
  counted_none (suc x) = omega (arith, counted_none x)

  pub counted_most : (k x : ℕ) → counted k x ≤ k * b
  counted_most zero x = omega (arith, counted_none x)
  counted_most (suc k) x = omega (arith, counted_one_more k x, counted_most k x, share_most b (depth k) x, suc-mul k b)

  -- A place that is not deep at all needs no b of its own.
  pub counted_less : (k x i : ℕ) → i < k → depth i ≡ 0 → counted k x + b ≤ k * b
  unfolding share
  counted_less zero x i h e = absurd (omega arith)
  counted_less (suc k) x i h e = elim (dec_lt i k) [
    | yes l ↦ omega (arith, counted_one_more k x, counted_less k x i l e, share_most b (depth k) x, suc-mul k b)
    | no l ↦ omega (arith, counted_one_more k x, counted_most k x, ap depth (same i k h (omega arith)), suc-mul k b)
  ]

  pub counted_step : (k x a : ℕ) → (counted k x ≤ counted k (x + a)) × (counted k (x + a) ≤ counted k x + a)
  unfolding counted
  counted_step k x zero = rw (add-zero x) (omega arith, omega arith)
  counted_step k x (suc a) = rw (add-suc x a) (omega (arith, counted_step k x a), omega (arith, counted_step k x a, some_most k (x + a)))

  pub counted_rises : (k x y : ℕ) → x ≤ y → counted k x ≤ counted k y
  counted_rises k x y h = subst (λ (n : ℕ). counted k x ≤ counted k n) (back x y h) (counted_step k x (y - x)).0
    where
      back : (x y : ℕ) → x ≤ y → x + (y - x) ≡ y
      back x y h = omega arith

  -- Just above a place every step counts.
  pub counted_steep : (k i y a : ℕ) → i < k → y + a ≡ depth i → a ≤ b → counted k y + a ≤ counted k (depth i)
  unfolding counted
  counted_steep k i y a hi e h = subst (λ (n : ℕ). counted k y + a ≤ counted k n) e (go a y e h)
    where
      go : (a y : ℕ) → y + a ≡ depth i → a ≤ b → counted k y + a ≤ counted k (y + a)
      go zero y e h = rw (add-zero y) (omega arith)
      go (suc a) y e h = subst (λ (n : ℕ). counted k y + suc a ≤ counted k n) (sym (shift y a)) (omega (arith, go a (suc y) (omega arith) (omega arith), some_of k y i hi, share_steep b (depth i) y (omega arith) (omega arith)))
        where
          shift : (y a : ℕ) → y + suc a ≡ suc y + a
          shift y a = omega arith
