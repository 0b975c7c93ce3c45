-- The lower of two bounds, and the lowest of many.
use mathlib.Core.Path.{◌≡◌, refl, sym, subst}
use mathlib.Core.Bool.{Bool, true, false, cond}
use mathlib.Core.Logic.{◌⊎◌, inl, inr, ⊎_elim}
use Prim.Native.Nat.{ℕ, zero, suc, ◌+◌, ◌≤◌, zero-le}
use native.Mathlib.Decide.{dec_le}
use native.Mathlib.Numerals.{add-one}
use native.Mathlib.Omega.{arith}
use Rattle.bounds.specs.Kinds.{Kind}
use Rattle.bounds.specs.Squares.{lower, lowest}

module _ (K : Kind) where
  pub lower_left : (x y : K.Bound) → K.AtMost (lower K x y) x
  lower_left x y = go (K.less x y) refl
    where
      go : (b : Bool) → K.less x y ≡ b → K.AtMost (cond b x y) x
      go true e = K.refl_most x
      go false e = K.less_no e

  pub lower_right : (x y : K.Bound) → K.AtMost (lower K x y) y
  lower_right x y = go (K.less x y) refl
    where
      go : (b : Bool) → K.less x y ≡ b → K.AtMost (cond b x y) y
      go true e = K.less_yes e
      go false e = K.refl_most y

  -- The lower is the old one where the new is no lower.
  pub lower_idle : (x y : K.Bound) → K.AtMost y x → lower K x y ≡ y
  lower_idle x y h = go (K.less x y) refl
    where
      go : (b : Bool) → K.less x y ≡ b → cond b x y ≡ y
      go true e = absurd (K.less_not e h)
      go false e = refl

  -- What holds of both holds of the lower.
  pub lower_both : (P : K.Bound → Type 0) (x y : K.Bound) → P x → P y → P (lower K x y)
  lower_both P x y h k = go (K.less x y)
    where
      go : (b : Bool) → P (cond b x y)
      go true = h
      go false = k

  pub lowest_least : (f : ℕ → K.Bound) (n i : ℕ) → i ≤ n → K.AtMost (lowest K f n) (f i)
  unfolding lowest
  lowest_least f zero i h = subst (λ j. K.AtMost (f zero) (f j)) (is_zero i h) (K.refl_most (f zero))
    where
      is_zero : (i : ℕ) → i ≤ 0 → 0 ≡ i
      is_zero i h = omega arith
  lowest_least f (suc n) i h = ⊎_elim
      (λ e. K.trans (lower_right (f (suc n)) (lowest K f n)) (lowest_least f n i e))
      (λ e. subst (λ j. K.AtMost (lowest K f (suc n)) (f j)) (sym e) (lower_left (f (suc n)) (lowest K f n)))
      (last i n h)
    where
      last : (i n : ℕ) → i ≤ suc n → (i ≤ n) ⊎ (i ≡ suc n)
      last i n h = elim (dec_le i n) [ yes e ↦ inl e | no e ↦ inr (omega arith) ]

  -- What holds of each holds of the lowest.
  pub lowest_all : (P : K.Bound → Type 0) (f : ℕ → K.Bound) (n : ℕ) → ((i : ℕ) → i ≤ n → P (f i)) → P (lowest K f n)
  unfolding lowest
  lowest_all P f zero h = h zero zero-le
  lowest_all P f (suc n) h = lower_both P (f (suc n)) (lowest K f n) (h (suc n) (omega arith)) (lowest_all P f n (λ i e. h i (omega arith)))

  -- One bound more
  pub lowest_more : (f : ℕ → K.Bound) (n : ℕ) → lowest K f (n + 1) ≡ lower K (f (n + 1)) (lowest K f n)
  unfolding lowest
  lowest_more f n = rw add-one refl
