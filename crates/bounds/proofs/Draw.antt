-- Whole values drawn together: each value is read as a depth below the highest, and the depths are drawn together.
use mathlib.Core.Path.{◌≡◌, ap, sym}
use Prim.Native.Nat.{ℕ, suc, ◌+◌, ◌-◌, ◌*◌, ◌≤◌, ◌<◌}
use native.Mathlib.Omega.{arith}
use lib.IntN.{ℤ, pos, negsuc, neg_ℤ, ◌+ℤ◌, neg_ℤ-neg_ℤ}
use lib.Signed.{◌≤ℤ◌}
use Rattle.integers.specs.Sides.{over, under, Within}
use Rattle.integers.proofs.Linear.{le→, →le, sum, negated}
use Rattle.bounds.specs.Whole.{Together, Drawn, whole_bounds}
use Rattle.bounds.specs.Squares.{Keeps, lowest}
use Rattle.bounds.proofs.Lower.{lowest_least, lowest_all}
use Rattle.bounds.proofs.Depths.{counted, counted_less, counted_most, counted_step, counted_rises, counted_steep}

module _ (m b : ℕ) (v : ℕ → ℤ) where
  -- The highest value of the places
  top : ℤ
  top = neg_ℤ (lowest whole_bounds (λ i. neg_ℤ (v i)) (m - 1))

  top_most : (i : ℕ) → i < m → v i ≤ℤ top
  unfolding top
  top_most i h = →le (v i) top (omega (arith, le→ (lowest_least whole_bounds (λ i. neg_ℤ (v i)) (m - 1) i (omega arith)), negated (v i), negated (lowest whole_bounds (λ i. neg_ℤ (v i)) (m - 1))))

  top_reached : (i : ℕ) × (i ≤ m - 1) × (v i ≡ top)
  unfolding top
  top_reached = lowest_all whole_bounds (λ x. (i : ℕ) × (i ≤ m - 1) × (v i ≡ neg_ℤ x)) (λ i. neg_ℤ (v i)) (m - 1) (λ i h. (i, h, sym (neg_ℤ-neg_ℤ (v i))))

  depth : ℕ → ℕ
  depth i = (over top + under (v i)) - (under top + over (v i))

  depth_is : (i : ℕ) → i < m → depth i + (under top + over (v i)) ≡ over top + under (v i)
  unfolding depth
  depth_is i h = omega (arith, le→ (top_most i h))

  low : ℕ → ℕ
  low i = counted b depth m (depth i)

  keeps_low : (p q : ℕ) (c : ℤ) → p < m → Within b c → depth q + under c ≤ over c + depth p → low q + under c ≤ over c + low p
  unfolding low
  keeps_low p q (pos a) hp W h = omega (arith, counted_rises b depth m (depth q) (depth p + a) (omega arith), counted_step b depth m (depth p) a)
  keeps_low p q (negsuc a) hp W h =
      omega (arith, counted_rises b depth m (depth q) (depth p - suc a) (omega arith), counted_steep b depth m p (depth p - suc a) (suc a) hp (omega arith) (omega (arith, W.below)))

  pub draw : ℕ → ℤ
  draw i = neg_ℤ (pos (low i))

  draw_is : (i : ℕ) → (over (draw i) ≡ 0) × (under (draw i) ≡ low i)
  unfolding draw
  draw_is i = negated (pos (low i))

  pub together : Together m b v draw
  unfolding low
  together = record {
    kept = λ p q c hp hq W h. →le (draw p) (c +ℤ draw q) (omega (
      arith,
      sum c (draw q),
      draw_is p,
      draw_is q,
      keeps_low p q c hp W (omega (arith, le→ h, sum c (v q), depth_is p hp, depth_is q hq)),
    ));
    near = λ i j. →le (draw i) (pos (m * b) +ℤ draw j) (omega (arith, sum (pos (m * b)) (draw j), draw_is i, draw_is j, counted_most b depth m (depth j)));
  }

  -- The highest place needs no share of its own.
  pub nearer : 0 < m → (i j : ℕ) → Keeps whole_bounds draw i j (pos (m * b - b))
  unfolding low depth
  nearer h i j = let (t, l, e) = top_reached in →le (draw i) (pos (m * b - b) +ℤ draw j) (omega (
    arith,
    sum (pos (m * b - b)) (draw j),
    draw_is i,
    draw_is j,
    counted_less b depth m (depth j) t (omega arith) (omega (arith, ap over e, ap under e)),
  ))

pub drawn : Drawn
drawn m b v = (draw m b v, together m b v)
