-- A closed square gives the largest choice: each row's lowest bound among zero and the constants.
use mathlib.Core.Path.{◌≡◌, ap, refl}
use mathlib.Core.Bool.{Bool, true, false, cond}
use mathlib.Core.List.{List, Memᴰ}
use mathlib.Core.Logic.{◌↔◌}
use Prim.Native.Nat.{ℕ, suc, ◌≤◌, ◌<◌, min}
use native.Mathlib.Omega.{arith}
use lib.IntN.{ℤ, pos, negsuc, ◌+ℤ◌}
use lib.Signed.{◌≤ℤ◌, lt_z, ≤ℤ_refl}
use Rattle.basis.specs.declared.Atom.{Atom}
use Rattle.basis.specs.Choices.{Choice}
use Rattle.integers.specs.Sides.{over, under}
use Rattle.integers.proofs.Linear.{le→, →le, sum}
use Rattle.integers.proofs.Order.{lt_z_true, lt_z_false, <→≤, ≤ℤ_trans, +ℤ_mono, by_sum, of_sum, by_order_lem, of_order}
use Rattle.bounds.specs.Squares.{Closed, Keeps, KeepsAll, Largest, values}
use Rattle.bounds.specs.Whole.{whole_bounds}
use Rattle.bounds.specs.Choices.{Placed, NearKept, SquareGives}
use Rattle.bounds.proofs.Lower.{lowest_all}
use Rattle.bounds.proofs.Values.{values_largest}

-- ---- the larger of two values

abbrev higher : ℤ → ℤ → ℤ
higher x y = cond (lt_z x y) y x

higher_left : (x y : ℤ) → x ≤ℤ higher x y
higher_left x y = go (lt_z x y) refl
  where
    go : (b : Bool) → lt_z x y ≡ b → x ≤ℤ cond b y x
    go true e = <→≤ (lt_z_true e)
    go false e = ≤ℤ_refl x

higher_right : (x y : ℤ) → y ≤ℤ higher x y
higher_right x y = go (lt_z x y) refl
  where
    go : (b : Bool) → lt_z x y ≡ b → y ≤ℤ cond b y x
    go true e = ≤ℤ_refl y
    go false e = lt_z_false e

-- What holds of both holds of the larger.
higher_both : (P : ℤ → Type 0) (x y : ℤ) → P x → P y → P (higher x y)
higher_both P x y h k = go (lt_z x y)
  where
    go : (b : Bool) → P (cond b y x)
    go true = k
    go false = h

-- Two choices of values, place by place the larger: it keeps every bound that both keep.
higher_keeps : (u w : ℕ → ℤ) (p q : ℕ) (c : ℤ) → Keeps whole_bounds u p q c → Keeps whole_bounds w p q c → Keeps whole_bounds (λ k. higher (u k) (w k)) p q c
higher_keeps u w p q c h k = higher_both (λ x. x ≤ℤ (c +ℤ higher (u q) (w q))) (u p) (w p)
    (≤ℤ_trans h (+ℤ_mono (≤ℤ_refl c) (higher_left (u q) (w q)))) (≤ℤ_trans k (+ℤ_mono (≤ℤ_refl c) (higher_right (u q) (w q))))

-- ---- the square's values

-- A choice keeps the order and every atom, said by sums.
module _ {constants : ℕ} {atoms : List Atom} {v : ℕ → ℤ} (C : Choice constants atoms v) where
  pub choice_rises : (i : ℕ) → 1 ≤ i → i < constants → Keeps whole_bounds v i (suc i) (negsuc 0)
  choice_rises i l h = by_order_lem (v i) (v (suc i)) (C.rising i l h)

  pub choice_keeps : (a : Atom) → Memᴰ a atoms → Keeps whole_bounds v a.p a.q a.c
  choice_keeps a k = by_sum (v a.p) (v a.q) a.c (C.every a k)

module _ (n far constants : ℕ) (atoms : List Atom) (d : ℕ → ℕ → ℤ) (fits : constants ≤ n) (placed : Placed constants atoms)
    (closed : Closed whole_bounds (suc n) d) (exact : (v : ℕ → ℤ) → KeepsAll whole_bounds (suc n) d v ↔ NearKept n far constants atoms v) where
  abbrev w : ℕ → ℤ
  w = values whole_bounds constants d

  w_largest : Largest whole_bounds (suc constants) d w
  w_largest = values_largest whole_bounds constants d (record {
    diagonal = λ i hi. closed.diagonal i (omega arith);
    through = λ i k j hi hk hj. closed.through i k j (omega arith) (omega arith) (omega arith);
  })

  -- A column of the square keeps it ..
  column : (q : ℕ) → q ≤ n → NearKept n far constants atoms (λ k. d k q)
  column q hq = (exact (λ k. d k q)).0 (λ k l hk hl. closed.through k l q hk hl (omega arith))

  -- .. so every bound that is kept stands in the square.
  stands : (p q : ℕ) (c : ℤ) → q ≤ n → Keeps whole_bounds (λ k. d k q) p q c → d p q ≤ℤ c
  stands p q c hq h = →le (d p q) c (omega (arith, le→ h, sum c (d q q), ap over (closed.diagonal q (omega arith)), ap under (closed.diagonal q (omega arith))))

  w_keeps : (p q : ℕ) (c : ℤ) → p ≤ constants → q ≤ constants → Keeps whole_bounds (λ k. d k q) p q c → Keeps whole_bounds w p q c
  w_keeps p q c hp hq h = ≤ℤ_trans (w_largest.keeps p q (omega arith) (omega arith)) (+ℤ_mono (stands p q c (omega arith) h) (≤ℤ_refl (w q)))

  w_rises : (i : ℕ) → 1 ≤ i → i < constants → Keeps whole_bounds w i (suc i) (negsuc 0)
  w_rises i l h = w_keeps i (suc i) (negsuc 0) (omega arith) (omega arith) ((column (suc i) (omega arith)).rising i l h)

  w_every : (a : Atom) → Memᴰ a atoms → Keeps whole_bounds w a.p a.q a.c
  w_every a k = let (p, q) = placed a k in w_keeps a.p a.q a.c p q ((column a.q (omega arith)).every a k)

  w_none_above : (i : ℕ) → i ≤ constants → w i ≤ℤ pos 0
  w_none_above i h = w_largest.low i (omega arith)

  w_choice : Choice constants atoms w
  w_choice = record {
    none_above = w_none_above;
    rising = λ i l h. of_order (w i) (w (suc i)) (w_rises i l h);
    every = λ a k. of_sum (w a.p) (w a.q) a.c (w_every a k);
  }

  -- None lies further down than `far`.
  w_near : (i : ℕ) → i ≤ constants → pos 0 ≤ℤ (pos far +ℤ w i)
  w_near i hi = lowest_all whole_bounds (λ x. pos 0 ≤ℤ (pos far +ℤ x)) (d i) constants (λ j hj. →le (pos 0) (pos far +ℤ d i j) (omega (
    arith,
    ap over (closed.diagonal i (omega arith)),
    ap under (closed.diagonal i (omega arith)),
    le→ (closed.through i j i (omega arith) (omega arith) (omega arith)),
    sum (d i j) (d j i),
    le→ (stands j i (pos far) (omega arith) ((column i (omega arith)).near j i (omega arith) (omega arith))),
    sum (pos far) (d i j),
  )))

  -- ---- no choice is larger

  module _ (u : ℕ → ℤ) (U : Choice constants atoms u) where
    -- The larger of the two; past the constants that of the last one, so that all lie near.
    abbrev raised : ℕ → ℤ
    raised k = higher (u (min k constants)) (w (min k constants))

    within : (k : ℕ) → k ≤ constants → min k constants ≡ k
    within k h = omega arith

    raised_keeps : (p q : ℕ) (c : ℤ) → p ≤ constants → q ≤ constants → Keeps whole_bounds u p q c → Keeps whole_bounds w p q c → Keeps whole_bounds raised p q c
    raised_keeps p q c hp hq h k = rw (within p hp, within q hq) (higher_keeps u w p q c h k)

    raised_none_above : (k : ℕ) → raised k ≤ℤ pos 0
    raised_none_above k = higher_both (λ x. x ≤ℤ pos 0) (u (min k constants)) (w (min k constants)) (U.none_above (min k constants) (omega arith)) (w_none_above (min k constants) (omega arith))

    raised_near : NearKept n far constants atoms raised
    raised_near = record {
      near = λ i j hi hj. ≤ℤ_trans (raised_none_above i) (≤ℤ_trans (w_near (min j constants) (omega arith)) (+ℤ_mono (≤ℤ_refl (pos far)) (higher_right (u (min j constants)) (w (min j constants)))));
      rising = λ i l h. raised_keeps i (suc i) (negsuc 0) (omega arith) (omega arith) (choice_rises U i l h) (w_rises i l h);
      every = λ a k. let (p, q) = placed a k in raised_keeps a.p a.q a.c p q (choice_keeps U a k) (w_every a k);
    }

    none_larger : (i : ℕ) → i ≤ constants → u i ≤ℤ w i
    none_larger i hi = ≤ℤ_trans (rw (within i hi) (higher_left (u i) (w i)))
        (w_largest.most raised (λ i j hi hj. (exact raised).1 raised_near i j (omega arith) (omega arith)) (λ i hi. raised_none_above i) i (omega arith))

pub square_gives : SquareGives
square_gives n far constants atoms d fits placed closed exact = record {
  choice = w_choice n far constants atoms d fits placed closed exact;
  largest = none_larger n far constants atoms d fits placed closed exact;
}
