-- The values of a closed square, and what is unique: the largest values, and the closed square itself.
use mathlib.Core.Path.{◌≡◌, subst}
use Prim.Native.Nat.{ℕ, ◌<◌}
use native.Mathlib.Omega.{arith}
use Rattle.bounds.specs.Kinds.{Kind}
use Rattle.bounds.specs.Squares.{Square, Values, KeepsAll, Closed, values, ValuesLargest, LargestUnique, ClosedUnique}
use Rattle.bounds.proofs.Lower.{lowest_least, lowest_all}
use Rattle.bounds.proofs.Put.{plus_nought_right}

module _ (K : Kind) where
  pub values_largest : ValuesLargest K
  values_largest n d C = record {
    keeps = λ i j hi hj. lowest_all K (λ x. K.AtMost (values K n d i) (K.plus (d i j) x)) (d j) n
        (λ k hk. K.trans (lowest_least K (d i) n k hk) (C.through i j k hi hj (omega arith)));
    low = λ i hi. subst (K.AtMost (values K n d i)) (C.diagonal i hi) (lowest_least K (d i) n i (omega arith));
    most = λ v h low i hi. lowest_all K (K.AtMost (v i)) (d i) n
        (λ k hk. K.trans (h i k hi (omega arith))
        (subst (K.AtMost (K.plus (d i k) (v k))) (plus_nought_right K (d i k)) (K.add (K.refl_most (d i k)) (low k (omega arith)))));
  }

  pub largest_unique : LargestUnique K
  largest_unique m d v w L M i hi = K.antisym (M.most v L.keeps L.low i hi) (L.most w M.keeps M.low i hi)

  -- A column of a closed square keeps it; so it keeps every square that the same values keep.
  below : (m : ℕ) (d e : Square K) → Closed K m d → ((v : Values K) → KeepsAll K m d v → KeepsAll K m e v) → (i j : ℕ) → i < m → j < m → K.AtMost (d i j) (e i j)
  below m d e C f i j hi hj = subst (K.AtMost (d i j)) (ap-nought (d j j) (C.diagonal j hj)) (f (λ k. d k j) (λ k l hk hl. C.through k l j hk hl hj) i j hi hj)
    where
      ap-nought : (x : K.Bound) → x ≡ K.nought → K.plus (e i j) x ≡ e i j
      ap-nought x h = rw h (plus_nought_right K (e i j))

  pub closed_unique : ClosedUnique K
  closed_unique m d e C D f i j hi hj = K.antisym (below m d e C (λ v. (f v).0) i j hi hj) (below m e d D (λ v. (f v).1) i j hi hj)
