-- Squares of bounds between every two of m places, what it means to keep one, and what is proved of them (the named statements).
-- The entry d i j bounds value i - value j; since bounds are only added, that is said as value i ≼ d i j ⊕ value j.
use Rattle.std.specs.Prelude.{◌≡◌, true, false, cond, ◌↔◌, ℕ, zero, suc, ◌<◌}
use Rattle.bounds.specs.Kinds.{Kind}

module _ (K : Kind) where
  infixl 60 ◌⊕◌
  infix 50 ◌≼◌
  abbrev ◌⊕◌ : K.Bound → K.Bound → K.Bound
  ◌⊕◌ = K.plus

  abbrev ◌≼◌ : K.Bound → K.Bound → Type 0
  ◌≼◌ = K.AtMost

  abbrev pub Square : Type 0
  Square = ℕ → ℕ → K.Bound

  -- A value for each place.
  abbrev pub Values : Type 0
  Values = ℕ → K.Bound

  -- value p - value q is at most c.
  abbrev pub Keeps : Values → ℕ → ℕ → K.Bound → Type 0
  Keeps v p q c = v p ≼ c ⊕ v q

  -- Every bound of the square is kept.
  abbrev pub KeepsAll : ℕ → Square → Values → Type 0
  KeepsAll m d v = (i j : ℕ) → i < m → j < m → Keeps v i j (d i j)

  -- Each bound is at most any that goes through a third place: nothing follows from the square that does not stand in it.
  pub record Closed (m : ℕ) (d : Square) : Type 0 where
    pub diagonal : (i : ℕ) → i < m → d i i ≡ K.nought
    pub through : (i k j : ℕ) → i < m → k < m → j < m → d i j ≼ d i k ⊕ d k j

  abbrev pub lower : K.Bound → K.Bound → K.Bound
  lower x y = cond (K.less x y) x y

  -- The square with value p - value q at most c put in: each bound lowered to the one that goes by the new.
  abbrev pub put : Square → ℕ → ℕ → K.Bound → Square
  put d p q c i j = lower (d i p ⊕ c ⊕ d q j) (d i j)

  -- The lowest of f 0, .., f n.
  unfoldable pub lowest : (ℕ → K.Bound) → ℕ → K.Bound
  lowest f zero = f zero
  lowest f (suc n) = lower (f (suc n)) (lowest f n)

  -- The values of a square of the places 0 to n: each row's lowest bound.
  abbrev pub values : ℕ → Square → Values
  values n d i = lowest (d i) n

  -- Of all that keep the square and exceed zero nowhere, the largest.
  pub record Largest (m : ℕ) (d : Square) (w : Values) : Type 0 where
    pub keeps : KeepsAll m d w
    pub low : (i : ℕ) → i < m → w i ≼ K.nought
    pub most : (v : Values) → KeepsAll m d v → ((i : ℕ) → i < m → v i ≼ K.nought) → (i : ℕ) → i < m → v i ≼ w i

  -- A bound put in says no more and no less: proved in proofs/Put.antt, with the next two.
  abbrev pub PutExact : Type 0
  PutExact = (m : ℕ) (d : Square) → Closed m d → (p q : ℕ) (c : K.Bound) → p < m → q < m → (v : Values) →
      KeepsAll m (put d p q c) v ↔ (KeepsAll m d v × Keeps v p q c)

  -- Where the new bound closes a chain below zero, no values keep both.
  abbrev pub PutNone : Type 0
  PutNone = (m : ℕ) (d : Square) (p q : ℕ) (c : K.Bound) → p < m → q < m → K.less (c ⊕ d q p) K.nought ≡ true →
      (v : Values) → KeepsAll m d v → ¬ Keeps v p q c

  -- Where it does not, the new square is closed again.
  abbrev pub PutClosed : Type 0
  PutClosed = (m : ℕ) (d : Square) → Closed m d → (p q : ℕ) (c : K.Bound) → p < m → q < m → K.less (c ⊕ d q p) K.nought ≡ false →
      Closed m (put d p q c)

  -- A closed square's values are the largest that keep it and exceed zero nowhere: proved in proofs/Values.antt, with the next two.
  abbrev pub ValuesLargest : Type 0
  ValuesLargest = (n : ℕ) (d : Square) → Closed (suc n) d → Largest (suc n) d (values n d)

  -- The largest are unique.
  abbrev pub LargestUnique : Type 0
  LargestUnique = (m : ℕ) (d : Square) (v w : Values) → Largest m d v → Largest m d w → (i : ℕ) → i < m → v i ≡ w i

  -- Two closed squares that are kept by the same values are equal, bound by bound.
  abbrev pub ClosedUnique : Type 0
  ClosedUnique = (m : ℕ) (d e : Square) → Closed m d → Closed m e → ((v : Values) → KeepsAll m d v ↔ KeepsAll m e v) →
      (i j : ℕ) → i < m → j < m → d i j ≡ e i j
