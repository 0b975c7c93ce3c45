-- One bound put into a closed square: exact, and closed again unless it closes a chain below zero.
use mathlib.Core.Path.{◌≡◌, sym, ◌∙◌, subst}
use mathlib.Core.Bool.{false}
use Prim.Native.Nat.{ℕ, ◌<◌}
use Rattle.bounds.specs.Kinds.{Kind}
use Rattle.bounds.specs.Squares.{Square, Values, Keeps, KeepsAll, Closed, put, PutExact, PutNone, PutClosed}
use Rattle.bounds.proofs.Lower.{lower_left, lower_right, lower_both, lower_idle}

module _ (K : Kind) where
  infixl 60 ◌⊕◌
  infix 50 ◌≼◌
  abbrev ◌⊕◌ : K.Bound → K.Bound → K.Bound
  ◌⊕◌ = K.plus

  abbrev ◌≼◌ : K.Bound → K.Bound → Type 0
  ◌≼◌ = K.AtMost

  pub plus_nought_right : (a : K.Bound) → a ⊕ K.nought ≡ a
  plus_nought_right a = K.plus_comm a K.nought ∙ K.plus_nought a

  module _ (m : ℕ) (d : Square K) (C : Closed K m d) (p q : ℕ) (c : K.Bound) (hp : p < m) (hq : q < m) where
    put_keeps : (v : Values K) → KeepsAll K m d v → Keeps K v p q c → KeepsAll K m (put K d p q c) v
    put_keeps v h e i j hi hj = lower_both K (λ x. v i ≼ x ⊕ v j) (d i p ⊕ c ⊕ d q j) (d i j)
        (K.trans (h i p hi hp) (K.trans (K.add (K.refl_most (d i p)) (K.trans e (K.add (K.refl_most c) (h q j hq hj)))) by-new))
        (h i j hi hj)
      where
        by-new : d i p ⊕ (c ⊕ (d q j ⊕ v j)) ≼ d i p ⊕ c ⊕ d q j ⊕ v j
        by-new = simp K.plus_assoc (K.refl_most _)

    put_old : (v : Values K) → KeepsAll K m (put K d p q c) v → KeepsAll K m d v
    put_old v h i j hi hj = K.trans (h i j hi hj) (K.add (lower_right K (d i p ⊕ c ⊕ d q j) (d i j)) (K.refl_most (v j)))

    put_new : (v : Values K) → KeepsAll K m (put K d p q c) v → Keeps K v p q c
    put_new v h = K.trans (h p q hp hq) (K.add here (K.refl_most (v q)))
      where
        here : put K d p q c p q ≼ c
        here = subst (λ x. put K d p q c p q ≼ x) (simp (C.diagonal p hp, C.diagonal q hq, K.plus_nought, plus_nought_right))
            (lower_left K (d p p ⊕ c ⊕ d q q) (d p q))

    -- Closed again, where the chain through the new bound is not below zero.
    module _ (chain : K.less (c ⊕ d q p) K.nought ≡ false) where
      round : (k : ℕ) → k < m → K.nought ≼ c ⊕ (d q k ⊕ d k p)
      round k hk = K.trans (K.less_no chain) (K.add (K.refl_most c) (C.through q k p hq hk hp))

      -- Through the new bound twice: it goes round, which takes nothing off.
      through-twice : (i k j : ℕ) → k < m → d i p ⊕ c ⊕ d q j ≼ (d i p ⊕ c ⊕ d q k) ⊕ (d k p ⊕ c ⊕ d q j)
      through-twice i k j hk = subst (λ x. d i p ⊕ c ⊕ d q j ≼ x) (simp K.plus_assoc)
          (K.add (K.add (subst (λ x. x ≼ d i p ⊕ (c ⊕ (d q k ⊕ d k p))) (plus_nought_right (d i p)) (K.add (K.refl_most (d i p)) (round k hk))) (K.refl_most c)) (K.refl_most (d q j)))

      through-first : (i k j : ℕ) → k < m → j < m → d i p ⊕ c ⊕ d q j ≼ (d i p ⊕ c ⊕ d q k) ⊕ d k j
      through-first i k j hk hj = rw (K.plus_assoc (d i p ⊕ c) (d q k) (d k j)) (K.add (K.refl_most _) (C.through q k j hq hk hj))

      through-last : (i k j : ℕ) → i < m → k < m → d i p ⊕ c ⊕ d q j ≼ d i k ⊕ (d k p ⊕ c ⊕ d q j)
      through-last i k j hi hk = subst (λ x. d i p ⊕ c ⊕ d q j ≼ x) (simp K.plus_assoc)
          (K.add (K.add (C.through i k p hi hk hp) (K.refl_most c)) (K.refl_most (d q j)))

      -- From i round to i.
      around : (i : ℕ) → i < m → d i i ≼ d i p ⊕ c ⊕ d q i
      around i hi = rw (C.diagonal i hi) (subst (λ x. K.nought ≼ x) (turn (d i p) (d q i)) (round i hi))
        where
          turn : (a b : K.Bound) → c ⊕ (b ⊕ a) ≡ a ⊕ c ⊕ b
          turn a b = sym (K.plus_assoc c b a) ∙ K.plus_comm (c ⊕ b) a ∙ sym (K.plus_assoc a c b)

      closed-again : Closed K m (put K d p q c)
      closed-again = record {
        diagonal = λ i hi. K.antisym (lower_right K _ _) (lower_both K (λ x. d i i ≼ x) (d i p ⊕ c ⊕ d q i) (d i i) (around i hi) (K.refl_most _)) ∙ C.diagonal i hi;
        through = λ i k j hi hk hj. lower_both K (λ x. put K d p q c i j ≼ x ⊕ put K d p q c k j) (d i p ⊕ c ⊕ d q k) (d i k)
            (lower_both K (λ y. put K d p q c i j ≼ (d i p ⊕ c ⊕ d q k) ⊕ y) (d k p ⊕ c ⊕ d q j) (d k j)
            (K.trans (lower_left K _ _) (through-twice i k j hk)) (K.trans (lower_left K _ _) (through-first i k j hk hj)))
            (lower_both K (λ y. put K d p q c i j ≼ d i k ⊕ y) (d k p ⊕ c ⊕ d q j) (d k j)
            (K.trans (lower_left K _ _) (through-last i k j hi hk)) (K.trans (lower_right K _ _) (C.through i k j hi hk hj)));
      }

  pub put_exact : PutExact K
  put_exact m d C p q c hp hq v = (λ h. (put_old m d C p q c hp hq v h, put_new m d C p q c hp hq v h), λ h. put_keeps m d C p q c hp hq v h.0 h.1)

  pub put_none : PutNone K
  put_none m d p q c hp hq chain v h e = K.less_not chain (K.cancel (v p) (rw (K.plus_nought (v p), K.plus_assoc c (d q p) (v p)) (K.trans e (K.add (K.refl_most c) (h q p hq hp)))))

  pub put_closed : PutClosed K
  put_closed m d C p q c hp hq chain = closed-again m d C p q c hp hq chain

  -- A bound that the square has already leaves it as it is.
  pub put_had : (m : ℕ) (d : Square K) → Closed K m d → (p q : ℕ) (c : K.Bound) → p < m → q < m → d p q ≼ c → (i j : ℕ) → i < m → j < m →
      put K d p q c i j ≡ d i j
  put_had m d C p q c hp hq h i j hi hj = lower_idle K (d i p ⊕ c ⊕ d q j) (d i j)
      (K.trans (C.through i q j hi hq hj) (K.add (K.trans (C.through i p q hi hp hq) (K.add (K.refl_most (d i p)) h)) (K.refl_most (d q j))))
