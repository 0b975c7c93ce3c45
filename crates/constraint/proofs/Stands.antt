-- A row that stays as it is; and a square that stands for Q: a bound that can not be put in, and one that is.
use mathlib.Core.Path.{◌≡◌, sym, ap, subst}
use mathlib.Core.Bool.{true, false}
use mathlib.Core.List.{List}
use mathlib.Core.Logic.{◌↔◌}
use Prim.Native.Nat.{ℕ, ◌+◌, ◌≤◌, ◌<◌}
use native.Mathlib.Omega.{arith}
use lib.IntN.{ℤ, pos, ◌+ℤ◌}
use lib.Signed.{◌≤ℤ◌, lt_z, ≤ℤ_refl}
use Rattle.integers.specs.Sides.{over, under, Within}
use Rattle.integers.proofs.Linear.{le→, sum}
use Rattle.integers.proofs.Order.{≤ℤ_trans, +ℤ_mono}
use Rattle.bounds.specs.Whole.{whole_bounds}
use Rattle.bounds.specs.Squares.{Keeps, Closed, lower, put}
use Rattle.bounds.proofs.Lower.{lower_right, lower_idle}
use Rattle.bounds.proofs.Put.{put_exact, put_none, put_closed}
use Rattle.bounds.proofs.Same.{closed_same, keeps_same}
use Rattle.constraint.specs.Square.{places, far, entry, Sound, Stands}

-- A row of a sound square to which nothing lower comes at q.
pub row_stays : {t : List (List ℤ)} → Sound t → (i q : ℕ) (start : ℤ) → i < places → q < places → entry t i q ≤ℤ start →
    (j : ℕ) → j < places → entry t i j ≡ lower whole_bounds (start +ℤ entry t q j) (entry t i j)
row_stays {t} S i q start hi hq h j hj = sym (lower_idle whole_bounds (start +ℤ entry t q j) (entry t i j) (≤ℤ_trans (S.closed.through i q j hi hq hj) (+ℤ_mono h (≤ℤ_refl (entry t q j)))))

-- The same square, said in another way.
pub stands_as : {Q R : (ℕ → ℤ) → Type 0} {t : List (List ℤ)} → Stands Q t → ((v : ℕ → ℤ) → Q v ↔ R v) → Stands R t
stands_as S f = record { sound = S.sound; exact = λ v. (λ h. (f v).0 ((S.exact v).0 h), λ h. (S.exact v).1 ((f v).1 h)) }

module _ (Q : (ℕ → ℤ) → Type 0) (t : List (List ℤ)) (S : Stands Q t) where
  module _ (p q : ℕ) (c : ℤ) (hp : p < places) (hq : q < places) where
    -- A bound that closes a chain below zero is kept by no values.
    pub stands_none : lt_z (c +ℤ entry t q p) (pos 0) ≡ true → (v : ℕ → ℤ) → Q v → ¬ Keeps whole_bounds v p q c
    stands_none e v h = put_none whole_bounds places (entry t) p q c hp hq e v ((S.exact v).1 h)

    module _ (r : List (List ℤ)) (is : (i j : ℕ) → i < places → j < places → entry r i j ≡ put whole_bounds (entry t) p q c i j) (chain : lt_z (c +ℤ entry t q p) (pos 0) ≡ false) where
      closed : Closed whole_bounds places (entry r)
      closed = closed_same whole_bounds places (put whole_bounds (entry t) p q c) (entry r) is (put_closed whole_bounds places (entry t) S.sound.closed p q c hp hq chain)

      no-higher : (i j : ℕ) → i < places → j < places → entry r i j ≤ℤ entry t i j
      no-higher i j hi hj = subst (λ (x : ℤ). x ≤ℤ entry t i j) (sym (is i j hi hj)) (lower_right whole_bounds ((entry t i p +ℤ c) +ℤ entry t q j) (entry t i j))

      above : (i j : ℕ) → i < places → j < places → over (entry r i j) ≤ far + under (entry r i j)
      above i j hi hj = omega (arith, le→ (no-higher i j hi hj), S.sound.small i j hi hj)

      -- What bounds value j - value i above bounds value i - value j below: round by i and j is zero at least.
      small : (i j : ℕ) → i < places → j < places → Within far (entry r i j)
      small i j hi hj = record {
        above = above i j hi hj;
        below = omega (arith, above j i hj hi, le→ (closed.through i j i hi hj hi), sum (entry r i j) (entry r j i), ap over (closed.diagonal i hi), ap under (closed.diagonal i hi));
      }

      pub stands-put : Stands (λ v. Q v × Keeps whole_bounds v p q c) r
      stands-put = record {
        sound = record { closed = closed; small = small };
        exact = λ v. let same = keeps_same whole_bounds places (put whole_bounds (entry t) p q c) (entry r) is v in
            let new = put_exact whole_bounds places (entry t) S.sound.closed p q c hp hq v in
            (λ h. let both = new.0 (same.0 h) in ((S.exact v).0 both.0, both.1), λ h. same.1 (new.1 ((S.exact v).1 h.0, h.1)));
      }
