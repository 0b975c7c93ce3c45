-- The square of the order alone is closed, and says what the order says.
use mathlib.Core.Path.{◌≡◌, refl, sym, ap, ap₂, ◌∙◌, subst}
use mathlib.Core.Bool.{Bool, true, false, cond, ◌&&◌}
use mathlib.Core.List.{List}
use Prim.Native.Nat.{ℕ, zero, suc, ◌+◌, ◌-◌, ◌≤◌, ◌<◌}
use native.Mathlib.Decide.{ℕ_discrete, dec_lt}
use native.Mathlib.Omega.{arith}
use lib.Dec.{leb, ltb, lit<}
use lib.IntN.{ℤ, pos, negsuc, neg_ℤ, ◌+ℤ◌, ◌-ℤ◌}
use mir.Syntax.{w64}
use mir.Val.{to_z, of_z, SFits}
use mir.Facts.{to_z-of_z, to_z_pos}
use borrow.Author.Tests.{eq-eqb, ne_eqb, le-leb, lt-leb, lt-ltb, leb-true, ltb-true}
use Rattle.basis.specs.Limits.{most_constants}
use Rattle.integers.specs.Sides.{over, under, Within}
use Rattle.integers.proofs.Linear.{le→, →le, sum, negated}
use Rattle.integers.proofs.Machine.{fits_of}
use Rattle.bounds.specs.Whole.{whole_bounds}
use Rattle.bounds.specs.Squares.{Keeps, KeepsAll, Closed}
use Rattle.bounds.proofs.Same.{closed_same, keeps_same}
use Rattle.constraint.specs.Square.{places, far, entry, Stands, Ordered, stand_after, stand_before, by_order}

-- The bound at two different places, by its sides: as the order has it, or far less two counts.
data Apart (n i j : ℕ) : Type 0 where
  rising : 1 ≤ i → i < j → j ≤ n → over (by_order n i j) + j ≡ i + under (by_order n i j) → Apart n i j
  other : (1 ≤ i → i < j → j ≤ n → ⊥) → over (by_order n i j) + (stand_after n i + stand_before n j) ≡ far + under (by_order n i j) → Apart n i j

pub on_diagonal : (n i j : ℕ) → i ≡ j → by_order n i j ≡ pos 0
unfolding by_order
on_diagonal n i j e = simp (eq-eqb i j e)

pub as_ordered : (n i j : ℕ) → 1 ≤ i → i < j → j ≤ n → by_order n i j ≡ (pos i -ℤ pos j)
unfolding by_order
as_ordered n i j h k l = simp (ne_eqb i j (omega arith), le-leb 1 i h, lt-ltb i j k, le-leb j n l)

pub after_of : (n i : ℕ) → 1 ≤ i → stand_after n i ≡ n - i
after_of n i h = ap (λ (b : Bool). cond b (n - i) 0) (le-leb 1 i h)

pub after_none : (n i : ℕ) → i < 1 → stand_after n i ≡ 0
after_none n i h = ap (λ (b : Bool). cond b (n - i) 0) (lt-leb 1 i h)

pub before_of : (n j : ℕ) → j ≤ n → stand_before n j ≡ j - 1
before_of n j h = ap (λ (b : Bool). cond b (j - 1) 0) (le-leb j n h)

pub before_none : (n j : ℕ) → n < j → stand_before n j ≡ 0
before_none n j h = ap (λ (b : Bool). cond b (j - 1) 0) (lt-leb j n h)

pub after_most : (n i : ℕ) → stand_after n i ≤ n
after_most n i = elim (dec_lt i 1) [ yes e ↦ omega (arith, after_none n i e) | no e ↦ omega (arith, after_of n i (omega arith)) ]

pub before_most : (n j : ℕ) → stand_before n j ≤ n
before_most n j = elim (dec_lt n j) [ yes e ↦ omega (arith, before_none n j e) | no e ↦ omega (arith, before_of n j (omega arith)) ]

pub as_far : (n i j : ℕ) → ¬ (i ≡ j) → (1 ≤ i → i < j → j ≤ n → ⊥) → by_order n i j ≡ (pos far -ℤ pos (stand_after n i + stand_before n j))
unfolding by_order
as_far n i j e h = ap (λ (b : Bool). cond b (pos 0) (cond (leb 1 i && ltb i j && leb j n) (pos i -ℤ pos j) (pos far -ℤ pos (stand_after n i + stand_before n j)))) (ne_eqb i j e)
    ∙ go (leb 1 i) (ltb i j) (leb j n) (leb-true 1 i) (ltb-true i j) (leb-true j n)
  where
    go : (a b c : Bool) → (a ≡ true → 1 ≤ i) → (b ≡ true → i < j) → (c ≡ true → j ≤ n) →
        cond (a && b && c) (pos i -ℤ pos j) (pos far -ℤ pos (stand_after n i + stand_before n j)) ≡ (pos far -ℤ pos (stand_after n i + stand_before n j))
    go true true true x y z = absurd (h (x refl) (y refl) (z refl))
    go true true false x y z = refl
    go true false c x y z = refl
    go false b c x y z = refl

module _ (n : ℕ) (few : n ≤ most_constants) where
  apart : (i j : ℕ) → ¬ (i ≡ j) → Apart n i j
  apart i j e = elim (dec_lt 0 i) [
    | yes h ↦ elim (dec_lt i j) [
      | yes k ↦ elim (dec_lt n j) [ yes l ↦ far-off (λ a b c. omega arith) | no l ↦ in_row h k (omega arith) ]
      | no k ↦ far-off (λ a b c. omega arith)
    ]
    | no h ↦ far-off (λ a b c. omega arith)
  ]
    where
      difference : 1 ≤ i → i < j → j ≤ n → by_order n i j ≡ (pos i +ℤ neg_ℤ (pos j))
      difference h k l = as_ordered n i j h k l

      distance : (1 ≤ i → i < j → j ≤ n → ⊥) → by_order n i j ≡ (pos far +ℤ neg_ℤ (pos (stand_after n i + stand_before n j)))
      distance h = as_far n i j e h

      in_row : 1 ≤ i → i < j → j ≤ n → Apart n i j
      in_row h k l = rising h k l (omega (arith, ap over (difference h k l), ap under (difference h k l), sum (pos i) (neg_ℤ (pos j)), negated (pos j)))

      far-off : (1 ≤ i → i < j → j ≤ n → ⊥) → Apart n i j
      far-off h = let a = stand_after n i + stand_before n j in
          other h (omega (arith, ap over (distance h), ap under (distance h), sum (pos far) (neg_ℤ (pos a)), negated (pos a)))

  zero_there : (i j : ℕ) → i ≡ j → (over (by_order n i j) ≡ 0) × (under (by_order n i j) ≡ 0)
  zero_there i j e = (ap over (on_diagonal n i j e), ap under (on_diagonal n i j e))

  -- No bound between different places is more than far less the counts, ..
  most : (i j : ℕ) → Apart n i j → over (by_order n i j) + (stand_after n i + stand_before n j) ≤ far + under (by_order n i j)
  most i j (rising a b c e) = omega (arith, after_most n i, before_most n j)
  most i j (other h e) = omega arith

  -- .. and there and back is not below zero.
  back : (i k : ℕ) → Apart n i k → Apart n k i → under (by_order n i k) + under (by_order n k i) ≤ over (by_order n i k) + over (by_order n k i)
  back i k (rising a b c e) (rising a' b' c' e') = absurd (omega arith)
  back i k (rising a b c e) (other h e') = omega (arith, after_most n k, before_most n i)
  back i k (other h e) (rising a b c e') = omega (arith, after_most n i, before_most n k)
  back i k (other h e) (other h' e') = omega (arith, after_most n i, before_most n k, after_most n k, before_most n i)

  -- By a third place: along the order the counts make up for the steps, and far twice is too far.
  way : (i k j : ℕ) → Apart n i k → Apart n k j → Apart n i j →
      over (by_order n i j) + (under (by_order n i k) + under (by_order n k j)) ≤ under (by_order n i j) + (over (by_order n i k) + over (by_order n k j))
  way i k j (rising a b c e) (rising a' b' c' e') (rising a'' b'' c'' e'') = omega arith
  way i k j (rising a b c e) (rising a' b' c' e') (other h'' e'') = absurd (h'' (omega arith) (omega arith) (omega arith))
  way i k j (rising a b c e) (other h' e') d = omega (arith, most i j d, after_of n i a, after_of n k (omega arith))
  way i k j (other h e) (rising a' b' c' e') d = omega (arith, most i j d, before_of n k (omega arith), before_of n j c')
  way i k j (other h e) (other h' e') d = omega (arith, most i j d, after_most n i, before_most n k, after_most n k, before_most n j)

  closed : Closed whole_bounds places (by_order n)
  closed = record { diagonal = λ i hi. on_diagonal n i i refl; through = λ i k j hi hk hj. →le (by_order n i j) (by_order n i k +ℤ by_order n k j) (through i k j) }
    where
      through : (i k j : ℕ) → over (by_order n i j) + under (by_order n i k +ℤ by_order n k j) ≤ over (by_order n i k +ℤ by_order n k j) + under (by_order n i j)
      through i k j = let s = sum (by_order n i k) (by_order n k j) in elim (ℕ_discrete i k) [
        | yes e ↦ omega (arith, s, zero_there i k e, ap (λ (m : ℕ). over (by_order n m j)) e, ap (λ (m : ℕ). under (by_order n m j)) e)
        | no e ↦ elim (ℕ_discrete k j) [
          | yes f ↦ omega (arith, s, zero_there k j f, ap (λ (m : ℕ). over (by_order n i m)) f, ap (λ (m : ℕ). under (by_order n i m)) f)
          | no f ↦ elim (ℕ_discrete i j) [
            | yes g ↦ omega (arith, s, zero_there i j g, back i k (apart i k e) (apart k i (λ x. e (sym x))), ap (λ (m : ℕ). over (by_order n k m)) g, ap (λ (m : ℕ). under (by_order n k m)) g)
            | no g ↦ omega (arith, s, way i k j (apart i k e) (apart k j f) (apart i j g))
          ]
        ]
      ]

  small : (i j : ℕ) → Within far (by_order n i j)
  small i j = elim (ℕ_discrete i j) [
    | yes e ↦ record { above = omega (arith, zero_there i j e); below = omega (arith, zero_there i j e) }
    | no e ↦ let b = back i j (apart i j e) (apart j i (λ x. e (sym x))) in
        record { above = omega (arith, most i j (apart i j e)); below = omega (arith, b, most j i (apart j i (λ x. e (sym x)))) }
  ]

  module _ (v : ℕ → ℤ) where
    order_of : KeepsAll whole_bounds places (by_order n) v → Ordered n v
    order_of h = (λ i j hi hj. near i j (h i j hi hj), λ j a b. step j a b (apart j (suc j) (omega arith)) (h j (suc j) (omega arith) (omega arith)))
      where
        near : (i j : ℕ) → Keeps whole_bounds v i j (by_order n i j) → Keeps whole_bounds v i j (pos far)
        near i j k = →le (v i) (pos far +ℤ v j) (omega (arith, le→ k, sum (by_order n i j) (v j), sum (pos far) (v j), small i j))

        step : (j : ℕ) → 1 ≤ j → j < n → Apart n j (suc j) → Keeps whole_bounds v j (suc j) (by_order n j (suc j)) → Keeps whole_bounds v j (suc j) (negsuc 0)
        step j a b (rising x y z e) k = →le (v j) (negsuc 0 +ℤ v (suc j)) (omega (arith, le→ k, sum (by_order n j (suc j)) (v (suc j)), sum (negsuc 0) (v (suc j))))
        step j a b (other x e) k = absurd (x (omega arith) (omega arith) (omega arith))

    module _ (O : Ordered n v) where
      -- From constant to constant the values rise by as many steps, ..
      climbs : (i j : ℕ) → 1 ≤ i → i ≤ j → j ≤ n → over (v i) + (j + under (v j)) ≤ over (v j) + (i + under (v i))
      climbs i zero a b c = absurd (omega arith)
      climbs i (suc j) a b c = elim (dec_lt i (suc j)) [
        | yes e ↦ omega (arith, climbs i j a (omega arith) (omega arith), le→ (O.1 j (omega arith) (omega arith)), sum (negsuc 0) (v (suc j)))
        | no e ↦ let f : i ≡ suc j = omega arith in omega (arith, ap (λ (m : ℕ). over (v m)) f, ap (λ (m : ℕ). under (v m)) f)
      ]

      -- .. so to the last constant from i, and from the first to j, by the counts.
      up : (i : ℕ) → i < places → (m : ℕ) × (m < places) × (over (v i) + (stand_after n i + under (v m)) ≤ over (v m) + under (v i))
      up i h = elim (dec_lt i 1) [
        | yes e ↦ (i, h, omega (arith, after_none n i e))
        | no e ↦ elim (dec_lt n i) [
          | yes f ↦ (i, h, omega (arith, after_of n i (omega arith)))
          | no f ↦ (n, omega arith, omega (arith, after_of n i (omega arith), climbs i n (omega arith) (omega arith) (omega arith)))
        ]
      ]

      down : (j : ℕ) → j < places → (m : ℕ) × (m < places) × (over (v m) + (stand_before n j + under (v j)) ≤ over (v j) + under (v m))
      down j h = elim (dec_lt n j) [
        | yes e ↦ (j, h, omega (arith, before_none n j e))
        | no e ↦ elim (dec_lt j 1) [
          | yes f ↦ (j, h, omega (arith, before_of n j (omega arith)))
          | no f ↦ (1, omega arith, omega (arith, before_of n j (omega arith), climbs 1 j (omega arith) (omega arith) (omega arith)))
        ]
      ]

      order-keeps : KeepsAll whole_bounds places (by_order n) v
      order-keeps i j hi hj = →le (v i) (by_order n i j +ℤ v j) (elim (ℕ_discrete i j) [
        | yes e ↦ omega (arith, zero_there i j e, sum (by_order n i j) (v j), ap (λ (m : ℕ). over (v m)) e, ap (λ (m : ℕ). under (v m)) e)
        | no e ↦ kept (apart i j e)
      ])
        where
          kept : Apart n i j → over (v i) + under (by_order n i j +ℤ v j) ≤ over (by_order n i j +ℤ v j) + under (v i)
          kept (rising a b c e) = omega (arith, climbs i j a (omega arith) c, sum (by_order n i j) (v j))
          kept (other h e) = let t = up i hi in let b = down j hj in
              omega (arith, t.2, b.2, le→ (O.0 t.0 b.0 t.1 b.1), sum (pos far) (v b.0), sum (by_order n i j) (v j))

  pub order_stands : (t : List (List ℤ)) → ((i j : ℕ) → i < places → j < places → entry t i j ≡ by_order n i j) → Stands (Ordered n) t
  order_stands t is = record {
    sound = record { closed = closed_same whole_bounds places (by_order n) (entry t) is closed; small = λ i j hi hj. subst (Within far) (sym (is i j hi hj)) (small i j) };
    exact = λ v. let same = keeps_same whole_bounds places (by_order n) (entry t) is v in (λ h. order_of v (same.0 h), λ h. same.1 (order-keeps v h));
  }

-- What the machine reads back of a difference of counts.
apart_within : (a b : ℕ) → a ≤ far → b ≤ far → Within far (pos a -ℤ pos b)
apart_within a b h k = record { above = omega (arith, sum (pos a) (neg_ℤ (pos b)), negated (pos b)); below = omega (arith, sum (pos a) (neg_ℤ (pos b)), negated (pos b)) }

pub difference_is : (a b : ℕ) → a ≤ far → b ≤ far → (to_z w64 a -ℤ to_z w64 b) ≡ (pos a -ℤ pos b)
difference_is a b h k = ap₂ ◌-ℤ◌ (to_z_pos w64 {n = a} (omega arith)) (to_z_pos w64 {n = b} (omega arith))

pub difference_fits : (a b : ℕ) → a ≤ far → b ≤ far → SFits w64 (to_z w64 a -ℤ to_z w64 b)
difference_fits a b h k = subst (SFits w64) (sym (difference_is a b h k)) (fits_of w64 (apart_within a b h k) (lit< tt))

pub places_fit : (i j : ℕ) → i < places → j < places → SFits w64 (to_z w64 i -ℤ to_z w64 j)
places_fit i j h k = difference_fits i j (omega arith) (omega arith)

pub difference_back : (a b : ℕ) → a ≤ far → b ≤ far → to_z w64 (of_z w64 (to_z w64 a -ℤ to_z w64 b)) ≡ (pos a -ℤ pos b)
difference_back a b h k = to_z-of_z (difference_fits a b h k) ∙ difference_is a b h k
