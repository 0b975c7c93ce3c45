-- Laws of text, and of one writer after another.
use mathlib.Core.Path.{◌≡◌, refl, sym, ap, ◌∙◌}
use mathlib.Core.Bool.{Bool, true, false, cond}
use mathlib.Core.List.{List, [], ◌∷◌, ◌++◌}
use Prim.Native.Nat.{ℕ, zero, suc, ◌+◌, ◌*◌, ◌/◌, ◌%◌, ◌≤◌, ◌<◌}
use native.Mathlib.Omega.{arith}
use native.Mathlib.Nat.{add-zero, add-suc, suc-add, zero-add}
use borrow.Author.Tests.{lt-ltb, le-ltb, ltb-true, ltb-false}
use lib.Dec.{ltb}
use lib.ListN.{length, drop, set, length-append}
use lib.Seq.{sets, length-sets, sets-eq}
use Rattle.text.specs.Text.{digit, decimal_in, decimal, Wrote, WroteOnce}

-- ---- decimal digits

-- Enough is enough.
same_digits : (f g n : ℕ) → n ≤ f → n ≤ g → decimal_in f n ≡ decimal_in g n
same_digits zero zero n h k = refl
same_digits zero (suc g) n h k = rw (lt-ltb n 10 (omega arith))
same_digits (suc f) zero n h k = rw (lt-ltb n 10 (omega arith))
same_digits (suc f) (suc g) n h k = by (ltb n 10) refl (λ q. same_digits f g (n / 10) (omega (arith, ltb-false n 10 q)) (omega (arith, ltb-false n 10 q)))
  where
    by : (b : Bool) → ltb n 10 ≡ b → (ltb n 10 ≡ false → decimal_in f (n / 10) ≡ decimal_in g (n / 10))
        → cond b (digit n ∷ []) (decimal_in f (n / 10) ++ (digit (n % 10) ∷ [])) ≡ cond b (digit n ∷ []) (decimal_in g (n / 10) ++ (digit (n % 10) ∷ []))
    by true q e = refl
    by false q e = rw (e q)

pub decimal_small : (n : ℕ) → n < 10 → decimal n ≡ digit n ∷ []
unfolding decimal
decimal_small zero h = refl
decimal_small (suc n) h = rw (lt-ltb (suc n) 10 h)

pub decimal_more : (n : ℕ) → 10 ≤ n → decimal n ≡ decimal (n / 10) ++ (digit (n % 10) ∷ [])
unfolding decimal
decimal_more zero h = absurd (omega arith)
decimal_more (suc n) h = rw (le-ltb (suc n) 10 h) (rw (same_digits n (suc n / 10) (suc n / 10) (omega arith) (omega arith)))

pub length_small : (n : ℕ) → n < 10 → length (decimal n) ≡ 1
length_small n h = ap length (decimal_small n h)

pub length_more : (n : ℕ) → 10 ≤ n → length (decimal n) ≡ length (decimal (n / 10)) + 1
length_more n h = ap length (decimal_more n h) ∙ length-append (decimal (n / 10)) (digit (n % 10) ∷ [])

-- 10 to the power k + 1
abbrev pub tens : ℕ → ℕ
tens zero = 10
tens (suc k) = 10 * tens k

-- A number below it has at most k + 1 digits.
pub length_decimal : (k n : ℕ) → n < tens k → length (decimal n) ≤ suc k
length_decimal zero n h = omega (arith, length_small n h)
length_decimal (suc k) n h = by (ltb n 10) refl (λ q. length_decimal k (n / 10) (omega arith))
  where
    by : (b : Bool) → ltb n 10 ≡ b → (ltb n 10 ≡ false → length (decimal (n / 10)) ≤ suc k) → length (decimal n) ≤ suc (suc k)
    by true q e = omega (arith, length_small n (ltb-true n 10 q))
    by false q e = omega (arith, length_more n (ltb-false n 10 q), e q)

-- ---- runs of stores

module _ {A : Type 0} where
  pub sets_append : (d : List A) (i : ℕ) (v w : List A) → sets d i (v ++ w) ≡ sets (sets d i v) (i + length v) w
  sets_append d i [] w = rw (add-zero i)
  sets_append d i (x ∷ v) w = sets_append (set d i x) (suc i) v w ∙ ap (λ (k : ℕ). sets (sets (set d i x) (suc i) v) k w) (suc-add i (length v) ∙ sym (add-suc i (length v)))

-- ---- writers

pub wrote_none : (d : List ℕ) (i : ℕ) → Wrote d i [] d i
wrote_none d i = record { next = omega arith; left = refl }

-- A writer keeps the buffer's length.
pub same_long : {d d' w : List ℕ} {i r : ℕ} → Wrote d i w d' r → length d' ≡ length d
same_long {d} {d'} {w} {i} a = ap length a.left ∙ length-sets d i w

-- One writer after another
pub and_then : {d d₁ d₂ : List ℕ} {i r₁ r₂ : ℕ} {v w : List ℕ} → Wrote d i v d₁ r₁ → Wrote d₁ r₁ w d₂ r₂ → Wrote d i (v ++ w) d₂ r₂
and_then {d} {d₁} {d₂} {i} {r₁} {r₂} {v} {w} a b = record {
  next = b.next ∙ ap (λ (k : ℕ). k + length w) a.next ∙ omega (arith, length-append v w);
  left = b.left ∙ ap (λ (l : List ℕ). sets l r₁ w) a.left ∙ ap (λ (k : ℕ). sets (sets d i v) k w) a.next ∙ sym (sets_append d i v w);
}

-- The same bytes said in another way
pub as_text : {d d' v w : List ℕ} {i r : ℕ} → v ≡ w → Wrote d i v d' r → Wrote d i w d' r
as_text e a = rw e at a

-- What is written from the first byte on stands at the front, and the bytes past it stay.
pub at_front : {d d' w : List ℕ} {r : ℕ} → length w ≤ length d → Wrote d 0 w d' r → (r ≡ length w) × (d' ≡ w ++ drop r d)
at_front {d} {d'} {w} h a =
    let count = a.next ∙ zero-add (length w) in (count, a.left ∙ sets-eq w d 0 (omega arith) ∙ ap (λ (k : ℕ). w ++ drop k d) (zero-add (length w) ∙ sym count))

pub wrote_once : WroteOnce
wrote_once d i w d₁ d₂ r₁ r₂ a b = (a.left ∙ sym b.left, a.next ∙ sym b.next)
