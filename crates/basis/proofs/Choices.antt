-- The list of the constants' numbers, place by place, and the example of them.
use mathlib.Core.Path.{◌≡◌, refl, sym, ap, ap₂, subst, ◌∙◌}
use mathlib.Core.Bool.{Bool, true, false, cond}
use mathlib.Core.Logic.{◌⊎◌, inl, inr}
use mathlib.Core.List.Memᴰ
use mathlib.Core.List.{List, Memᴰ, [], ◌++◌, ◌∷◌}
use Prim.Native.Nat.{ℕ, zero, suc, ◌-◌, ◌≤◌, ◌<◌}
use native.Mathlib.Decide.{dec_lt}
use native.Mathlib.Omega.{arith}
use lib.Dec.{T, leb→le, le→leb, ltb, ltb→lt}
use lib.IntN.{ℤ, pos, negsuc, neg_ℤ, ◌-ℤ◌}
use lib.ListN.{get_or, length, length-append, get_or-append}
use lib.Seq.{get_or_at}
use lib.Signed.{◌≤ℤ◌, ◌<ℤ◌, le_z, le_z_yes, lt_z_yes, <ℤ-≤ℤ_trans}
use Rattle.basis.specs.declared.Atom.{Atom}
use Rattle.basis.specs.Choices.{Choice, FirstAtLeastTwo, less_zero}

-- One for each constant ..
pub less_zero_length : (k : ℕ) (v : ℕ → ℤ) → length (less_zero k v) ≡ k
less_zero_length zero v = refl
less_zero_length (suc k) v = length-append (less_zero k v) _ ∙ omega (arith, less_zero_length k v)

-- .. which is the constant's number less zero's.
pub less_zero_at : (k : ℕ) (v : ℕ → ℤ) (i : ℕ) → i < k → get_or (less_zero k v) i (pos 0) ≡ v (suc i) -ℤ v 0
less_zero_at zero v i h = absurd (omega arith)
less_zero_at (suc k) v i h = elim (dec_lt i k) [
  | yes e ↦ get_or-append (less_zero k v) _ (pos 0) i (omega (arith, less_zero_length k v)) ∙ less_zero_at k v i e
  | no e ↦ get_or_at (less_zero k v) (v (suc k) -ℤ v 0) [] (pos 0) i (omega (arith, less_zero_length k v)) ∙ ap (λ (n : ℕ). v (suc n) -ℤ v 0) (last i k h (omega arith))
]
  where
    last : (i k : ℕ) → i < suc k → k ≤ i → k ≡ i
    last i k h e = omega arith

-- Values that agree at zero and the constants give one list.
pub less_zero_same : (k : ℕ) (v w : ℕ → ℤ) → ((i : ℕ) → i ≤ k → v i ≡ w i) → less_zero k v ≡ less_zero k w
less_zero_same zero v w h = refl
less_zero_same (suc k) v w h = ap₂ (λ (l : List ℤ) (x : ℤ). l ++ (x ∷ [])) (less_zero_same k v w (λ i e. h i (omega arith))) (ap₂ ◌-ℤ◌ (h (suc k) (omega arith)) (h 0 (omega arith)))

-- ---- the example

below_zero : (x : ℤ) → x <ℤ pos 0 → x ≤ℤ negsuc 0
below_zero (pos n) h = absurd (omega (arith, ltb→lt n 0 h.lt))
below_zero (negsuc n) h = le_z_yes (le→leb 0 n (omega arith))

two_below : (x y : ℤ) → (x -ℤ y) ≤ℤ negsuc 1 → y ≤ℤ negsuc 0 → x ≤ℤ negsuc 2
two_below x (pos n) h k = absurd k.le
two_below (pos m) (negsuc n) h k = absurd h.le
two_below (negsuc m) (negsuc n) h k = go (ltb (suc n) (suc m)) h.le
  where
    go : (b : Bool) → T (le_z (cond b (negsuc (suc m - suc (suc n))) (pos (suc n - suc m))) (negsuc 1)) → negsuc m ≤ℤ negsuc 2
    go true t = le_z_yes (le→leb 2 m (omega (arith, leb→le 1 (suc m - suc (suc n)) t)))
    go false t = absurd t

-- What holds of the only atom holds of each.
only : (P : Atom → Type 0) (b : Atom) → P b → (a : Atom) → Memᴰ a (b ∷ []) → P a
only P b h a k = go (Memᴰ.cases_cons k)
  where
    go : (a ≡ b) ⊎ Memᴰ a [] → P a
    go (inl e) = subst P (sym e) h
    go (inr k) = absurd (Memᴰ.not-nil k)

pub first_at_least_two : FirstAtLeastTwo
first_at_least_two = record { choice = chosen; largest = record { choice = is_choice; largest = is_largest }; less_zero = refl }
  where
    atom : Atom
    atom = record { p = 0; q = 1; c = neg_ℤ (pos 2) }

    chosen : ℕ → ℤ
    chosen zero = negsuc 2
    chosen (suc zero) = negsuc 0
    chosen (suc (suc i)) = pos 0

    is_choice : Choice 2 (atom ∷ []) chosen
    is_choice = record { none_above = none_above; rising = rising; every = only _ atom (le_z_yes tt) }
      where
        none_above : (i : ℕ) → i ≤ 2 → chosen i ≤ℤ pos 0
        none_above zero h = le_z_yes tt
        none_above (suc zero) h = le_z_yes tt
        none_above (suc (suc i)) h = le_z_yes tt

        rising : (i : ℕ) → 1 ≤ i → i < 2 → chosen i <ℤ chosen (suc i)
        rising zero l h = absurd (omega arith)
        rising (suc zero) l h = lt_z_yes tt
        rising (suc (suc i)) l h = absurd (omega arith)

    first_low : (u : ℕ → ℤ) → Choice 2 (atom ∷ []) u → u 1 ≤ℤ negsuc 0
    first_low u U = below_zero (u 1) (<ℤ-≤ℤ_trans (U.rising 1 (omega arith) (omega arith)) (U.none_above 2 (omega arith)))

    is_largest : (u : ℕ → ℤ) → Choice 2 (atom ∷ []) u → (i : ℕ) → i ≤ 2 → u i ≤ℤ chosen i
    is_largest u U zero h = two_below (u 0) (u 1) (U.every atom (Memᴰ.head refl)) (first_low u U)
    is_largest u U (suc zero) h = first_low u U
    is_largest u U (suc (suc zero)) h = U.none_above 2 (omega arith)
    is_largest u U (suc (suc (suc i))) h = absurd (omega arith)
