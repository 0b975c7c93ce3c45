-- Truth values as evidence: what a test says, and what `&&`, `||` and the tests of equality say.
use mathlib.Core.Path.{◌≡◌, ap, refl, subst}
use mathlib.Core.Logic.{◌⊎◌, inl, inr}
use mathlib.Core.List.{List, [], ◌∷◌}
use mathlib.Core.Bool.{Bool, beq, ◌&&◌, ◌||◌, false, not, true}
use Prim.Native.Nat.{ℕ}
use lib.Dec.{T, T_not, eqb, eqb_refl, eqb→eq}
use lib.IntN.{negsuc, pos, ℤ}
use Rattle.lists.specs.Lists.{same_list, same_whole}
use Rattle.lists.specs.Tests.{DecidesOnce}

-- A test holds or fails, with the evidence kept
pub data Said (b : Bool) : Type 0 where
  holds : T b → Said b
  fails : T (not b) → Said b

pub said : (b : Bool) → Said b
said true = holds tt
said false = fails tt

pub T→eq : (b : Bool) → T b → b ≡ true
T→eq true t = refl
T→eq false t = absurd t

pub F→eq : (b : Bool) → T (not b) → b ≡ false
F→eq true t = absurd t
F→eq false t = refl

pub and_l : (a b : Bool) → T (a && b) → T a
and_l true b t = tt
and_l false b t = t

pub and_r : (a b : Bool) → T (a && b) → T b
and_r true b t = t
and_r false b t = absurd t

pub and_i : (a b : Bool) → T a → T b → T (a && b)
and_i true b s t = t
and_i false b s t = s

pub or_l : (a b : Bool) → T a → T (a || b)
or_l true b t = tt
or_l false b t = absurd t

pub or_r : (a b : Bool) → T b → T (a || b)
or_r true b t = tt
or_r false b t = t

pub not_eqb : (x a : ℕ) → T (not (eqb x a)) → ¬ (x ≡ a)
not_eqb x a t e = T_not (eqb x a) t (subst (λ k. T (eqb x k)) e (eqb_refl x))

pub same_list→eq : (xs ys : List ℕ) → T (same_list xs ys) → xs ≡ ys
same_list→eq [] [] t = refl
same_list→eq [] (y ∷ ys) t = absurd t
same_list→eq (x ∷ xs) [] t = absurd t
same_list→eq (x ∷ xs) (y ∷ ys) t =
    let e : x ≡ y = eqb→eq x y (and_l (eqb x y) (same_list xs ys) t) in
    let es : xs ≡ ys = same_list→eq xs ys (and_r (eqb x y) (same_list xs ys) t) in
    cc

pub same_list_refl : (xs : List ℕ) → T (same_list xs xs)
same_list_refl [] = tt
same_list_refl (x ∷ xs) = and_i (eqb x x) (same_list xs xs) (eqb_refl x) (same_list_refl xs)

pub same_whole→eq : (a b : ℤ) → T (same_whole a b) → a ≡ b
same_whole→eq (pos a) (pos b) t = ap pos (eqb→eq a b t)
same_whole→eq (pos a) (negsuc b) t = absurd t
same_whole→eq (negsuc a) (pos b) t = absurd t
same_whole→eq (negsuc a) (negsuc b) t = ap negsuc (eqb→eq a b t)

pub same_whole_refl : (a : ℤ) → T (same_whole a a)
same_whole_refl (pos a) = eqb_refl a
same_whole_refl (negsuc a) = eqb_refl a

pub beq→eq : (a b : Bool) → T (beq a b) → a ≡ b
beq→eq true true t = refl
beq→eq true false t = absurd t
beq→eq false true t = absurd t
beq→eq false false t = refl

pub beq_refl : (a : Bool) → T (beq a a)
beq_refl true = tt
beq_refl false = tt

pub or_either : (a b : Bool) → T a ⊎ T b → T (a || b)
or_either true b h = tt
or_either false b (inl h) = absurd h
or_either false b (inr h) = h

pub decides_once : DecidesOnce
decides_once P true true h k = refl
decides_once P true false h k = absurd (k h)
decides_once P false true h k = absurd (h k)
decides_once P false false h k = refl
