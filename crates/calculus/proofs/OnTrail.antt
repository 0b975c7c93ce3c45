-- The tests of a trail say what the paper's terms say.
use mathlib.Core.Path.{◌≡◌, refl}
use mathlib.Core.List.{Memᴰ}
use mathlib.Core.Bool.{Bool, ◌||◌, false, not, true}
use lib.Dec.{T, T_not, not_T}
use Rattle.basis.specs.declared.Literal.{Literal}
use Rattle.lists.proofs.Denials.{not_or, or_second}
use Rattle.lists.proofs.Members.{any_of_in, any_of_out}
use Rattle.lists.proofs.Tests.{Said, fails, holds, or_l, or_r, said}
use Rattle.calculus.specs.Clauses.{complement, same_literal}
use Rattle.calculus.specs.OnTrail.{False, On}
use Rattle.calculus.specs.Trails.{Entry, Trail, background, foreground, is_false, is_literal, on_trail}
use Rattle.calculus.proofs.Merged.{same_literal_refl, same_literal→eq}

pub same_literal_lem : {a b : Literal} → a ≡ b → T (same_literal a b)
same_literal_lem {a} {b} e = rw (← e) (same_literal_refl a)

pub not_same : (a b : Literal) → T (not (same_literal a b)) → ¬ (a ≡ b)
not_same a b h e = T_not (same_literal a b) h (same_literal_lem e)

pub complement_twice : (l : Literal) → complement (complement l) ≡ l
complement_twice l = let e = not_twice l.positive in λ i. record { positive = e i; predicate = l.predicate; x = l.x; y = l.y; z = l.z }
  where
    not_twice : (b : Bool) → not (not b) ≡ b
    not_twice true = refl
    not_twice false = refl

pub on_out : (t : Trail) (l : Literal) → T (on_trail l t) → On t l
on_out t l h = let (e, m, k) = any_of_out (is_literal l) t h in go e m k
  where
    go : (e : Entry) → Memᴰ e t → T (is_literal l e) → On t l
    go (foreground m o) i k = record { origin = o; entry = rw (same_literal→eq l m k) i }
    go (background a o) i k = absurd k

pub on_in : (t : Trail) (l : Literal) → On t l → T (on_trail l t)
on_in t l h = any_of_in (is_literal l) t h.entry (same_literal_refl l)

pub not_on_out : (t : Trail) (l : Literal) → T (not (on_trail l t)) → ¬ On t l
not_on_out t l h k = T_not (on_trail l t) h (on_in t l k)

pub not_on_in : (t : Trail) (l : Literal) → ¬ On t l → T (not (on_trail l t))
not_on_in t l h = not_T (on_trail l t) (λ k. h (on_out t l k))

-- "Every literal with another instance is false", asked of one literal a, g being the instance
pub other_false_out : (t : Trail) (a g : Literal) → T (same_literal a g || is_false t a) → ¬ (a ≡ g) → False t a
other_false_out t a g h ne = on_out t (complement a) (or_second (same_literal a g) (is_false t a) h (not_T (same_literal a g) (λ k. ne (same_literal→eq a g k))))

pub other_not_false : (t : Trail) (a g : Literal) → T (not (same_literal a g || is_false t a)) → (¬ (a ≡ g)) × (¬ False t a)
other_not_false t a g h =
    let (n, k) = not_or (same_literal a g) (is_false t a) h in
    (not_same a g n, not_on_out t (complement a) k)

pub other_false_in : (t : Trail) (a g : Literal) → (¬ (a ≡ g) → False t a) → T (same_literal a g || is_false t a)
other_false_in t a g h = go (said (same_literal a g))
  where
    go : Said (same_literal a g) → T (same_literal a g || is_false t a)
    go (holds k) = or_l (same_literal a g) (is_false t a) k
    go (fails k) = or_r (same_literal a g) (is_false t a) (on_in t (complement a) (h (not_same a g k)))
