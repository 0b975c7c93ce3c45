-- Tests and what they say, joined: if each test says its statement, `&&` says both, `||` one of the two, `all_of` each, `any_of` one.
use mathlib.Core.Path.{◌≡◌}
use mathlib.Core.Logic.{◌↔◌, ◌⊎◌, inl, inr}
use mathlib.Core.List.{List, Memᴰ}
use mathlib.Core.Bool.{Bool, ◌&&◌, ◌||◌, false, not, true}
use Prim.Native.Nat.{◌<◌, ◌≤◌, ℕ}
use lib.Dec.{T, T_not, eqb, eqb_refl, eqb→eq, leb, leb→le, le→leb, ltb, ltb→lt, lt→ltb, not_T}
use Rattle.lists.proofs.Members.{all_of_in, all_of_out, any_of_in, any_of_out}
use Rattle.lists.proofs.Tests.{and_i, and_l, and_r, or_l, or_r}
use Rattle.lists.specs.Lists.{all_of, any_of}

pub leb_says : (m n : ℕ) → T (leb m n) ↔ (m ≤ n)
leb_says m n = (leb→le m n, le→leb m n)

pub eqb_says : (m n : ℕ) → T (eqb m n) ↔ (m ≡ n)
eqb_says m n = (eqb→eq m n, λ e. rw e (eqb_refl n))

pub and_says : {P Q : Type 0} (a b : Bool) → T a ↔ P → T b ↔ Q → T (a && b) ↔ (P × Q)
and_says a b p q = (λ t. (p.0 (and_l a b t), q.0 (and_r a b t)), λ h. and_i a b (p.1 h.0) (q.1 h.1))

pub ltb_says : (m n : ℕ) → T (ltb m n) ↔ (m < n)
ltb_says m n = (ltb→lt m n, lt→ltb m n)

pub or_says : {P Q : Type 0} (a b : Bool) → T a ↔ P → T b ↔ Q → T (a || b) ↔ (P ⊎ Q)
or_says {P} {Q} a b p q = (out a p, back)
  where
    out : (a : Bool) → T a ↔ P → T (a || b) → P ⊎ Q
    out true p t = inl (p.0 tt)
    out false p t = inr (q.0 t)

    back : P ⊎ Q → T (a || b)
    back (inl h) = or_l a b (p.1 h)
    back (inr h) = or_r a b (q.1 h)

pub not_says : {P : Type 0} (a : Bool) → T a ↔ P → T (not a) ↔ (¬ P)
not_says a p = (λ t h. T_not a t (p.1 h), λ n. not_T a (λ t. n (p.0 t)))

-- Two statements that say two others
infixr 30 ◌&◌
pub ◌&◌ : {X Y P Q : Type 0} → X ↔ P → Y ↔ Q → (X × Y) ↔ (P × Q)
p & q = (λ h. (p.0 h.0, q.0 h.1), λ h. (p.1 h.0, q.1 h.1))

-- A statement that says the same
pub says_also : {X P Q : Type 0} → X ↔ P → (P → Q) → (Q → P) → X ↔ Q
says_also p f g = (λ t. f (p.0 t), λ q. p.1 (g q))

module _ {A : Type 0} (f : A → Bool) (P : A → Type 0) (each : (a : A) → T (f a) ↔ P a) (l : List A) where
  pub all_says : T (all_of f l) ↔ ((a : A) → Memᴰ a l → P a)
  all_says = (λ t a m. (each a).0 (all_of_out f l t m), λ h. all_of_in f l (λ a m. (each a).1 (h a m)))

  pub any_says : T (any_of f l) ↔ ((a : A) × Memᴰ a l × P a)
  any_says = (λ t. let (a, m, h) = any_of_out f l t in (a, m, (each a).0 h), λ (a, m, h). any_of_in f l m ((each a).1 h))
