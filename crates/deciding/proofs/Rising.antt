-- What the code asks in rising order and what the calculus asks: test by test the same number.
use mathlib.Core.Path.{◌∙◌, ◌≡◌, ap, refl}
use mathlib.Core.Bool.{Bool, ◌&&◌, cond, false, true}
use Prim.Native.Nat.{ℕ}

-- The same test, and where it holds the same rest
pub one : {n q : ℕ} {b : Bool} (a : Bool) (p k : ℕ) → n ≡ cond a p k → a ≡ b → (b ≡ true → p ≡ q) → n ≡ cond b q k
one {q = q} {b = b} a p k e h f = e ∙ ap (λ (c : Bool). cond c p k) h ∙ go b f
  where
    go : (b : Bool) → (b ≡ true → p ≡ q) → cond b p k ≡ cond b q k
    go true f = f refl
    go false f = refl

-- Two tests with one number, which the calculus asks together
pub both : {n r : ℕ} {b c : Bool} (a d : Bool) (p q k : ℕ) → n ≡ cond a p k → p ≡ cond d q k → a ≡ b → (b ≡ true → d ≡ c) → (b ≡ true → c ≡ true → q ≡ r) → n ≡ cond (b && c) r k
both {r = r} {b = b} {c = c} a d p q k e g h i f = one a p k e h (λ t. one d q k g (i t) (f t)) ∙ go b
  where
    go : (b : Bool) → cond b (cond c r k) k ≡ cond (b && c) r k
    go true = refl
    go false = refl
