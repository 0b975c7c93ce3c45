-- Statements that are decided: one of two, and of all numbers below another.
use mathlib.Core.Path.{◌≡◌, subst}
use mathlib.Core.Logic.Dec
use mathlib.Core.Logic.{◌⊎◌, inl, inr, ⊎_elim}
use Prim.Native.Nat.{ℕ, zero, suc, ◌<◌}
use native.Mathlib.Decide.{dec_lt, map_dec}
use native.Mathlib.Omega.{arith}

pub either_decided : {P Q : Type 0} → Dec P → Dec Q → Dec (P ⊎ Q)
either_decided (yes p) d = yes (inl p)
either_decided (no p) (yes q) = yes (inr q)
either_decided (no p) (no q) = no (λ h. ⊎_elim p q h)

pub all_decided : (P : ℕ → Type 0) → ((j : ℕ) → Dec (P j)) → (n : ℕ) → Dec ((j : ℕ) → j < n → P j)
all_decided P d zero = yes (λ j h. absurd (omega arith))
all_decided P d (suc n) = map_dec together (λ f. (f n (omega arith), λ j h. f j (omega arith))) (Dec.and (d n) (all_decided P d n))
  where
    together : P n × ((j : ℕ) → j < n → P j) → (j : ℕ) → j < suc n → P j
    together (p, f) j h = by (dec_lt j n)
      where
        by : Dec (j < n) → P j
        by (yes l) = f j l
        by (no l) = let e : n ≡ j = omega (arith, l) in subst P e p
