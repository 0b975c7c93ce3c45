-- Conditions tried one after the other, each with the refusal given where it does not hold.
use Rattle.std.specs.Prelude.{List, [], ◌∷◌, Bool, ◌&&◌, cond, ℕ, leb}
use Rattle.basis.specs.Refusals.{accepted}

-- A condition, and the refusal given where it does not hold
pub record Check : Type 0 where
  pub ok : Bool
  pub refusal : ℕ

infix 68 ◌or◌
abbrev pub ◌or◌ : Bool → ℕ → Check
b or n = record { ok = b; refusal = n }

-- "Reasons are tried in rising order": the first refusal, or none.
abbrev pub first_refusal : List Check → ℕ
first_refusal [] = accepted
first_refusal (c ∷ cs) = let r = first_refusal cs in cond c.ok r c.refusal

abbrev pub between : ℕ → ℕ → ℕ → Bool
between a b x = leb a x && leb x b
