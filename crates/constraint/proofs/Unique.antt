-- Two answers that say what is so are one.
use Rattle.std.proofs.Common.{◌≡◌, refl, sym, ap, ◌∙◌, List, ℕ, suc, ℤ, Some, None, Ok, Err, arith}
use native.Mathlib.Decide.{dec_lt}
use Rattle.basis.specs.declared.Atom.{Atom}
use Rattle.basis.specs.declared.Refusal.TheVariants as refusals
use Rattle.basis.specs.declared.Refused.{Refused}
use Rattle.bounds.proofs.Numbers.{numbers_once}
use Rattle.constraint.specs.Test.{Accepted, Refusal, NumbersIn, Unique}
use Rattle.constraint.specs.Witnesses.{packed_numbers}

-- What is accepted is not refused.
apart : (n : ℕ) (atoms : List Atom) (r : Refused ℕ) → Refusal n atoms r → Accepted n atoms → ⊥
apart n atoms r (Refusal.too_many h) A = h A.few_enough
apart n atoms r (Refusal.improper k h i f g) A = g (A.proper k i)

-- The first improper atom is one.
same_refusal : (n : ℕ) (atoms : List Atom) (r s : Refused ℕ) → Refusal n atoms r → Refusal n atoms s → r ≡ s
same_refusal n atoms r s (Refusal.too_many h) (Refusal.too_many h') = refl
same_refusal n atoms r s (Refusal.too_many h) (Refusal.improper k h' i f g) = absurd (h h')
same_refusal n atoms r s (Refusal.improper k h i f g) (Refusal.too_many h') = absurd (h' h)
same_refusal n atoms r s (Refusal.improper k h i f g) (Refusal.improper k' h' i' f' g') =
    ap (λ (k : ℕ). record { refusal = refusals.OutOfRange; place = suc k })
    (elim (dec_lt k k') [ yes e ↦ absurd (g (f' k e)) | no e ↦ elim (dec_lt k' k) [ yes e' ↦ absurd (g' (f k' e')) | no e' ↦ omega arith ] ])

-- So are the numbers, in their slots.
pub same_numbers : (n : ℕ) (atoms : List Atom) (s t : List ℤ) → NumbersIn n atoms s → NumbersIn n atoms t → s ≡ t
same_numbers n atoms s t h k = h.2 ∙ ap packed_numbers (numbers_once n atoms h.0 k.0 h.1 k.1) ∙ sym k.2

pub unique : Unique
unique n atoms (Ok (Some s)) (Ok (Some t)) h k = ap (λ (l : List ℤ). Ok (Some l)) (same_numbers n atoms s t h.2 k.2)
unique n atoms (Ok (Some s)) (Ok None) h k = absurd (k.1 h.1)
unique n atoms (Ok (Some s)) (Err r) h k = absurd (apart n atoms r k h.0)
unique n atoms (Ok None) (Ok (Some t)) h k = absurd (h.1 k.1)
unique n atoms (Ok None) (Ok None) h k = refl
unique n atoms (Ok None) (Err r) h k = absurd (apart n atoms r k h.0)
unique n atoms (Err r) (Ok (Some t)) h k = absurd (apart n atoms r h k.0)
unique n atoms (Err r) (Ok None) h k = absurd (apart n atoms r h k.0)
unique n atoms (Err r) (Err s) h k = ap (λ (e : Refused ℕ). Err e) (same_refusal n atoms r s h k)
