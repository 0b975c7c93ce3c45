-- The exported functions' numbers, and what they leave of lent slices, are unique.
use mathlib.Core.Path.{◌≡◌, sym, ap, ◌∙◌}
use mathlib.Core.List.{List}
use Prim.Native.Nat.{ℕ}
use Rattle.judging.specs.declared.Written.{Written}
use Rattle.judging.specs.Judging.{Lists, Shows, ShowsNumbers}
use Rattle.judging.proofs.Judging.{lists_once, shows_numbers_once, shows_once}
use Rattle.lookup.proofs.Making.{makes_once}
use Rattle.drf.specs.Export.{InspectsNumbersOnce, InspectsOnce, JudgesOnce, TablesOnce, count, match_of, noted, table_code}

-- Where what P says of a file is unique, so are the numbers that its answer is told by.
told_once : (P : (s d d' : List ℕ) → Written → Type 0) → ((s d d₁ d₂ : List ℕ) (a b : Written) → P s d d₁ a → P s d d₂ b → (a ≡ b) × (d₁ ≡ d₂))
    → (s d l d₁ d₂ l₁ l₂ : List ℕ) (r₁ r₂ : ℕ) → ((a : Written) × P s d d₁ a × (r₁ ≡ count a) × (l₁ ≡ noted a l)) → ((b : Written) × P s d d₂ b × (r₂ ≡ count b) × (l₂ ≡ noted b l))
    → (r₁ ≡ r₂) × (d₁ ≡ d₂) × (l₁ ≡ l₂)
told_once P once s d l d₁ d₂ l₁ l₂ r₁ r₂ (a, p, e, g) (b, q, f, h) =
    let (same, left) = once s d d₁ d₂ a b p q in
    (e ∙ ap count same ∙ sym f, left, g ∙ ap (λ (w : Written). noted w l) same ∙ sym h)

pub judges_once : JudgesOnce
judges_once = told_once Lists lists_once

pub inspects_once : InspectsOnce
inspects_once = told_once Shows shows_once

pub inspects_numbers_once : InspectsNumbersOnce
inspects_numbers_once = told_once ShowsNumbers shows_numbers_once

pub tables_once : TablesOnce
tables_once keys results a d d₁ d₂ r₁ r₂ (m, p, e) (n, q, f) = let (same, left) = makes_once keys results (match_of a) d d₁ d₂ m n p q in (e ∙ ap table_code same ∙ sym f, left)
