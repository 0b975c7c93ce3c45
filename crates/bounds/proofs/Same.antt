-- Two squares that agree between the m places: what is so of one is so of the other.
use mathlib.Core.Path.{◌≡◌, sym, ◌∙◌, subst, subst₃}
use mathlib.Core.Logic.{◌↔◌}
use Prim.Native.Nat.{ℕ, ◌<◌}
use Rattle.bounds.specs.Kinds.{Kind}
use Rattle.bounds.specs.Squares.{Square, Values, KeepsAll, Closed}

module _ (K : Kind) (m : ℕ) (d e : Square K) (same : (i j : ℕ) → i < m → j < m → e i j ≡ d i j) where
  pub closed_same : Closed K m d → Closed K m e
  closed_same C = record {
    diagonal = λ i hi. same i i hi hi ∙ C.diagonal i hi;
    through = λ i k j hi hk hj. subst₃ (λ x y z. K.AtMost x (K.plus y z)) (sym (same i j hi hj)) (sym (same i k hi hk)) (sym (same k j hk hj)) (C.through i k j hi hk hj);
  }

  pub keeps_same : (v : Values K) → KeepsAll K m e v ↔ KeepsAll K m d v
  keeps_same v = (
    λ h i j hi hj. subst (λ x. K.AtMost (v i) (K.plus x (v j))) (same i j hi hj) (h i j hi hj),
    λ h i j hi hj. subst (λ x. K.AtMost (v i) (K.plus x (v j))) (sym (same i j hi hj)) (h i j hi hj),
  )
