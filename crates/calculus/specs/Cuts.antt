-- That levels and the cut of a trail are what the paper says they are. Proved in proofs/Cuts.antt. A trail has its last entry first.
use Rattle.std.specs.Prelude.{◌≡◌, ◌⊎◌, ◌≤◌, zero, ℕ, T}
use mathlib.Core.List.{List, Memᴰ, [], ◌++◌, ◌∷◌}
use Rattle.basis.specs.declared.Literal.{Literal}
use Rattle.calculus.specs.Clauses.{complement}
use Rattle.calculus.specs.OnTrail.{Undefined}
use Rattle.calculus.specs.Trails.{Entry, Origin, Trail, cut, decisions, foreground, is_decision, largest_level, level_of}

-- "The level of a trail literal .. is the number of decisions up to and including it": a trail literal, and what came later does not have it.
abbrev pub LevelCounts : Type 0
LevelCounts = (l : Literal) (o : Origin) (later earlier : Trail) → Undefined later l → level_of l (later ++ (foreground l o ∷ earlier)) ≡ decisions (foreground l o ∷ earlier)

-- ".. shared by its complement"
abbrev pub LevelShared : Type 0
LevelShared = (l : Literal) (t : Trail) → level_of (complement l) t ≡ level_of l t

-- "i is the largest level in D, 0 if D is empty": no literal of D has a larger one, and one has it.
pub record IsLargestLevel (t : Trail) (D : List Literal) (i : ℕ) : Type 0 where
  pub at_most : (m : Literal) → Memᴰ m D → level_of m t ≤ i
  pub reached : ((D ≡ []) × (i ≡ zero)) ⊎ ((m : Literal) × Memᴰ m D × (level_of m t ≡ i))

abbrev pub LargestLevel : Type 0
LargestLevel = (t : Trail) (D : List Literal) → IsLargestLevel t D (largest_level t D)

-- "The trail is cut just before decision i + 1": all is kept, or the first entry that goes is a decision and i decisions are kept.
pub record CutBefore (i : ℕ) (t kept : Trail) : Type 0 where
  pub gone : Trail
  pub whole : t ≡ gone ++ kept
  pub at_most : decisions kept ≤ i
  pub just_before : (gone ≡ []) ⊎ ((later : Trail) × (e : Entry) × (gone ≡ later ++ (e ∷ [])) × T (is_decision e) × (decisions kept ≡ i))

abbrev pub CutJustBefore : Type 0
CutJustBefore = (i : ℕ) (t : Trail) → CutBefore i t (cut i t)
