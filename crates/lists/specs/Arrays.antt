-- A list held in an array of a fixed length.
use Rattle.std.specs.Prelude.{List, [], ◌∷◌, ℕ, zero, suc, ◌+◌, length, set, take}
use Rattle.lists.specs.declared.Held.{Held}

module _ {A : Type 0} where
  -- Exactly n elements: the list's first ones and, where it ends before, blanks d
  unfoldable pub exactly : ℕ → A → List A → List A
  exactly zero d l = []
  exactly (suc n) d [] = d ∷ exactly n d []
  exactly (suc n) d (x ∷ l) = x ∷ exactly n d l

  -- The record of a list with room for N elements; blanks d stand past them.
  abbrev pub held : (N : ℕ) → A → List A → Held A N
  held N d l = record { n = length l; at = exactly N d l }

  -- The list that a record says
  abbrev pub held_in : {N : ℕ} → Held A N → List A
  held_in h = take h.n h.at

  -- One element more, after the others
  abbrev pub pushed : {N : ℕ} → Held A N → A → Held A N
  pushed h x = record { n = h.n + 1; at = set h.at h.n x }
