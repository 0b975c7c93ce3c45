-- Lists as the definitions use them: parts kept by a test, pairs, places of elements, equality that computes.
use Rattle.std.specs.Cmp.Lexicographic.{pointwise}
use Rattle.std.specs.List.{list_all, list_any}
use Rattle.std.specs.Prelude.{List, [], ◌∷◌, Bool, false, cond, ℕ, zero, suc, ℤ, pos, negsuc, eqb}

-- a, a + 1, .., n numbers in all
abbrev pub up_from : ℕ → ℕ → List ℕ
up_from a zero = []
up_from a (suc n) = a ∷ up_from (suc a) n

module _ {A : Type 0} where
  -- Those that pass the test, in order
  abbrev pub keep_if : (A → Bool) → List A → List A
  keep_if p [] = []
  keep_if p (x ∷ xs) = let r = keep_if p xs in cond (p x) (x ∷ r) r

  -- Whether some element passes the test, and whether each does: the library's words
  abbrev pub any_of : (A → Bool) → List A → Bool
  any_of p xs = list_any p xs

  abbrev pub all_of : (A → Bool) → List A → Bool
  all_of p xs = list_all p xs

  -- Without the element at i, counted from 0
  abbrev pub without : ℕ → List A → List A
  without i [] = []
  without zero (x ∷ xs) = xs
  without (suc i) (x ∷ xs) = x ∷ without i xs

-- The pairs of elements at the same place
abbrev pub pair_up : List ℕ → List ℕ → List (ℕ × ℕ)
pair_up [] ys = []
pair_up (x ∷ xs) [] = []
pair_up (x ∷ xs) (y ∷ ys) = (x, y) ∷ pair_up xs ys

abbrev pub same_list : List ℕ → List ℕ → Bool
same_list xs ys = pointwise eqb xs ys

abbrev pub same_whole : ℤ → ℤ → Bool
same_whole (pos a) (pos b) = eqb a b
same_whole (pos a) (negsuc b) = false
same_whole (negsuc a) (pos b) = false
same_whole (negsuc a) (negsuc b) = eqb a b

-- Where x stands first, counted from 0; the list's length if nowhere
abbrev pub index_of : ℕ → List ℕ → ℕ
index_of x [] = zero
index_of x (y ∷ ys) = let r = suc (index_of x ys) in cond (eqb x y) zero r
