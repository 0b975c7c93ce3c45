-- What is written for the members of a list, one after the other: a member more, and the first of them alone.
use mathlib.Core.Path.{◌∙◌, ◌≡◌, ap, refl, sym}
use mathlib.Core.List.{List, [], ◌++◌, ◌∷◌, append_assoc, append-nil}
use Prim.Native.Nat.{◌+◌, ◌<◌, ◌≤◌, suc, zero, ℕ}
use native.Mathlib.Omega.{arith}
use lib.ListN.{get_or, length, length-append, take}
use Rattle.lists.proofs.Walks.{take_more}
use Rattle.runfile.specs.Written.{joined}

module _ {A : Type 0} (w : A → List ℕ) where
  pub joined_append : (xs ys : List A) → joined w (xs ++ ys) ≡ joined w xs ++ joined w ys
  joined_append [] ys = refl
  joined_append (x ∷ xs) ys = rw (joined_append xs ys) (sym (append_assoc (w x) (joined w xs) (joined w ys)))

  pub joined_last : (xs : List A) (x : A) → joined w (xs ++ (x ∷ [])) ≡ joined w xs ++ w x
  joined_last xs x = joined_append xs (x ∷ []) ∙ ap (λ (l : List ℕ). joined w xs ++ l) (append-nil (w x))

  -- One member more
  pub joined_more : (xs : List A) (j : ℕ) (z : A) → j < length xs → joined w (take (j + 1) xs) ≡ joined w (take j xs) ++ w (get_or xs j z)
  joined_more xs j z h = ap (joined w) (take_more xs j z h) ∙ joined_last (take j xs) (get_or xs j z)

  -- The first j members have no more bytes than the first n.
  pub joined_within : (j n : ℕ) (xs : List A) → j ≤ n → length (joined w (take j xs)) ≤ length (joined w (take n xs))
  joined_within zero n xs h = omega arith
  joined_within (suc j) zero xs h = absurd (omega arith)
  joined_within (suc j) (suc n) [] h = omega arith
  joined_within (suc j) (suc n) (x ∷ xs) h =
      omega (arith, length-append (w x) (joined w (take j xs)), length-append (w x) (joined w (take n xs)), joined_within j n xs (omega arith))
