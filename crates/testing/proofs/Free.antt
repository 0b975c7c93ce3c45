-- The atoms that a decision brings: none of them, and no denial of one, is known or stands before it; found atom by atom.
use mathlib.Core.Path.{◌∙◌, ◌≡◌, ap, ap₂, refl, sym}
use mathlib.Core.List.{List, [], ◌++◌, ◌∷◌, append_assoc, append-nil}
use mathlib.Core.Bool.{Bool, ◌&&◌, ◌||◌, false, not, true}
use Prim.Native.Nat.{◌+◌, ◌<◌, ◌≤◌, suc, ℕ}
use native.Mathlib.Omega.{arith}
use lib.ListN.{drop, drop_of_length-le, get_or, length, length-take, take}
use Rattle.basis.specs.Atoms.{denial, no_atom}
use Rattle.basis.specs.declared.Atom.{Atom}
use Rattle.lists.specs.Lists.{any_of}
use Rattle.calculus.specs.Clauses.{same_atom}
use Rattle.calculus.specs.Tests.{atoms_undefined}
use Rattle.testing.proofs.Gathering.{both_parts, part_more, part_split}

abbrev pub defined : Atom → List Atom → Bool
defined a known = any_of (same_atom a) known || any_of (same_atom (denial a)) known

-- Some, and others behind them
free_both : (known xs ys : List Atom) → atoms_undefined known (xs ++ ys) ≡ (atoms_undefined known xs && atoms_undefined (known ++ xs) ys)
free_both known [] ys = ap (λ r. atoms_undefined r ys) (sym (append-nil known))
free_both known (x ∷ xs) ys =
    ap (λ r. not (defined x known) && r)
    (free_both (known ++ (x ∷ [])) xs ys ∙ ap (λ r. atoms_undefined (known ++ (x ∷ [])) xs && atoms_undefined r ys) (append_assoc known (x ∷ []) xs))
    ∙ go (not (defined x known)) (atoms_undefined (known ++ (x ∷ [])) xs) (atoms_undefined (known ++ (x ∷ xs)) ys)
  where
    go : (a b c : Bool) → (a && (b && c)) ≡ ((a && b) && c)
    go true b c = refl
    go false b c = refl

pub free_none : (l : List Atom) (i : ℕ) → atoms_undefined (take i l) (drop i (take i l)) ≡ true
free_none l i = ap (atoms_undefined (take i l)) (drop_of_length-le (take i l) {i = i} (omega (arith, length-take i l)))

-- Of the atoms l the first i are known; the next, at j, or its denial is among those before it, or neither is.
module _ (l : List Atom) (i j : ℕ) (h : i ≤ j) (k : j < length l) where
  told : {b : Bool} → defined (get_or l j no_atom) (take j l) ≡ b → defined (get_or l j no_atom) (take i l ++ drop i (take j l)) ≡ b
  told e = ap (defined (get_or l j no_atom)) (both_parts l i j h) ∙ e

  pub free_turn : atoms_undefined (take i l) (drop i (take j l)) ≡ true → defined (get_or l j no_atom) (take j l) ≡ false
      → atoms_undefined (take i l) (drop i (take (j + 1) l)) ≡ true
  free_turn e f =
      ap (atoms_undefined (take i l)) (part_more l i j h k) ∙ free_both (take i l) (drop i (take j l)) (get_or l j no_atom ∷ [])
      ∙ ap₂ (λ a b. a && b) e (ap (λ b. not b && true) (told f))

  pub not_free : defined (get_or l j no_atom) (take j l) ≡ true → atoms_undefined (take i l) (drop i l) ≡ false
  not_free e =
      let x = get_or l j no_atom in
      let first = drop i (take j l) in
      let rest = drop (suc j) l in
      ap (atoms_undefined (take i l)) (part_split l i j h k) ∙ free_both (take i l) first (x ∷ rest)
      ∙ ap (λ b. atoms_undefined (take i l) first && (not b && atoms_undefined ((take i l ++ first) ++ (x ∷ [])) rest)) (told e) ∙ go (atoms_undefined (take i l) first)
    where
      go : (b : Bool) → (b && false) ≡ false
      go true = refl
      go false = refl
