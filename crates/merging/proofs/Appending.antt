-- What one turn of each walk over a clause does to the lists that merging works on.
use mathlib.Core.Path.{◌≡◌, refl, sym, ◌∙◌, ap, ap₂}
use mathlib.Core.List.{List, [], ◌∷◌, ◌++◌, map, append_assoc, map-append}
use mathlib.Core.Bool.{Bool, true, false, cond}
use Prim.Native.Nat.{ℕ, ◌+◌, ◌≤◌, ◌<◌}
use native.Mathlib.Omega.{arith}
use lib.Dec.{eqb}
use lib.ListN.{length, get_or, take, length-append, length-map, length-take}
use Rattle.basis.specs.declared.Atom.{Atom}
use Rattle.basis.specs.declared.Literal.{Literal}
use Rattle.basis.specs.Atoms.{no_atom}
use Rattle.lists.specs.declared.Held.{Held}
use Rattle.lists.specs.Lists.{any_of, without}
use Rattle.lists.specs.Arrays.{held, held_in, pushed}
use Rattle.lists.proofs.Walks.{take_more, map_more, without_more, without_short}
use Rattle.calculus.specs.Clauses.{no_literal, same_atom}
use Rattle.joining.specs.Scratch.{both_atoms, both_literals}
use Rattle.joining.proofs.Scratch.{held_read, held_more}
use Rattle.merging.specs.Added.{add_one, add_each}

-- ---- several more

pub appended_turn : {A : Type 0} {N : ℕ} (d : A) (xs l : List A) (j : ℕ) {h : Held A N} → j < length l → length xs + length l ≤ N →
    h ≡ held N d (xs ++ take j l) → pushed h (get_or l j d) ≡ held N d (xs ++ take (j + 1) l)
appended_turn {A} {N} d xs l j h k e =
    ap (λ (o : Held A N). pushed o (get_or l j d)) e ∙ held_more d (xs ++ take j l) (get_or l j d) (omega (arith, length-append xs (take j l), length-take j l))
    ∙ ap (held N d) (append_assoc xs (take j l) _ ∙ ap (λ (m : List A). xs ++ m) (sym (take_more l j d h)))

-- One more at most
pub at_most_one : {A : Type 0} {N : ℕ} (o : Held A N) (x : A) (t : Bool) → (cond t o (pushed o x)).n ≤ o.n + 1
at_most_one o x true = omega arith
at_most_one o x false = omega arith

-- ---- atoms, each where it is new

pub add_each_more : (xs bs : List Atom) (b : Atom) → add_each xs (bs ++ (b ∷ [])) ≡ add_one (add_each xs bs) b
add_each_more xs [] b = refl
add_each_more xs (a ∷ bs) b = add_each_more (add_one xs a) bs b

pub add_each_short : (xs bs : List Atom) → length (add_each xs bs) ≤ length xs + length bs
add_each_short xs [] = omega arith
add_each_short xs (b ∷ bs) = omega (arith, add_each_short (add_one xs b) bs, go (any_of (λ a. same_atom a b) xs))
  where
    go : (t : Bool) → length (cond t xs (xs ++ (b ∷ []))) ≤ length xs + 1
    go true = omega arith
    go false = omega (arith, length-append xs (b ∷ []))

-- b, which f gives for the next atom, is stored where it is new.
pub atoms_turn : (xs : List Atom) (f : Atom → Atom) (l : List Atom) (j : ℕ) (o o' : Held Atom both_atoms) (b : Atom) (old : Bool) → j < length l → length xs + length l ≤ both_atoms →
    o ≡ held both_atoms no_atom (add_each xs (map f (take j l))) → b ≡ f (get_or l j no_atom) → old ≡ any_of (λ a. same_atom a b) (held_in o) →
    o' ≡ cond old o (pushed o b) → o' ≡ held both_atoms no_atom (add_each xs (map f (take (j + 1) l)))
atoms_turn xs f l j o o' b old h k eo eb eold e =
    let ys = add_each xs (map f (take j l)) in
    let s : length ys < both_atoms = omega (arith, add_each_short xs (map f (take j l)), length-map (take j l) f, length-take j l) in
    let known : old ≡ any_of (λ a. same_atom a b) ys = eold ∙ ap (λ (m : List Atom). any_of (λ a. same_atom a b) m) (held_read no_atom ys (omega arith) eo) in
    e ∙ ap₂ (λ (t : Bool) (m : Held Atom both_atoms). cond t m (pushed m b)) known eo ∙ go ys s (any_of (λ a. same_atom a b) ys)
    ∙ ap (λ (a : Atom). held both_atoms no_atom (add_one ys a)) eb
    ∙ ap (held both_atoms no_atom) (sym (ap (add_each xs) (map_more f l j no_atom h) ∙ add_each_more xs (map f (take j l)) (f (get_or l j no_atom))))
  where
    go : (ys : List Atom) → length ys < both_atoms → (t : Bool) → cond t (held both_atoms no_atom ys) (pushed (held both_atoms no_atom ys) b) ≡ held both_atoms no_atom (cond t ys (ys ++ (b ∷ [])))
    go ys s true = refl
    go ys s false = held_more no_atom ys b s

-- ---- literals but one

pub literals_turn : (xs : List Literal) (f : Literal → Literal) (i : ℕ) (l : List Literal) (j : ℕ) (o o' : Held Literal both_literals) (b : Literal) → j < length l → length xs + length l ≤ both_literals →
    o ≡ held both_literals no_literal (xs ++ map f (without i (take j l))) → b ≡ f (get_or l j no_literal) →
    o' ≡ cond (eqb j i) o (pushed o b) → o' ≡ held both_literals no_literal (xs ++ map f (without i (take (j + 1) l)))
literals_turn xs f i l j o o' b h k eo eb e =
    let n : length (take j l) ≡ j = omega (arith, length-take j l) in
    let m = get_or l j no_literal in
    let ys = without i (take j l) in
    let short : length (xs ++ map f ys) ≤ length xs + j = omega (arith, length-append xs (map f ys), length-map ys f, without_short i (take j l)) in
    let more : without i (take (j + 1) l) ≡ cond (eqb j i) ys (ys ++ (m ∷ [])) =
    ap (without i) (take_more l j no_literal h) ∙ without_more i (take j l) m ∙ ap (λ (k : ℕ). cond (eqb k i) ys (ys ++ (m ∷ []))) n in
    e ∙ ap₂ (λ (o : Held Literal both_literals) (b : Literal). cond (eqb j i) o (pushed o b)) eo eb ∙ go ys m (omega arith) (eqb j i)
    ∙ ap (λ (m : List Literal). held both_literals no_literal (xs ++ map f m)) (sym more)
  where
    go : (ys : List Literal) (m : Literal) → length (xs ++ map f ys) < both_literals → (t : Bool) →
        cond t (held both_literals no_literal (xs ++ map f ys)) (pushed (held both_literals no_literal (xs ++ map f ys)) (f m)) ≡ held both_literals no_literal (xs ++ map f (cond t ys (ys ++ (m ∷ []))))
    go ys m s true = refl
    go ys m s false =
        held_more no_literal (xs ++ map f ys) (f m) s
        ∙ ap (held both_literals no_literal) (append_assoc xs (map f ys) _ ∙ ap (λ (r : List Literal). xs ++ r) (sym (map-append f ys (m ∷ []))))
