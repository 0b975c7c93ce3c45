-- New atoms: found one after the other, and appended as the rules append a clause's atoms.
use mathlib.Core.Path.{◌∙◌, ◌≡◌, ap, refl, subst, sym}
use mathlib.Core.List.{List, [], ◌++◌, ◌∷◌, append_assoc, append-nil}
use mathlib.Core.Bool.{Bool, ◌||◌, cond, false, true}
use mathlib.Core.Option.{none}
use Prim.Native.Nat.{◌+◌, ◌<◌, ◌≤◌, suc, ℕ}
use native.Mathlib.Omega.{arith}
use Rattle.std.proofs.Math.Bool.{or_comm}
use lib.Dec.{T}
use lib.ListN.{drop, drop_of_length-le, get_or, length, length-take, set, take}
use Rattle.basis.specs.Atoms.{no_atom}
use Rattle.basis.specs.Limits.{most_atoms, most_entries}
use Rattle.basis.specs.declared.Atom.{Atom}
use Rattle.lists.proofs.Arrays.{get_d_exactly}
use Rattle.lists.proofs.Walks.{any_of_more, take_more}
use Rattle.lists.specs.Arrays.{pushed}
use Rattle.lists.specs.Lists.{any_of}
use Rattle.calculus.proofs.Merged.{same_atom→eq}
use Rattle.calculus.specs.Clauses.{Clause, ground, ground_atoms, no_literal, same_atom}
use Rattle.calculus.specs.Rules.{propagated_trail}
use Rattle.calculus.specs.Trails.{Origin, Trail, append_atoms, atom_on_trail, atoms_of, background, foreground}
use Rattle.instances.proofs.Others.{stored_more}
use Rattle.trail.proofs.Stored.{stored_pushed}
use Rattle.trail.specs.Entries.{Recorded, Stored}
use Rattle.trail.specs.declared.Entry.{Entry}
use Rattle.testing.proofs.Gathering.{both_parts, part_more}
use Rattle.testing.specs.New.{new_atoms, packed_atoms, pushed_atoms}
use Rattle.lists.specs.declared.Held.{Held}

-- ---- found one after the other

-- One atom more at the end
new_more : (known xs : List Atom) (x : Atom) → new_atoms known (xs ++ (x ∷ [])) ≡ new_atoms known xs ++ cond (any_of (same_atom x) (known ++ xs)) [] (x ∷ [])
new_more known [] x = ap (λ r. cond (any_of (same_atom x) r) [] (x ∷ [])) (sym (append-nil known))
new_more known (y ∷ xs) x =
    ap (λ r. cond (any_of (same_atom y) known) r (y ∷ r))
    (new_more (known ++ (y ∷ [])) xs x
    ∙ ap (λ r. new_atoms (known ++ (y ∷ [])) xs ++ cond (any_of (same_atom x) r) [] (x ∷ [])) (append_assoc known (y ∷ []) xs))
    ∙ go (any_of (same_atom y) known) (new_atoms (known ++ (y ∷ [])) xs) (cond (any_of (same_atom x) (known ++ (y ∷ xs))) [] (x ∷ []))
  where
    go : (b : Bool) (r s : List Atom) → cond b (r ++ s) (y ∷ (r ++ s)) ≡ cond b r (y ∷ r) ++ s
    go true r s = refl
    go false r s = refl

-- Of the atoms l the first i are known; the next, at j, is not among those before it, or it is.
module _ (l : List Atom) (i j : ℕ) (h : i ≤ j) (k : j < length l) where
  next : {b : Bool} → any_of (same_atom (get_or l j no_atom)) (take j l) ≡ b
      → new_atoms (take i l) (drop i (take (j + 1) l)) ≡ new_atoms (take i l) (drop i (take j l)) ++ cond b [] (get_or l j no_atom ∷ [])
  next {b} e =
      let x = get_or l j no_atom in
      ap (new_atoms (take i l)) (part_more l i j h k)
      ∙ new_more (take i l) (drop i (take j l)) x
      ∙ ap (λ r. new_atoms (take i l) (drop i (take j l)) ++ cond r [] (x ∷ [])) (ap (any_of (same_atom x)) (both_parts l i j h) ∙ e)

  pub known_turn : any_of (same_atom (get_or l j no_atom)) (take j l) ≡ true → new_atoms (take i l) (drop i (take (j + 1) l)) ≡ new_atoms (take i l) (drop i (take j l))
  known_turn e = next e ∙ append-nil _

  pub new_turn : any_of (same_atom (get_or l j no_atom)) (take j l) ≡ false
      → new_atoms (take i l) (drop i (take (j + 1) l)) ≡ new_atoms (take i l) (drop i (take j l)) ++ (get_or l j no_atom ∷ [])
  new_turn e = next e

pub new_none : (l : List Atom) (i : ℕ) → new_atoms (take i l) (drop i (take i l)) ≡ []
new_none l i = ap (new_atoms (take i l)) (drop_of_length-le (take i l) {i = i} (omega (arith, length-take i l)))

-- One more, after the others
pub packed_more : (az : List Atom) (a : Atom) → length az < most_atoms → pushed (packed_atoms az) a ≡ packed_atoms (az ++ (a ∷ []))
packed_more az a h = let more = stored_more no_atom most_atoms (length az) _ az _ a refl refl h refl in λ i. record { n = more.0 i; at = more.1 i }

pub new_few : (known az : List Atom) → length (new_atoms known az) ≤ length az
new_few known [] = omega arith
new_few known (a ∷ az) = go (any_of (same_atom a) known) (new_atoms (known ++ (a ∷ [])) az) (new_few (known ++ (a ∷ [])) az)
  where
    go : (b : Bool) (r : List Atom) → length r ≤ length az → length (cond b r (a ∷ r)) ≤ suc (length az)
    go true r h = omega arith
    go false r h = omega arith

-- ---- appended

-- An atom is on a trail if it is one of the trail's atoms.
pub atoms_on : (t : Trail) (a : Atom) → any_of (same_atom a) (atoms_of t) ≡ atom_on_trail a t
atoms_on [] a = refl
atoms_on (foreground l o ∷ t) a = atoms_on t a
atoms_on (background b o ∷ t) a =
    any_of_more (same_atom a) (atoms_of t) b ∙ ap (λ r. r || same_atom a b) (atoms_on t a) ∙ or_comm (atom_on_trail a t) (same_atom a b)

append_known : (az known : List Atom) (t : Trail) → ((b : Atom) → any_of (same_atom b) known ≡ atom_on_trail b t) → append_atoms az t ≡ pushed_atoms (new_atoms known az) t
append_known [] known t same = refl
append_known (a ∷ az) known t same = go (atom_on_trail a t) refl (λ u h. append_known az (known ++ (a ∷ [])) u h)
  where
    more : List Atom
    more = known ++ (a ∷ [])

    of_more : (b : Atom) → any_of (same_atom b) more ≡ (atom_on_trail b t || same_atom b a)
    of_more b = any_of_more (same_atom b) known a ∙ ap (λ r. r || same_atom b a) (same b)

    already : atom_on_trail a t ≡ true → (b : Atom) (s : Bool) → same_atom b a ≡ s → (atom_on_trail b t || s) ≡ atom_on_trail b t
    already e b true q =
        let on : atom_on_trail b t ≡ true = subst (λ x. atom_on_trail x t ≡ true) (sym (same_atom→eq b a (subst T (sym q) tt))) e in
        rw on
    already e b false q = or_comm (atom_on_trail b t) false

    go : (b : Bool) → atom_on_trail a t ≡ b → ((u : Trail) → ((x : Atom) → any_of (same_atom x) more ≡ atom_on_trail x u) → append_atoms az u ≡ pushed_atoms (new_atoms more az) u)
        → append_atoms az (cond (atom_on_trail a t) t (background a none ∷ t)) ≡ pushed_atoms (new_atoms known (a ∷ az)) t
    go true e ih =
        ap (λ b. append_atoms az (cond b t (background a none ∷ t))) e ∙ ih t (λ b. of_more b ∙ already e b (same_atom b a) refl)
        ∙ ap (λ b. pushed_atoms (cond b (new_atoms more az) (a ∷ new_atoms more az)) t) (sym (same a ∙ e))
    go false e ih =
        ap (λ b. append_atoms az (cond b t (background a none ∷ t))) e ∙ ih (background a none ∷ t) (λ b. of_more b ∙ or_comm (atom_on_trail b t) (same_atom b a))
        ∙ ap (λ b. pushed_atoms (cond b (new_atoms more az) (a ∷ new_atoms more az)) t) (sym (same a ∙ e))

-- ".. then the atoms not yet on the trail, in clause order, each once": the new ones, one after the other
pub append_new : (az : List Atom) (t : Trail) → append_atoms az t ≡ pushed_atoms (new_atoms (atoms_of t) az) t
append_new az t = append_known az (atoms_of t) t (atoms_on t)

pub pushed_length : (az : List Atom) (t : Trail) → length (pushed_atoms az t) ≡ length t + length az
pushed_length [] t = omega arith
pushed_length (a ∷ az) t = omega (arith, pushed_length az (background a none ∷ t))

-- What Propagate and Backtrack name: the literal, and then the new atoms
pub propagated_new : (C : Clause) (i : ℕ) (τ : List ℕ) (o : Origin) (t : Trail)
    → propagated_trail C i τ o t ≡ pushed_atoms (new_atoms (atoms_of t) (ground_atoms τ C.atoms)) (foreground (ground τ (get_or C.literals i no_literal)) o ∷ t)
propagated_new C i τ o t = append_new (ground_atoms τ C.atoms) (foreground (ground τ (get_or C.literals i no_literal)) o ∷ t)

-- ---- stored

pushed_both : (az bz : List Atom) (t : Trail) → pushed_atoms (az ++ bz) t ≡ pushed_atoms bz (pushed_atoms az t)
pushed_both [] bz t = refl
pushed_both (a ∷ az) bz t = pushed_both az bz (background a none ∷ t)

-- The next of the new atoms stored behind the entries that the array has
pub stored_new : {es : List Entry} {e : Entry} {m : ℕ} (t : Trail) (r : Held Atom most_atoms) (az : List Atom) (j : ℕ) → r ≡ packed_atoms az → j < r.n → r.n ≤ most_atoms → m < most_entries
    → Recorded e (background (get_or r.at j no_atom) none) → Stored es m (pushed_atoms (take j az) t) → Stored (set es m e) (m + 1) (pushed_atoms (take (j + 1) az) t)
stored_new {es} {e} {m} t r az j p h few room R S =
    let counted : r.n ≡ length az = ap (λ q. q.n) p in
    let a = get_or az j no_atom in
    let same : get_or r.at j no_atom ≡ a = ap (λ q. get_or q.at j no_atom) p ∙ get_d_exactly no_atom most_atoms az j (omega arith) in
    let all : pushed_atoms (take (j + 1) az) t ≡ background a none ∷ pushed_atoms (take j az) t =
    ap (λ q. pushed_atoms q t) (take_more az j no_atom (omega arith)) ∙ pushed_both (take j az) (a ∷ []) t in
    subst (Stored (set es m e) (m + 1)) (sym all) (stored_pushed S room (subst (λ q. Recorded e (background q none)) same R))
