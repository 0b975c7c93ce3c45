-- Whether atoms are possible is decided, whatever they are: by a square of as many places as they name, whose bounds start far enough apart.
-- A step that is refused before its atoms are tested may name any.
use mathlib.Core.Path.{◌≡◌, ap, refl, subst, sym}
use mathlib.Core.Logic.{◌↔◌, ◌⊎◌, inl, inr}
use mathlib.Core.List.Memᴰ
use mathlib.Core.List.{List, Memᴰ, [], ◌++◌, ◌∷◌}
use mathlib.Core.Bool.{Bool, false, true}
use Prim.Native.Nat.{◌*◌, ◌+◌, ◌-◌, ◌<◌, ◌≤◌, suc, zero, ℕ}
use native.Mathlib.Decide.{ℕ_discrete}
use native.Mathlib.Omega.{arith}
use lib.IntN.{+ℤ_invr, ◌+ℤ◌, ◌-ℤ◌, negsuc, pos, ℤ}
use lib.Signed.{lt_z}
use Rattle.basis.specs.Atoms.{Possible}
use Rattle.basis.specs.Numbers.{whole}
use Rattle.basis.specs.declared.Atom.{Atom}
use Rattle.bounds.proofs.Draw.{drawn}
use Rattle.bounds.proofs.Put.{put_closed, put_exact, put_none}
use Rattle.bounds.proofs.Values.{values_largest}
use Rattle.bounds.specs.Squares.{Closed, Keeps, KeepsAll, put, values}
use Rattle.bounds.specs.Whole.{Together, whole_bounds}
use Rattle.bounds.specs.Choices.{NearKept, Placed}
use Rattle.bounds.proofs.Bare.{bare, bare_closed, bare_kept, near_of}
use Rattle.integers.proofs.Order.{by_order_lem, by_sum, shifted_holds, shifted_rises}
use Rattle.integers.specs.Sides.{Within, over, under}

-- ---- a square for any places and any far bound

-- Closed, and kept by exactly the values of which Q holds
pub record Squared (m : ℕ) (Q : (ℕ → ℤ) → Type 0) : Type 0 where
  pub square : ℕ → ℕ → ℤ
  pub closed : Closed whole_bounds (suc m) square
  pub exact : (v : ℕ → ℤ) → KeepsAll whole_bounds (suc m) square v ↔ Q v

abbrev Near : ℕ → ℕ → (ℕ → ℤ) → Type 0
Near m far v = (i j : ℕ) → i < suc m → j < suc m → Keeps whole_bounds v i j (pos far)

start : (m far : ℕ) → Squared m (Near m far)
start m far = record {
  square = bare far;
  closed = bare_closed far (suc m);
  exact = λ v. (λ h i j hi hj. near_of far v i j (h i j hi hj), λ h. bare_kept far (suc m) v h);
}

-- Either no values keep one bound more, or a square says so.
one_more : (m : ℕ) (Q : (ℕ → ℤ) → Type 0) → Squared m Q → (p q : ℕ) (c : ℤ) → p < suc m → q < suc m → ((v : ℕ → ℤ) → Q v → ¬ Keeps whole_bounds v p q c) ⊎ Squared m (λ v. Q v × Keeps whole_bounds v p q c)
one_more m Q S p q c hp hq = go (lt_z (c +ℤ S.square q p) (pos 0)) refl
  where
    go : (b : Bool) → lt_z (c +ℤ S.square q p) (pos 0) ≡ b → ((v : ℕ → ℤ) → Q v → ¬ Keeps whole_bounds v p q c) ⊎ Squared m (λ v. Q v × Keeps whole_bounds v p q c)
    go true e = inl (λ v h. put_none whole_bounds (suc m) S.square p q c hp hq e v ((S.exact v).1 h))
    go false e = inr (record {
      square = put whole_bounds S.square p q c;
      closed = put_closed whole_bounds (suc m) S.square S.closed p q c hp hq e;
      exact = λ v. let new = put_exact whole_bounds (suc m) S.square S.closed p q c hp hq v in
          (λ h. let both = new.0 h in ((S.exact v).0 both.0, both.1), λ h. new.1 ((S.exact v).1 h.0, h.1));
    })

-- ---- all bounds of a list

abbrev AllKept : List Atom → (ℕ → ℤ) → Type 0
AllKept [] v = Unit {0}
AllKept (a ∷ az) v = Keeps whole_bounds v a.p a.q a.c × AllKept az v

all_more : (m : ℕ) (Q : (ℕ → ℤ) → Type 0) (az : List Atom) → Placed m az → Squared m Q → ((v : ℕ → ℤ) → Q v → ¬ AllKept az v) ⊎ Squared m (λ v. Q v × AllKept az v)
all_more m Q [] h S = inr (record { square = S.square; closed = S.closed; exact = λ v. (λ k. ((S.exact v).0 k, tt), λ k. (S.exact v).1 k.0) })
all_more m Q (a ∷ az) h S = first (λ S. all_more m (λ v. Q v × Keeps whole_bounds v a.p a.q a.c) az (λ b k. h b (Memᴰ.tail k)) S) (one_more m Q S a.p a.q a.c (omega (arith, h a (Memᴰ.head refl))) (omega (arith, h a (Memᴰ.head refl))))
  where
    R : (ℕ → ℤ) → Type 0
    R v = Q v × Keeps whole_bounds v a.p a.q a.c

    rest : ((v : ℕ → ℤ) → R v → ¬ AllKept az v) ⊎ Squared m (λ v. R v × AllKept az v) → ((v : ℕ → ℤ) → Q v → ¬ AllKept (a ∷ az) v) ⊎ Squared m (λ v. Q v × AllKept (a ∷ az) v)
    rest (inl none) = inl (λ v k l. none v (k, l.0) l.1)
    rest (inr S) = inr (record { square = S.square; closed = S.closed; exact = λ v. (λ k. let t = (S.exact v).0 k in (t.0.0, (t.0.1, t.1)), λ k. (S.exact v).1 ((k.0, k.1.0), k.1.1)) })

    first : (Squared m R → ((v : ℕ → ℤ) → R v → ¬ AllKept az v) ⊎ Squared m (λ v. R v × AllKept az v)) → ((v : ℕ → ℤ) → Q v → ¬ Keeps whole_bounds v a.p a.q a.c) ⊎ Squared m R → ((v : ℕ → ℤ) → Q v → ¬ AllKept (a ∷ az) v) ⊎ Squared m (λ v. Q v × AllKept (a ∷ az) v)
    first ih (inl none) = inl (λ v k l. none v k l.0)
    first ih (inr S) = rest (ih S)

all_kept : (az : List Atom) (v : ℕ → ℤ) → ((a : Atom) → Memᴰ a az → Keeps whole_bounds v a.p a.q a.c) → AllKept az v
all_kept [] v h = tt
all_kept (a ∷ az) v h = (h a (Memᴰ.head refl), all_kept az v (λ b k. h b (Memᴰ.tail k)))

each_kept : (az : List Atom) (v : ℕ → ℤ) → AllKept az v → (a : Atom) → Memᴰ a az → Keeps whole_bounds v a.p a.q a.c
each_kept [] v h a k = absurd (Memᴰ.not-nil k)
each_kept (b ∷ az) v h a k = go (λ k. each_kept az v h.1 a k) (Memᴰ.cases_cons k)
  where
    go : (Memᴰ a az → Keeps whole_bounds v a.p a.q a.c) → (a ≡ b) ⊎ Memᴰ a az → Keeps whole_bounds v a.p a.q a.c
    go ih (inl e) = subst (λ (x : Atom). Keeps whole_bounds v x.p x.q x.c) (sym e) h.0
    go ih (inr k) = ih k

-- ---- bounds between neighbouring places

-- Place i is lower than the next: by 1 where c is -1.
abbrev pub link : ℤ → ℕ → Atom
link c i = record { p = i; q = suc i; c = c }

-- n of them, from the place s on
abbrev pub links : ℤ → ℕ → ℕ → List Atom
links c s zero = []
links c s (suc n) = link c (s + n) ∷ links c s n

pub links_out : (c : ℤ) (s n : ℕ) (a : Atom) → Memᴰ a (links c s n) → (i : ℕ) × (s ≤ i) × (i < s + n) × (a ≡ link c i)
links_out c s zero a k = absurd (Memᴰ.not-nil k)
links_out c s (suc n) a k = go (λ k. links_out c s n a k) (Memᴰ.cases_cons k)
  where
    Out : ℕ → Type 0
    Out n = (i : ℕ) × (s ≤ i) × (i < s + n) × (a ≡ link c i)

    go : (Memᴰ a (links c s n) → Out n) → (a ≡ link c (s + n)) ⊎ Memᴰ a (links c s n) → Out (suc n)
    go ih (inl e) = (s + n, omega arith, omega arith, e)
    go ih (inr k) = let (i, l, h, e) = ih k in (i, l, omega arith, e)

pub links_in : (c : ℤ) (s n i : ℕ) → s ≤ i → i < s + n → Memᴰ (link c i) (links c s n)
links_in c s zero i l h = absurd (omega arith)
links_in c s (suc n) i l h = elim (ℕ_discrete i (s + n)) [ yes e ↦ Memᴰ.head (ap (link c) e) | no e ↦ Memᴰ.tail (links_in c s n i l (omega arith)) ]

-- The order of n constants
abbrev ordering : ℕ → List Atom
ordering n = links (negsuc 0) 1 (n - 1)

-- ---- room for every place and bound of a list

abbrev places : List Atom → ℕ
places [] = zero
places (a ∷ az) = a.p + a.q + places az

abbrev largest : List Atom → ℕ
largest [] = zero
largest (a ∷ az) = over a.c + under a.c + largest az

room : (az : List Atom) (a : Atom) → Memᴰ a az → (a.p ≤ places az) × (a.q ≤ places az) × Within (largest az) a.c
room [] a k = absurd (Memᴰ.not-nil k)
room (b ∷ az) a k = go (λ k. room az a k) (Memᴰ.cases_cons k)
  where
    Room : Atom → Type 0
    Room x = (x.p ≤ places (b ∷ az)) × (x.q ≤ places (b ∷ az)) × Within (largest (b ∷ az)) x.c

    go : (Memᴰ a az → (a.p ≤ places az) × (a.q ≤ places az) × Within (largest az) a.c) → (a ≡ b) ⊎ Memᴰ a az → Room a
    go ih (inl e) = subst Room (sym e) (omega arith, omega arith, record { above = omega arith; below = omega arith })
    go ih (inr k) = let (p, q, w) = ih k in (omega arith, omega arith, record { above = omega (arith, w.above); below = omega (arith, w.below) })

-- ---- the square of the constants' order and all atoms

module _ (n : ℕ) (az : List Atom) where
  abbrev bounds : List Atom
  bounds = ordering n ++ az

  abbrev pub m : ℕ
  m = n + places bounds

  abbrev pub far : ℕ
  far = suc m * largest bounds

  placed : Placed m bounds
  placed a k = let (p, q, w) = room bounds a k in (omega arith, omega arith)

  in_order : (i : ℕ) → 1 ≤ i → i < n → Memᴰ (link (negsuc 0) i) bounds
  in_order i l h = Memᴰ.append_left az (links_in (negsuc 0) 1 (n - 1) i l (omega arith))

  in_atoms : (a : Atom) → Memᴰ a az → Memᴰ a bounds
  in_atoms a k = Memᴰ.append_right (ordering n) k

  near_kept : (v : ℕ → ℤ) → (Near m far v × AllKept bounds v) ↔ NearKept m far n az v
  near_kept v = (
    λ h. record { near = h.0; rising = λ i l k. each_kept bounds v h.1 _ (in_order i l k); every = λ a k. each_kept bounds v h.1 a (in_atoms a k) },
    λ N. (N.near, all_kept bounds v (λ a k. keeps N a (Memᴰ.append_cases (ordering n) k))),
  )
    where
      keeps : NearKept m far n az v → (a : Atom) → Memᴰ a (ordering n) ⊎ Memᴰ a az → Keeps whole_bounds v a.p a.q a.c
      keeps N a (inl k) = let (i, l, h, e) = links_out (negsuc 0) 1 (n - 1) a k in subst (λ (x : Atom). Keeps whole_bounds v x.p x.q x.c) (sym e) (N.rising i l (omega arith))
      keeps N a (inr k) = N.every a k

  -- Numbers that are possible, drawn together, keep every bound.
  kept_near : Possible whole n az → (v : ℕ → ℤ) × NearKept m far n az v
  kept_near P = (
    near.0,
    record {
      near = λ i j hi hj. near.1.near i j;
      rising = λ i l h. keeps _ (in_order i l h) (by_order_lem (P.value i) (P.value (suc i)) (P.rising i l h));
      every = λ a k. keeps a (in_atoms a k) (by_sum (P.value a.p) (P.value a.q) a.c (P.every a k));
    },
  )
    where
      near : (w : ℕ → ℤ) × Together (suc m) (largest bounds) P.value w
      near = drawn (suc m) (largest bounds) P.value

      keeps : (a : Atom) → Memᴰ a bounds → Keeps whole_bounds P.value a.p a.q a.c → Keeps whole_bounds near.0 a.p a.q a.c
      keeps a k h = let (p, q, w) = room bounds a k in near.1.kept a.p a.q a.c (omega arith) (omega arith) w h

  -- Values that keep the order and every atom, shifted until place 0 has zero
  pub shifted : (v : ℕ → ℤ) → ((i : ℕ) → 1 ≤ i → i < n → Keeps whole_bounds v i (suc i) (negsuc 0)) → ((a : Atom) → Memᴰ a az → Keeps whole_bounds v a.p a.q a.c) → Possible whole n az
  shifted v rising every = record {
    value = λ i. v i -ℤ v 0;
    at_zero = +ℤ_invr (v 0);
    rising = λ i l k. shifted_rises (v i) (v (suc i)) (v 0) (rising i l k);
    every = λ a k. shifted_holds (v a.p) (v a.q) (v 0) a.c (every a k);
  }

  -- Either the atoms are not possible, or a square stands for all that keeps them.
  pub squared : (¬ Possible whole n az) ⊎ Squared m (NearKept m far n az)
  squared = go (all_more m (Near m far) bounds placed (start m far))
    where
      go : ((v : ℕ → ℤ) → Near m far v → ¬ AllKept bounds v) ⊎ Squared m (λ v. Near m far v × AllKept bounds v) → (¬ Possible whole n az) ⊎ Squared m (NearKept m far n az)
      go (inl none) = inl (λ P. let (v, k) = kept_near P in none v ((near_kept v).1 k).0 ((near_kept v).1 k).1)
      go (inr S) = inr (record { square = S.square; closed = S.closed; exact = λ v. (λ k. (near_kept v).0 ((S.exact v).0 k), λ k. (S.exact v).1 ((near_kept v).1 k)) })

  pub possible_decided : Dec (Possible whole n az)
  possible_decided = go squared
    where
      go : (¬ Possible whole n az) ⊎ Squared m (NearKept m far n az) → Dec (Possible whole n az)
      go (inl none) = no none
      go (inr S) = let N = (S.exact _).0 (values_largest whole_bounds m S.square S.closed).keeps in yes (shifted (values whole_bounds m S.square) N.rising N.every)
