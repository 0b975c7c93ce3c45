-- Atoms gathered entry by entry and atom by atom, and what the record of them says.
use mathlib.Core.Path.{◌∙◌, ◌≡◌, ap, ap₂, refl, subst, sym}
use mathlib.Core.List.{List, [], ◌++◌, ◌∷◌, append_assoc, append-nil}
use mathlib.Core.Bool.{false, true}
use Prim.Native.Nat.{◌+◌, ◌<◌, ◌≤◌, suc, zero, ℕ}
use native.Mathlib.Numerals.{add-one}
use native.Mathlib.Omega.{arith}
use lib.ListN.{drop, get_or, length, length-append, length-take, replicate, take, take-append-drop}
use lib.Seq.{drop-append-le, drop_at, get_or-take, length-take-le, split_at, take_at, take-take}
use Rattle.basis.specs.Atoms.{no_atom}
use Rattle.basis.specs.Limits.{most_atoms, most_entries, most_tested}
use Rattle.basis.specs.declared.Atom.{Atom}
use Rattle.lists.proofs.Arrays.{exactly_none, take_exactly}
use Rattle.lists.proofs.Walks.{take_more}
use Rattle.lists.specs.Arrays.{exactly}
use Rattle.calculus.specs.Trails as calculus
use Rattle.calculus.specs.Trails.{Trail, atoms_of, background, foreground}
use Rattle.instances.proofs.Others.{stored_more}
use Rattle.trail.specs.Entries.{entries_of, entry_as, entry_of, past_end, trail_of}
use Rattle.trail.specs.declared.Entry.{Entry}
use Rattle.trail.specs.declared.Kind.{Kind}
use Rattle.trail.specs.declared.Kind.TheVariants.{Background, Brought, Propagated, Decided}
use Rattle.testing.specs.Asked.{Gathers, GathersOnce, InRoom, is_background, known_atoms, packed_tested, step_atoms, tested_atoms, tested_with}
use Rattle.testing.specs.declared.Tested.{Tested}

-- ---- the walks

atom_of : (e : Entry) (t : Trail) → is_background (entry_of e) ≡ true → atoms_of (entry_of e ∷ t) ≡ atoms_of t ++ (e.atom ∷ [])
atom_of e t h = go e.kind h
  where
    go : (k : Kind) → is_background (entry_as k e) ≡ true → atoms_of (entry_as k e ∷ t) ≡ atoms_of t ++ (e.atom ∷ [])
    go Background h = refl
    go Brought h = refl
    go Propagated h = absurd (let z : ◌≡◌ {A = ℕ} 0 1 = cc in omega arith)
    go Decided h = absurd (let z : ◌≡◌ {A = ℕ} 0 1 = cc in omega arith)

no_atom_of : (e : calculus.Entry) (t : Trail) → is_background e ≡ false → atoms_of (e ∷ t) ≡ atoms_of t
no_atom_of (foreground l o) t h = refl
no_atom_of (background a o) t h = absurd (let z : ◌≡◌ {A = ℕ} 0 1 = cc in omega arith)

-- The next entry is an atom, or it has none.
pub atoms_turn : (es : List Entry) (k : ℕ) → is_background (entry_of (get_or es k past_end)) ≡ true
    → atoms_of (trail_of es (k + 1)) ≡ atoms_of (trail_of es k) ++ ((get_or es k past_end).atom ∷ [])
atoms_turn es k b = ap (λ n. atoms_of (trail_of es n)) (add-one k) ∙ atom_of (get_or es k past_end) (trail_of es k) b

pub atoms_skip : (es : List Entry) (k : ℕ) → is_background (entry_of (get_or es k past_end)) ≡ false → atoms_of (trail_of es (k + 1)) ≡ atoms_of (trail_of es k)
atoms_skip es k b = ap (λ n. atoms_of (trail_of es n)) (add-one k) ∙ no_atom_of (entry_of (get_or es k past_end)) (trail_of es k) b

pub atoms_few : (es : List Entry) (k : ℕ) → length (atoms_of (trail_of es k)) ≤ k
atoms_few es zero = omega arith
atoms_few es (suc k) = omega (arith, go (entry_of (get_or es k past_end)) (trail_of es k), atoms_few es k)
  where
    go : (e : calculus.Entry) (t : Trail) → length (atoms_of (e ∷ t)) ≤ suc (length (atoms_of t))
    go (foreground l o) t = omega arith
    go (background a o) t = omega (arith, length-append (atoms_of t) (a ∷ []))

-- The first n entries of an array, as a slice, are its trail.
trail_taken : (es : List Entry) (n k : ℕ) → k ≤ n → trail_of (take n es) k ≡ trail_of es k
trail_taken es n zero h = refl
trail_taken es n (suc k) h = ap₂ {C = Trail} (λ e t. entry_of e ∷ t) (get_or-take n es k past_end h) (trail_taken es n k (omega arith))

pub first_entries : (es : List Entry) (n : ℕ) → n ≤ length es → entries_of (take n es) ≡ trail_of es n
first_entries es n h = ap (trail_of (take n es)) (length-take-le n es h) ∙ trail_taken es n n (omega arith)

-- ---- gathered

-- One more of the step's
packed_more : (ts az : List Atom) (a : Atom) → length (ts ++ az) < most_tested → tested_with (packed_tested ts az) a ≡ packed_tested ts (az ++ (a ∷ []))
packed_more ts az a h =
    let more = stored_more no_atom most_tested (length (ts ++ az)) _ (ts ++ az) (ts ++ (az ++ (a ∷ []))) a refl refl h (sym (append_assoc ts az (a ∷ []))) in
    λ i. record { known = length ts; count = more.0 i; atoms = more.1 i }

-- None yet, and one more of a trail's, which are not yet told from a step's
pub none_packed : {a : Atom} → a ≡ no_atom → record { known = 0; count = 0; atoms = replicate most_tested a } ≡ packed_tested [] []
none_packed e = λ i. record { known = 0; count = 0; atoms = (ap (replicate most_tested) e ∙ sym (exactly_none no_atom most_tested)) i }

pub trail_more : {t : Tested} (ts : List Atom) {us : List Atom} (a : Atom) → t ≡ packed_tested [] ts → us ≡ ts ++ (a ∷ []) → length ts < most_tested → tested_with t a ≡ packed_tested [] us
trail_more {t} ts {us} a p q h = ap (λ r. tested_with r a) p ∙ packed_more [] ts a h ∙ ap (packed_tested []) (sym q)

-- The trail's alone
pub gathers_trail : {t : Tested} {ts : List Atom} → length ts ≤ most_entries → t ≡ packed_tested [] ts → Gathers (record { known = t.count; count = t.count; atoms = t.atoms }) ts []
gathers_trail {t} {ts} few p =
    let whole = sym (append-nil ts) in
    record {
      few_known = few;
      few_step = omega arith;
      packed = (λ i. record { known = (p i).count; count = (p i).count; atoms = (p i).atoms })
          ∙ (λ i. record { known = length ts; count = length (whole i); atoms = exactly most_tested no_atom (whole i) });
    }

pub gathers_more : {t : Tested} {ts az bz : List Atom} (a : Atom) → Gathers t ts az → length az < most_atoms → bz ≡ az ++ (a ∷ []) → Gathers (tested_with t a) ts bz
gathers_more {t} {ts} {az} {bz} a G h e = record {
  few_known = G.few_known;
  few_step = omega (arith, ap length e, length-append az (a ∷ []));
  packed = ap (λ r. tested_with r a) G.packed ∙ packed_more ts az a (omega (arith, length-append ts az, G.few_known)) ∙ ap (packed_tested ts) (sym e);
}

-- Of an array's first entries the atoms are those of its trail.
pub gathers_first : {t : Tested} {az : List Atom} (es : List Entry) {m : ℕ} (n : ℕ) → m ≡ n → n ≤ length es → Gathers t (atoms_of (entries_of (take m es))) az
    → Gathers t (atoms_of (trail_of es n)) az
gathers_first {t} {az} es n e h = subst (λ r. Gathers t (atoms_of r) az) (ap (λ k. entries_of (take k es)) e ∙ first_entries es n h)

-- ---- the known atoms, which are the first i, and behind them the step's up to the first j

module _ (l : List Atom) (i j : ℕ) (h : i ≤ j) where
  pub both_parts : take i l ++ drop i (take j l) ≡ take j l
  both_parts = ap (λ r. r ++ drop i (take j l)) (sym (take-take i j l h)) ∙ take-append-drop i (take j l)

  -- One more, and what may stand behind it
  pub part_more : j < length l → drop i (take (j + 1) l) ≡ drop i (take j l) ++ (get_or l j no_atom ∷ [])
  part_more k = ap (drop i) (take_more l j no_atom k) ∙ drop-append-le i (take j l) (get_or l j no_atom ∷ []) (omega (arith, length-take j l))

  pub part_split : j < length l → drop i l ≡ drop i (take j l) ++ (get_or l j no_atom ∷ drop (suc j) l)
  part_split k = ap (drop i) (split_at l j no_atom k) ∙ drop-append-le i (take j l) (get_or l j no_atom ∷ drop (suc j) l) (omega (arith, length-take j l))

-- ---- what the record says

module _ {t : Tested} {ts az : List Atom} (G : Gathers t ts az) where
  few : length (ts ++ az) ≤ most_tested
  few = omega (arith, length-append ts az, G.few_known, G.few_step)

  pub counted_room : length az < most_atoms → t.count < most_tested
  counted_room h = omega (arith, length-append ts az, G.few_known, ap (λ (u : Tested). u.count) G.packed)

  pub tested_says : tested_atoms t ≡ ts ++ az
  tested_says = ap tested_atoms G.packed ∙ take_exactly no_atom most_tested (ts ++ az) few

  pub known_says : known_atoms t ≡ ts
  known_says =
      ap known_atoms G.packed
      ∙ sym (take-take (length ts) (length (ts ++ az)) (exactly most_tested no_atom (ts ++ az)) (omega (arith, length-append ts az)))
      ∙ ap (take (length ts)) (take_exactly no_atom most_tested (ts ++ az) few)
      ∙ take_at ts az (length ts) refl

  pub step_says : step_atoms t ≡ az
  step_says = ap₂ (λ (k : ℕ) r. drop k r) (ap (λ r. r.known) G.packed) tested_says ∙ drop_at ts az (length ts) refl

  pub in_room : InRoom t
  in_room = subst InRoom (sym G.packed) (record { ordered = omega (arith, length-append ts az); few = few; few_step = omega (arith, length-append ts az, G.few_step) })

pub gathers_once : GathersOnce
gathers_once t u ts az a b = a.packed ∙ sym b.packed
