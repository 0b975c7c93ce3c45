-- A trail stored in an array: what an entry pushed or taken away does to it, and that the record of a trail says that trail.
use mathlib.Core.Path.{◌∙◌, ◌≡◌, ap, ap₂, refl, subst, sym}
use mathlib.Core.List.{List, [], ◌++◌, ◌∷◌, map, map-append, reverse, reverse-cons, reverse_aux-eq}
use mathlib.Core.Option.{none, some}
use mathlib.Core.Bool.{Bool, cond, false, true}
use Prim.Native.Nat.{◌+◌, ◌<◌, ◌≤◌, pred, suc, zero, ℕ}
use native.Mathlib.Numerals.{add-one}
use native.Mathlib.Omega.{arith}
use lib.Dec.{eqb, leb}
use lib.ListN.{get_or, length, length-map, length-reverse, set, take}
use lib.Seq.{get_or-set_other, get_or-set_same, take-suc}
use Rattle.basis.specs.Limits.{most_entries, most_variables}
use Rattle.lists.proofs.Arrays.{exactly_length, set_exactly, take_exactly, unset_exactly}
use Rattle.lists.specs.Arrays.{exactly}
use Rattle.trail.specs.Entries.{AllShort, OwnTrail, Recorded, RecordedOnce, Short, Stored, entries_of, entry_of, blank_entry, packed_entry, packed_trail, past_end, trail_of}
use Rattle.trail.specs.declared.Entry.{Entry}
use Rattle.calculus.specs.Rules.{without_last}
use Rattle.calculus.specs.Trails as calculus
use Rattle.calculus.specs.Trails.{Trail, background, cut, decided, decisions, foreground, propagated}
use Rattle.trail.proofs.Walks.{entries_first, trail_length}

-- ---- one entry

sign_says : (b : Bool) → eqb (cond b 1 0) 1 ≡ b
sign_says true = refl
sign_says false = refl

pub entry_says : (e : calculus.Entry) → Short e → entry_of (packed_entry e) ≡ e
entry_says (background a none) h = refl
entry_says (background a (some z)) h = ap (λ k. background a (some (record { clause = z.clause; number = z.number; sign = z.sign; instance = k }))) (take_exactly 0 most_variables z.instance h)
entry_says (foreground l (propagated c n τ)) h = ap (λ k. foreground l (propagated c n k)) (take_exactly 0 most_variables τ h)
entry_says (foreground l (decided c n b τ k)) h = ap₂ (λ g σ. foreground l (decided c n g σ k)) (sign_says b) (take_exactly 0 most_variables τ h)

-- ---- the array

-- A slot at or past the length is not seen.
pub trail_unseen : (es : List Entry) (n i : ℕ) (x : Entry) → n ≤ i → trail_of (set es i x) n ≡ trail_of es n
trail_unseen es zero i x h = refl
trail_unseen es (suc n) i x h = ap₂ {C = Trail} (λ a b. entry_of a ∷ b) (get_or-set_other es i n x past_end (omega arith)) (trail_unseen es n i x (omega arith))

-- The first n entries of an array, first to last, are its trail turned round.
pub row_says : (es : List Entry) (n : ℕ) → n ≤ length es → map entry_of (take n es) ≡ reverse (trail_of es n)
row_says es zero h = refl
row_says es (suc n) h =
    let e = entry_of (get_or es n past_end) in
    ap (map entry_of) (take-suc es n past_end h) ∙ map-append entry_of (take n es) (get_or es n past_end ∷ [])
    ∙ ap (λ l. l ++ (e ∷ [])) (row_says es n (omega arith))
    ∙ sym (reverse-cons e (trail_of es n))

pub packed_length : (t : Trail) → length (packed_trail t) ≡ most_entries
unfolding packed_trail
packed_length t = exactly_length blank_entry most_entries (map packed_entry (reverse t))

row_length : (t : Trail) → length (map packed_entry (reverse t)) ≡ length t
row_length t = simp (length-map, length-reverse)

-- The array's first entries, as many as the trail has, are the trail's, first to last.
pub row_held : (t : Trail) → length t ≤ most_entries → take (length t) (packed_trail t) ≡ map packed_entry (reverse t)
unfolding packed_trail
row_held t h = ap (λ n. take n (packed_trail t)) (sym (row_length t)) ∙ take_exactly blank_entry most_entries (map packed_entry (reverse t)) (omega (arith, row_length t))

row_more : (x : calculus.Entry) (t : Trail) → map packed_entry (reverse (x ∷ t)) ≡ map packed_entry (reverse t) ++ (packed_entry x ∷ [])
row_more x t = ap (map packed_entry) (reverse_aux-eq t (x ∷ [])) ∙ map-append packed_entry (reverse t) (x ∷ [])

pub packed_push : (x : calculus.Entry) (t : Trail) → length t < most_entries → set (packed_trail t) (length t) (packed_entry x) ≡ packed_trail (x ∷ t)
unfolding packed_trail
packed_push x t h =
    ap (λ n. set (exactly most_entries blank_entry (map packed_entry (reverse t))) n (packed_entry x)) (sym (row_length t))
    ∙ set_exactly blank_entry most_entries (map packed_entry (reverse t)) (packed_entry x) (omega (arith, row_length t))
    ∙ ap (exactly most_entries blank_entry) (sym (row_more x t))

pub packed_drop : (x : calculus.Entry) (t : Trail) → set (packed_trail (x ∷ t)) (length t) blank_entry ≡ packed_trail t
unfolding packed_trail
packed_drop x t =
    ap₂ (λ r n. set (exactly most_entries blank_entry r) n blank_entry) (row_more x t) (sym (row_length t))
    ∙ unset_exactly blank_entry most_entries (map packed_entry (reverse t)) (packed_entry x)

-- ---- stored trails

pub stored_length : {es : List Entry} {n : ℕ} {t : Trail} → Stored es n t → length t ≡ n
stored_length {es} {n} S = ap length (sym S.says) ∙ trail_length es n

pub stored_own : {es : List Entry} {n : ℕ} {t : Trail} → Stored es n t → OwnTrail es n
stored_own S = record { few = S.few; says = refl; packed = S.packed ∙ ap packed_trail (sym S.says) }

pub stored_none : Stored (packed_trail []) 0 []
stored_none = record { few = omega arith; says = refl; packed = refl }

pub stored_push : {es : List Entry} {n : ℕ} {t : Trail} → Stored es n t → n < most_entries → (x : calculus.Entry) → Short x → Stored (set es n (packed_entry x)) (suc n) (x ∷ t)
stored_push {es} {n} {t} S h x s = record {
  few = h;
  says = ap₂ {C = Trail} (λ a b. a ∷ b)
      (ap entry_of (get_or-set_same es n (packed_entry x) past_end (omega (arith, ap length S.packed, packed_length t))) ∙ entry_says x s)
      (trail_unseen es n n (packed_entry x) (omega arith) ∙ S.says);
  packed = ap₂ (λ a k. set a k (packed_entry x)) S.packed (sym (stored_length S)) ∙ packed_push x t (omega (arith, stored_length S));
}

pub stored_pushed : {es : List Entry} {n : ℕ} {t : Trail} {e : Entry} {x : calculus.Entry} → Stored es n t → n < most_entries → Recorded e x → Stored (set es n e) (n + 1) (x ∷ t)
stored_pushed {x = x} S h R = rw (add-one, R.is) (stored_push S h x R.short)

pub stored_drop : {es : List Entry} {n : ℕ} {x : calculus.Entry} {t : Trail} → Stored es (suc n) (x ∷ t) → Stored (set es n blank_entry) n t
stored_drop {es} {n} {x} {t} S = record {
  few = omega (arith, S.few);
  says = trail_unseen es n n blank_entry (omega arith) ∙ ap without_last S.says;
  packed = ap₂ (λ a k. set a k blank_entry) S.packed (sym (ap pred (stored_length S))) ∙ packed_drop x t;
}

-- The last of the first k entries of ts taken away
pub stored_back : (es ts : List Entry) (k k' : ℕ) (e : Entry) → k ≡ suc k' → e ≡ blank_entry → Stored es k (trail_of ts k) → Stored (set es k' e) k' (trail_of ts k')
stored_back es ts k k' e q b S = rw b (stored_drop (rw q at S))

pub dropped : (es : List Entry) (n k : ℕ) (e : Entry) → n ≡ suc k → e ≡ blank_entry → OwnTrail es n → Stored (set es k e) k (without_last (trail_of es n))
dropped es n k e q b H = rw (q, b) (stored_drop (rw q at H))

-- The record of a trail within the limits says that trail.
pub packed_stored : (t : Trail) → length t ≤ most_entries → AllShort t → Stored (packed_trail t) (length t) t
packed_stored [] h s = stored_none
packed_stored (x ∷ t) h s =
    subst (λ a. Stored a (suc (length t)) (x ∷ t)) (packed_push x t h) (stored_push (packed_stored t (omega arith) s.1) h x s.0)

-- .. and so do its entries' records, first to last.
pub records_say : (t : Trail) → length t ≤ most_entries → AllShort t → entries_of (map packed_entry (reverse t)) ≡ t
records_say t h s =
    ap entries_of (sym (row_held t h)) ∙ entries_first (packed_trail t) (length t) (omega (arith, packed_length t)) ∙ (packed_stored t h s).says

pub recorded_once : RecordedOnce
recorded_once e f x a b = a.is ∙ sym b.is

-- ---- the trail cut

-- What is kept of a trail are its first entries.
pub cut_first : (es : List Entry) (i n : ℕ) → trail_of es (length (cut i (trail_of es n))) ≡ cut i (trail_of es n)
cut_first es i zero = refl
cut_first es i (suc n) = go (leb (decisions (trail_of es (suc n))) i) (cut_first es i n)
  where
    go : (b : Bool) → trail_of es (length (cut i (trail_of es n))) ≡ cut i (trail_of es n)
        → trail_of es (length (cond b (trail_of es (suc n)) (cut i (trail_of es n)))) ≡ cond b (trail_of es (suc n)) (cut i (trail_of es n))
    go true h = ap (trail_of es) (trail_length es (suc n))
    go false h = h

pub cut_short : (i : ℕ) (t : Trail) → length (cut i t) ≤ length t
cut_short i [] = omega arith
cut_short i (e ∷ t) = go (leb (decisions (e ∷ t)) i) (cut_short i t)
  where
    go : (b : Bool) → length (cut i t) ≤ length t → length (cond b (e ∷ t) (cut i t)) ≤ suc (length t)
    go true h = omega arith
    go false h = omega arith

pub kept_few : (es : List Entry) (i n : ℕ) → length (cut i (trail_of es n)) ≤ n
kept_few es i n = omega (arith, cut_short i (trail_of es n), trail_length es n)
