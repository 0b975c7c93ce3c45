-- What Propagate, Decide and Backtrack store in place: a trail that is cut, and the new atoms or those brought behind it.
use mathlib.Core.Path.{◌≡◌, ◌∙◌, ap, ap₂, refl, subst, sym, transport}
use mathlib.Core.Option.{none, some}
use mathlib.Core.Bool.{false}
use mathlib.Core.List.{List, Memᴰ, [], ◌++◌, ◌∷◌}
use Prim.Native.Nat.{◌+◌, ◌-◌, ◌<◌, ◌≤◌, min, suc, zero, ℕ}
use native.Mathlib.Decide.{dec_le}
use native.Mathlib.Omega.{arith}
use lib.ListN.{drop, get_or-map, get_or, length, length-map, length-take, replicate, set, take}
use lib.Seq.{drop-drop, take_all, take-length, take-suc}
use Rattle.std.proofs.lemmas.List.{length_push, take-append-drop}
use Rattle.std.proofs.lemmas.List.FromFn.{get_or-enumerate_from, length-enumerate_from}
use Rattle.std.proofs.lemmas.Slice.Zip.{get_or-zip, length-zip}
use Rattle.std.specs.List.{enumerate_from, zip}
use Rattle.basis.specs.Atoms.{no_atom}
use Rattle.basis.specs.Limits.{most_atoms, most_entries, most_variables}
use Rattle.basis.specs.declared.Atom.{Atom}
use Rattle.lists.proofs.Arrays.{exactly_take, get_d_any}
use Rattle.lists.proofs.Members.{get_d_mem}
use Rattle.lists.specs.Arrays.{exactly}
use Rattle.calculus.specs.Clauses as clauses
use Rattle.calculus.specs.Rules.{bring, source_atom, source_atoms}
use Rattle.calculus.specs.Trails as calculus
use Rattle.calculus.specs.Trails.{Trail, background}
use Rattle.clauses.specs.declared.Instanced.{Instanced}
use Rattle.rules.specs.declared.Run.{Run}
use Rattle.rules.proofs.Runs.{restored}
use Rattle.rules.specs.Records.{source_kept, with_atoms, with_brought, without_entries}
use Rattle.asking.specs.Steps.{no_source, source_of}
use Rattle.asking.specs.declared.Source.{Source}
use Rattle.testing.proofs.New.{new_few, stored_new}
use Rattle.testing.proofs.Gathering.{step_says}
use Rattle.testing.specs.Asked.{Gathers, known_atoms, step_atoms}
use Rattle.testing.specs.New.{new_atoms, packed_atoms, pushed_atoms}
use Rattle.lists.specs.declared.Held.{Held}
use Rattle.testing.specs.declared.Tested.{Tested}
use Rattle.trail.proofs.Stored.{stored_back, stored_pushed}
use Rattle.trail.specs.Entries.{OwnTrail, Recorded, Stored, blank_entry, packed_entry, trail_of}
use Rattle.trail.specs.declared.Entry.{Entry}

-- No more atoms are new than a clause has.
pub few_new : {w : Tested} {ts az : List Atom} {f : Held Atom most_atoms} → Gathers w ts az → f ≡ packed_atoms (new_atoms (known_atoms w) (step_atoms w)) → f.n ≤ most_atoms
few_new {w} G e = omega (arith, ap (λ (q : Held Atom most_atoms). q.n) e, new_few (known_atoms w) (step_atoms w), ap length (step_says G), G.few_step)

-- The run that Backtrack appends to, with one clause more learned and no conflict
abbrev pub backtracked : ℕ → Instanced → Run → Run
backtracked k blank q = record { version = q.version; constants = q.constants; input = q.input; learned = q.learned + 1; level = k; length = q.length; stands = false; trail = q.trail; conflict = blank }

-- ---- the new atoms appended

-- What is stored is the trail with the entry and the new atoms.
pub appended_stored : {es : List Entry} {t : Trail} {e : Entry} {x : calculus.Entry} {m : ℕ} (f : Held Atom most_atoms) (az : List Atom) → f ≡ packed_atoms az → f.n ≤ most_atoms → m + f.n < most_entries
    → Stored es m t → Recorded e x → Stored (with_atoms (set es m e) m f.at f.n) (m + f.n + 1) (pushed_atoms az (x ∷ t))
appended_stored {es} {t} {e} {x} {m} f az p few room S R =
    subst (λ (q : List Atom). Stored (with_atoms (set es m e) m f.at f.n) (m + f.n + 1) (pushed_atoms q (x ∷ t))) whole
    (subst (λ (i : ℕ). Stored (with_atoms (set es m e) m f.at f.n) i (pushed_atoms (take f.n az) (x ∷ t))) (omega arith) (go f.n (omega arith)))
  where
    whole : take f.n az ≡ az
    whole = ap (λ (q : Held Atom most_atoms). take q.n az) p ∙ take-length az

    go : (j : ℕ) → j ≤ f.n → Stored (with_atoms (set es m e) m f.at j) (m + suc j) (pushed_atoms (take j az) (x ∷ t))
    go zero h = subst (λ (i : ℕ). Stored (set es m e) i (x ∷ t)) (omega arith) (stored_pushed S (omega arith) R)
    go (suc j) h =
        let more : j + 1 ≡ suc j = omega arith in
        let next : m + suc j + 1 ≡ m + suc (suc j) = omega arith in
        let W = set (with_atoms (set es m e) m f.at j) (m + suc j) (packed_entry (background (get_or f.at j no_atom) none)) in
        subst (λ (i : ℕ). Stored W (m + suc (suc j)) (pushed_atoms (take i az) (x ∷ t))) more (subst (λ (i : ℕ). Stored W i (pushed_atoms (take (j + 1) az) (x ∷ t))) next
        (stored_new (x ∷ t) f az j p (omega arith) few (omega arith) (record { is = refl; short = tt }) (go j (omega arith))))

-- ---- the trail cut

set_next : {A : Type 0} (l after : List A) (k : ℕ) (x : A) → k < length l → set (take (suc k) l ++ after) k x ≡ take k l ++ (x ∷ after)
set_next [] after k x h = absurd (omega arith)
set_next (y ∷ l) after zero x h = refl
set_next {A} (y ∷ l) after (suc k) x h = ap {B = List A} (λ r. y ∷ r) (set_next l after k x (omega arith))

-- The last d of n entries are blank, and nothing else is changed.
without_last : (es : List Entry) (n d : ℕ) → n ≤ length es → d ≤ n → without_entries es n d ≡ take (n - d) es ++ (replicate d blank_entry ++ drop n es)
without_last es n zero long h = let whole : n ≡ n - 0 = omega arith in sym (take-append-drop n es) ∙ ap (λ k. take k es ++ drop n es) whole
without_last es n (suc d) long h =
    let after = replicate d blank_entry ++ drop n es in
    let at : n - d ≡ suc (n - suc d) = omega arith in
    ap (λ l. set l (n - suc d) blank_entry) (without_last es n d long (omega arith) ∙ ap (λ k. take k es ++ after) at) ∙ set_next es after (n - suc d) blank_entry (omega arith)

-- The entries from m up to n filled with blanks
pub blanked : (es : List Entry) (n m k : ℕ) → k ≡ min m n → n ≤ length es → take k es ++ (replicate (n - k) blank_entry ++ drop (n - k) (drop k es)) ≡ without_entries es n (n - m)
blanked es n m k e long =
    let all : k + (n - k) ≡ n = omega arith in
    let kept : n - (n - m) ≡ k = omega arith in
    let gone : n - k ≡ n - m = omega arith in
    ap (λ l. take k es ++ (replicate (n - k) blank_entry ++ l)) (drop-drop (n - k) k es ∙ ap (λ i. drop i es) all)
    ∙ ap₂ (λ i d. take i es ++ (replicate d blank_entry ++ drop n es)) (sym kept) gone
    ∙ sym (without_last es n (n - m) long (omega arith))

-- What is stored is what is kept.
pub cut_stored : (es : List Entry) (n m : ℕ) → m ≤ n → OwnTrail es n → Stored (without_entries es n (n - m)) m (trail_of es m)
cut_stored es n m h S =
    let left : n - (n - m) ≡ m = omega arith in
    subst (λ (i : ℕ). Stored (without_entries es n (n - m)) i (trail_of es i)) left (go (n - m) (omega arith))
  where
    go : (d : ℕ) → d ≤ n → Stored (without_entries es n d) (n - d) (trail_of es (n - d))
    go zero h = let whole : n ≡ n - 0 = omega arith in subst (λ (i : ℕ). Stored es i (trail_of es i)) whole S
    go (suc d) h = stored_back (without_entries es n d) es (n - d) (n - suc d) blank_entry (omega arith) refl (go d (omega arith))

-- ---- the atoms brought

-- The first constants of an array of 12 are 12 at most.
kept_first : (n : ℕ) (τ : List ℕ) → length τ ≡ most_variables → take n τ ≡ exactly (min most_variables n) 0 τ
kept_first n τ long = elim (dec_le n most_variables) [
  | yes h ↦ let least : n ≡ min most_variables n = omega arith in ap (λ (k : ℕ). take k τ) least ∙ sym (exactly_take 0 (min most_variables n) τ (omega arith))
  | no h ↦
      let least : most_variables ≡ min most_variables n = omega arith in
      take_all n τ (omega arith) ∙ sym (take_all most_variables τ (omega arith)) ∙ ap (λ (k : ℕ). take k τ) least ∙ sym (exactly_take 0 (min most_variables n) τ (omega arith))
]

pub recorded_source : {e : Entry} {a : Atom} (z : Source) → length z.instance ≡ most_variables → {τ : List ℕ} → τ ≡ take z.count z.instance
    → Recorded e (background a (some (record { clause = z.clause; number = z.number; sign = z.sign; instance = take most_variables τ }))) → Recorded e (background a (some (source_kept z)))
recorded_source {e} {a} z long q =
    subst (λ (τ : List ℕ). Recorded e (background a (some (record { clause = z.clause; number = z.number; sign = z.sign; instance = τ })))) (ap (take most_variables) q ∙ take_all most_variables (take z.count z.instance) (omega (arith, length-take z.count z.instance)) ∙ kept_first z.count z.instance long)

-- Of two lists side by side and counted, the item with the number i
pub pair_at : {A B : Type 0} (ks : List A) (vs : List B) (i : ℕ) {j : ℕ} {a : A} {b : B} → let all = enumerate_from 0 (zip ks vs) in i < length all → (j, (a, b)) ≡ get_or all i (j, (a, b))
    → (j ≡ i) × (a ≡ get_or ks i a) × (b ≡ get_or vs i b) × (i < length ks) × (i < length vs)
pair_at ks vs i {j} {a} {b} h e =
    let both = zip ks vs in
    let few : i < min (length ks) (length vs) = omega (arith, h, length-enumerate_from 0 both, length-zip ks vs) in
    let x = e ∙ get_or-enumerate_from 0 both i (j, (a, b)) (omega (arith, few, length-zip ks vs)) ∙ ap (λ p. (0 + i, p)) (get_or-zip ks vs i (a, b) (omega (arith, few)) (omega (arith, few))) in
    (omega (arith, ap (λ p. p.0) x), ap (λ p. p.1.0) x, ap (λ p. p.1.1) x, omega (arith, few), omega (arith, few))

-- One more of the atoms brought is stored.
pub brings_turn : (first : Run) {now : Run} (az : List Atom) (zs : List Source) (m : ℕ) {Y : Type 0} (yielded : List Y) (y : Y) → now ≡ restored first (with_brought first.trail m az zs (length yielded)) → {j : ℕ} {a : Atom} {z : Source}
    → (j ≡ length yielded) × (a ≡ get_or az (length yielded) a) × (z ≡ get_or zs (length yielded) z) × (length yielded < length az) × (length yielded < length zs) → {e : Entry} → Recorded e (background a (some (source_kept z)))
    → restored now (set now.trail (m + 1 + j) e) ≡ restored first (with_brought first.trail m az zs (length (yielded ++ (y ∷ []))))
brings_turn first {now} az zs m yielded y is {j} {a} {z} at {e} R =
    let i = length yielded in
    let slot : m + 1 + j ≡ m + suc i = omega (arith, at.0) in
    let more : suc i ≡ length (yielded ++ (y ∷ [])) = omega (arith, length_push yielded y) in
    let atom : a ≡ get_or az i no_atom = at.1 ∙ get_d_any az i a no_atom at.3 in
    let source : z ≡ get_or zs i no_source = at.2 ∙ get_d_any zs i z no_source at.4 in
    let own : e ≡ packed_entry (background (get_or az i no_atom) (some (source_kept (get_or zs i no_source)))) = R.is ∙ ap₂ (λ (x : Atom) (w : Source). packed_entry (background x (some (source_kept w)))) atom source in
    (λ k. restored (is k) (set (is k).trail (slot k) (own k))) ∙ ap (λ (n : ℕ). restored first (with_brought first.trail m az zs n)) more

brought_more : (cs : List clauses.Clause) (zs : List calculus.Source) (z : calculus.Source) (t : Trail) → bring cs (zs ++ (z ∷ [])) t ≡ background (source_atom cs z) (some z) ∷ bring cs zs t
brought_more cs [] z t = refl
brought_more cs (y ∷ zs) z t = brought_more cs zs z (background (source_atom cs y) (some y) ∷ t)

-- What is stored is the trail with the decision and the atoms that it brings.
pub brought_stored : {es : List Entry} {t : Trail} {e : Entry} {x : calculus.Entry} {m n : ℕ} (cs : List clauses.Clause) (zs : List calculus.Source) (az : List Atom) (held : List Source) → n ≡ length zs → m + n < most_entries
    → ((j : ℕ) → j < n → get_or az j no_atom ≡ get_or (source_atoms cs zs) j no_atom) → ((j : ℕ) → j < n → source_kept (get_or held j no_source) ≡ get_or zs j (source_of no_source))
    → ((z : calculus.Source) → Memᴰ z zs → length z.instance ≤ most_variables) → Stored es m t → Recorded e x → Stored (with_brought (set es m e) m az held n) (m + n + 1) (bring cs zs (x ∷ t))
brought_stored {es} {t} {e} {x} {m} {n} cs zs az held counted room atoms sources short S R =
    subst (λ (q : List calculus.Source). Stored (with_brought (set es m e) m az held n) (m + n + 1) (bring cs q (x ∷ t))) (take_all n zs (omega arith))
    (subst (λ (i : ℕ). Stored (with_brought (set es m e) m az held n) i (bring cs (take n zs) (x ∷ t))) (omega arith) (go n (omega arith)))
  where
    go : (j : ℕ) → j ≤ n → Stored (with_brought (set es m e) m az held j) (m + suc j) (bring cs (take j zs) (x ∷ t))
    go zero h = subst (λ (i : ℕ). Stored (set es m e) i (x ∷ t)) (omega arith) (stored_pushed S (omega arith) R)
    go (suc j) h =
        let z = get_or zs j (source_of no_source) in
        let inside : j < length zs = omega arith in
        let atom : get_or az j no_atom ≡ source_atom cs z = atoms j (omega arith) ∙ get_d_any (source_atoms cs zs) j no_atom (source_atom cs (source_of no_source)) (omega (arith, length-map zs (source_atom cs))) ∙ get_or-map (source_atom cs) zs j (source_of no_source) in
        let source = sources j (omega arith) in
        let trail : bring cs (take (suc j) zs) (x ∷ t) ≡ background (source_atom cs z) (some z) ∷ bring cs (take j zs) (x ∷ t) = ap (λ (q : List calculus.Source). bring cs q (x ∷ t)) (take-suc zs j (source_of no_source) inside) ∙ brought_more cs (take j zs) z (x ∷ t) in
        let next : m + suc j + 1 ≡ m + suc (suc j) = omega arith in
        transport (λ i. Stored (with_brought (set es m e) m az held (suc j)) (next i) (sym trail i))
        (stored_pushed (go j (omega arith)) (omega arith) (record { is = λ i. packed_entry (background (atom i) (some (source i))); short = short z (get_d_mem zs j (source_of no_source) inside) }))
