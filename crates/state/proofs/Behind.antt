-- The steps that are read off the records of a built trail's entries are those behind its groups.
use mathlib.Core.Path.{◌∙◌, ◌≡◌, ap, ap₂, refl, subst, sym}
use mathlib.Core.List.{List, [], ◌++◌, ◌∷◌, append_assoc, append-nil, map, map-append, map-id, map-map, reverse, reverse-cons}
use mathlib.Core.Option.{none, some}
use mathlib.Core.Bool.{Bool, cond}
use Prim.Native.Nat.{◌≤◌, ℕ}
use native.Mathlib.Omega.{arith}
use lib.Dec.{T, leb, leb→le}
use lib.ListN.{length, length-append, length-map, take}
use lib.Seq.{take_all, take-append-le}
use Rattle.basis.specs.Limits.{most_brought, most_variables}
use Rattle.basis.specs.Numbers.{Numbers}
use Rattle.basis.specs.declared.Atom.{Atom}
use Rattle.lists.proofs.Arrays.{exactly_length, exactly_take, take_exactly}
use Rattle.lists.proofs.Members.{all_of_out, map_same}
use Rattle.lists.proofs.Tests.{and_l, and_r}
use Rattle.lists.specs.Arrays.{exactly}
use Rattle.lists.specs.Lists.{all_of}
use Rattle.calculus.proofs.Trails.{Built, StepOk, empty, group, grown, literal_by, push_ind, steps_brought, steps_push}
use Rattle.calculus.specs.Clauses.{Clause, ground_atoms}
use Rattle.calculus.specs.Rules.{bring, source_atom}
use Rattle.calculus.specs.Runs.{replayed, steps_of}
use Rattle.calculus.specs.States as states
use Rattle.calculus.specs.States.{Decide, Propagate, clause_at}
use Rattle.calculus.specs.Tests.{counts_few}
use Rattle.calculus.specs.Trails as trails
use Rattle.calculus.specs.Trails.{Origin, Source, Trail, append_atoms, background, decided, foreground, propagated}
use Rattle.asking.proofs.Steps.{instance_said}
use Rattle.asking.specs.Steps.{no_source, source_of, step_of}
use Rattle.asking.specs.declared.Step.{Step}
use Rattle.asking.specs.declared.Source as sources
use Rattle.trail.specs.Entries.{packed_entry}
use Rattle.trail.specs.declared.Entry.{Entry}
use Rattle.trail.specs.declared.Kind.{Kind}
use Rattle.trail.specs.declared.Kind.TheVariants.{Background, Brought, Decided, Propagated}
use Rattle.state.specs.Runs.{behind_as, behind_entries, source_kept}

-- ---- entries first to last

-- As many entries stand behind each as it brought.
abbrev Whole : List Entry → Type 0
Whole [] = Unit {0}
Whole (e ∷ es) = (e.brought ≤ length es) × Whole es

whole_append : (xs ys : List Entry) → Whole xs → Whole ys → Whole (xs ++ ys)
whole_append [] ys h k = k
whole_append (e ∷ xs) ys h k = (omega (arith, h.0, length-append xs ys), whole_append xs ys h.1 k)

-- So no step is told by entries from further on.
as_append : (k : Kind) (e : Entry) (xs ys : List Entry) → e.brought ≤ length xs → behind_as k e (xs ++ ys) ≡ behind_as k e xs
as_append Background e xs ys h = refl
as_append Brought e xs ys h = refl
as_append Propagated e xs ys h = refl
as_append Decided e xs ys h = search (take-append-le e.brought xs ys h)

behind_append : (xs ys : List Entry) → Whole xs → behind_entries (xs ++ ys) ≡ behind_entries xs ++ behind_entries ys
behind_append [] ys h = refl
behind_append (e ∷ xs) ys h = ap₂ {C = List Step} (λ a b. a ++ b) (as_append e.kind e xs ys h.0) (behind_append xs ys h.1) ∙ sym (append_assoc (behind_as e.kind e xs) (behind_entries xs) (behind_entries ys))

behind_more : (xs ys : List Entry) {es : List Entry} → es ≡ xs ++ ys → Whole xs → Whole ys → Whole es × (behind_entries es ≡ behind_entries xs ++ behind_entries ys)
behind_more xs ys e h k = (subst Whole (sym e) (whole_append xs ys h k), ap behind_entries e ∙ behind_append xs ys h)

-- ---- a trail's records

-- First to last
abbrev pub row : Trail → List Entry
row t = map packed_entry (reverse t)

row_more : (x : trails.Entry) (t : Trail) → row (x ∷ t) ≡ row t ++ (packed_entry x ∷ [])
row_more x t = ap (map packed_entry) (reverse-cons x t) ∙ map-append packed_entry (reverse t) (x ∷ [])

-- Behind an atom that no Decide brought there is no step.
push_behind : (az : List Atom) (t : Trail) → Whole (row t) → Whole (row (append_atoms az t)) × (behind_entries (row (append_atoms az t)) ≡ behind_entries (row t))
push_behind az t h = push_ind (λ u. Whole (row u) × (behind_entries (row u) ≡ behind_entries (row t))) more az t (h, refl)
  where
    more : (a : Atom) (u : Trail) → Whole (row u) × (behind_entries (row u) ≡ behind_entries (row t)) → Whole (row (background a none ∷ u)) × (behind_entries (row (background a none ∷ u)) ≡ behind_entries (row t))
    more a u (w, e) = let (v, f) = behind_more (row u) (packed_entry (background a none) ∷ []) (row_more (background a none) u) w (omega arith, tt) in (v, f ∙ append-nil (behind_entries (row u)) ∙ e)

module _ (cs : List Clause) where
  -- An atom brought, as its entry
  abbrev brought_as : Source → Entry
  brought_as z = packed_entry (background (source_atom cs z) (some z))

  row_bring : (zs : List Source) (t : Trail) → row (bring cs zs t) ≡ row t ++ map brought_as zs
  row_bring [] t = sym (append-nil (row t))
  row_bring (z ∷ zs) t =
      let x = background (source_atom cs z) (some z) in
      row_bring zs (x ∷ t) ∙ ap (λ (l : List Entry). l ++ map brought_as zs) (row_more x t) ∙ append_assoc (row t) (brought_as z ∷ []) (map brought_as zs)

  brought_behind : (zs : List Source) → Whole (map brought_as zs) × (behind_entries (map brought_as zs) ≡ [])
  brought_behind [] = (tt, refl)
  brought_behind (z ∷ zs) = let (w, e) = brought_behind zs in ((omega arith, w), e)

  -- The sources that the entries keep are those that were named.
  kept_said : (zs : List Source) → T (counts_few zs) → (q : ℕ) → q ≡ length zs
      → map source_of (exactly q no_source (exactly most_brought no_source (map source_kept (take q (map brought_as zs))))) ≡ zs
  kept_said zs h q e =
      ap (λ (l : List Entry). map source_of (exactly q no_source (exactly most_brought no_source (map source_kept l)))) (take_all q (map brought_as zs) (omega (arith, e, length-map zs brought_as)))
      ∙ ap (map source_of) (read (map source_kept (map brought_as zs)) (e ∙ sym (length-map zs brought_as) ∙ sym (length-map (map brought_as zs) source_kept)))
      ∙ map-map source_of source_kept (map brought_as zs) ∙ map-map (λ x. source_of (source_kept x)) brought_as zs
      ∙ map_same (λ z. source_of (source_kept (brought_as z))) (λ z. z) zs (λ z k. said z (leb→le (length z.instance) most_variables (all_of_out (λ z. leb (length z.instance) most_variables) zs (and_r (leb (length zs) most_brought) (all_of (λ z. leb (length z.instance) most_variables) zs) h) k)))
      ∙ map-id zs
    where
      read : (l : List sources.Source) → q ≡ length l → exactly q no_source (exactly most_brought no_source l) ≡ l
      read l n =
          let few = leb→le (length zs) most_brought (and_l (leb (length zs) most_brought) (all_of (λ z. leb (length z.instance) most_variables) zs) h) in
          exactly_take no_source q (exactly most_brought no_source l) (omega (arith, few, e, exactly_length no_source most_brought l)) ∙ ap (λ (k : ℕ). take k (exactly most_brought no_source l)) n ∙ take_exactly no_source most_brought l (omega (arith, few, e, n))

      said : (z : Source) → length z.instance ≤ most_variables → source_of (source_kept (brought_as z)) ≡ z
      said z k = ap (λ (τ : List ℕ). record { clause = z.clause; number = z.number; sign = z.sign; instance = τ }) (instance_said z.instance k)

-- ---- group by group

-- The steps that are read off a trail's entries are those that replay gives.
pub record TellsSteps (t : Trail) : Type 0 where
  pub whole : Whole (row t)
  pub says : map step_of (behind_entries (row t)) ≡ replayed t

-- One step more
tells_more : {t u : Trail} (x : Step) (y : states.Step) → TellsSteps t → Whole (row u) × (behind_entries (row u) ≡ behind_entries (row t) ++ (x ∷ [])) → step_of x ≡ y → steps_of u ≡ y ∷ steps_of t → TellsSteps u
tells_more {t} x y before (w, e) is steps = record {
  whole = w;
  says = ap (map step_of) e ∙ map-append step_of (behind_entries (row t)) (x ∷ []) ∙ ap₂ {C = List states.Step} (λ l z. l ++ (z ∷ [])) before.says is ∙ sym (ap reverse steps ∙ reverse-cons y (steps_of t));
}

tells_group : (nums : Numbers) (brings : Bool) (cs : List Clause) (n : ℕ) (t : Trail) (m : Origin) (zs : List Source) → StepOk nums brings cs n t m zs → TellsSteps t → TellsSteps (grown cs m zs t)
tells_group nums brings cs n t (propagated c l τ) zs k before =
    let x = foreground (literal_by cs (propagated c l τ)) (propagated c l τ) in
    let az = ground_atoms τ (clause_at cs c).atoms in
    let (w, e) = behind_more (row t) (packed_entry x ∷ []) (row_more x t) before.whole (omega arith, tt) in
    let (v, f) = push_behind az (x ∷ t) w in
    tells_more _ (Propagate c l τ) before (v, f ∙ e) (ap (Propagate c l) (instance_said τ (leb→le (length τ) most_variables k.1.short))) (steps_push az (x ∷ t))
tells_group nums brings cs n t (decided c l b τ q) zs (h, (k, e)) before =
    let x = foreground (literal_by cs (decided c l b τ q)) (decided c l b τ q) in
    let (w, f) = brought_behind cs zs in
    let ys = packed_entry x ∷ map (brought_as cs) zs in
    let is : row (bring cs zs (x ∷ t)) ≡ row t ++ ys = row_bring cs zs (x ∷ t) ∙ ap (λ (r : List Entry). r ++ map (brought_as cs) zs) (row_more x t) ∙ append_assoc (row t) (packed_entry x ∷ []) (map (brought_as cs) zs) in
    let (v, g) = behind_more (row t) ys is before.whole (omega (arith, e, length-map zs (brought_as cs)), w) in
    tells_more _ (Decide c l (cond b 1 0) τ zs) before (v, g ∙ ap (λ (r : List Step). behind_entries (row t) ++ (behind_as Decided (packed_entry x) (map (brought_as cs) zs) ++ r)) f)
    (ap₂ (Decide c l (cond b 1 0)) (instance_said τ (leb→le (length τ) most_variables k.short)) (kept_said cs zs k.counts q e))
    (steps_brought cs zs (x ∷ t))

pub built_tells : {nums : Numbers} {brings : Bool} {cs : List Clause} {n : ℕ} {t : Trail} → Built nums brings cs n t → TellsSteps t
built_tells (empty e) = subst TellsSteps (sym e) (record { whole = tt; says = refl })
built_tells {nums} {brings} {cs} {n} (group {t = u} m zs b k e) = subst TellsSteps (sym e) (tells_group nums brings cs n u m zs k (built_tells b))
