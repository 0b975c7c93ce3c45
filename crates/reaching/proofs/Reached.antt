-- What every state reached has, in the code's terms: everything fits its record, and the constraint test takes what it is asked.
use mathlib.Core.Path.{◌≡◌, refl, subst, sym}
use mathlib.Core.Logic.{◌⊎◌, inl, inr, ⊎_elim}
use mathlib.Core.List.Memᴰ
use mathlib.Core.List.{List, Memᴰ, [], ◌++◌, ◌∷◌}
use mathlib.Core.Option.{Option, none, some}
use mathlib.Core.Bool.{Bool, ◌&&◌, cond, false, true}
use Prim.Native.Nat.{◌+◌, ◌-◌, ◌<◌, ◌≤◌, suc, zero, ℕ}
use native.Mathlib.Decide.{ℕ_discrete}
use native.Mathlib.Omega.{arith}
use lib.Dec.{T, leb, leb→le}
use lib.ListN.{get_or, length}
use Rattle.basis.proofs.Denials.{denial_proper}
use Rattle.basis.specs.Atoms.{InRange, InTest, Proper, denial, no_atom}
use Rattle.basis.specs.Limits.{most_brought, most_constants, most_entries, most_input, most_learned, most_predicates, most_variables}
use Rattle.basis.specs.Numbers.{whole}
use Rattle.basis.specs.declared.Atom.{Atom}
use Rattle.lists.proofs.Members.{all_of_out, get_d_mem}
use Rattle.lists.proofs.Tests.{and_l, and_r}
use Rattle.lists.specs.Lists.{all_of}
use Rattle.calculus.proofs.Sound.{inv_run, inv_start, reached_few, restarted_starts}
use Rattle.calculus.proofs.Instances.{Sized}
use Rattle.calculus.proofs.Invariant.{Inv, Now, Stands}
use Rattle.calculus.proofs.Levels.{clause_held, cut_tail, instance_sized}
use Rattle.calculus.proofs.Trails.{Built, StepOk, Tail, brings_at, empty, group, grown, here, literal_by, there}
use Rattle.calculus.specs.Checks.{between}
use Rattle.calculus.specs.Class.{InClass, Limited}
use Rattle.calculus.specs.Clauses.{ground_atoms, rename_atom, under}
use Rattle.calculus.specs.Rules.{bring, is_one, source_atom, source_atoms}
use Rattle.calculus.specs.Tests.{clause_exists, fits_in, instance_fits, literal_exists, source_fits}
use Rattle.calculus.specs.States.{State, clause_at, clauses, conflict_of}
use Rattle.calculus.specs.States as states
use Rattle.calculus.specs.Trails.{Entry, Origin, Source, Trail, append_atoms, atom_on_trail, atoms_of, background, cut, decided, decisions, foreground, is_decision, propagated}
use Rattle.trail.specs.Entries.{AllShort}
use Rattle.calculus.specs.Runs.{Reached, Start, plain, restarted}
use Rattle.calculus.specs.Clauses as calculus

-- ---- the trail

-- A source's instance is short.
abbrev pub ShortSource : Option Source → Type 0
ShortSource none = Unit {0}
ShortSource (some z) = length z.instance ≤ most_variables

-- Of an entry: the test takes an atom; a propagated literal's clause has it and its instance; instances are short.
abbrev pub Fine : List calculus.Clause → ℕ → Entry → Type 0
Fine cs n (foreground l (propagated c i τ)) = (length τ ≤ most_variables) × T (clause_exists cs c) × T (literal_exists (clause_at cs c) i && instance_fits n (clause_at cs c) τ)
Fine cs n (foreground l (decided c i b τ q)) = length τ ≤ most_variables
Fine cs n (background a o) = Proper InTest n a × ShortSource o

abbrev pub AllFine : List calculus.Clause → ℕ → Trail → Type 0
AllFine cs n [] = Unit {0}
AllFine cs n (e ∷ t) = Fine cs n e × AllFine cs n t

-- The test takes all of these atoms.
abbrev pub AllProper : ℕ → List Atom → Type 0
AllProper n az = (a : Atom) → Memᴰ a az → Proper InTest n a

-- "Instance" means variables replaced by constants: a constant for each variable leaves a proper atom proper.
rename_proper : (n v : ℕ) (τ : List ℕ) → Sized n v τ → (b : Atom) → Proper InRange v b → Proper InRange n (rename_atom (under τ) b)
rename_proper n v τ z b h = record { p_place = (image b.p h.p_place).0; q_place = (image b.q h.q_place).0; some_place = positive; c_range = h.c_range }
  where
    image : (x : ℕ) → x ≤ v → (under τ x ≤ n) × (1 ≤ x → 1 ≤ under τ x)
    image zero h = (omega arith, λ k. absurd (omega arith))
    image (suc x) h =
        let t = z.range (get_or τ x 0) (get_d_mem τ x 0 (omega (arith, z.size))) in
        (leb→le (get_or τ x 0) n (and_r (leb 1 (get_or τ x 0)) (leb (get_or τ x 0) n) t), λ k. leb→le 1 (get_or τ x 0) (and_l (leb 1 (get_or τ x 0)) (leb (get_or τ x 0) n) t))

    positive : 0 < under τ b.p + under τ b.q
    positive = elim (ℕ_discrete b.p 0) [
      | yes e ↦ omega (arith, (image b.q h.q_place).1 (omega (arith, h.some_place)))
      | no e ↦ omega (arith, (image b.p h.p_place).1 (omega arith))
    ]

ground_proper : (n v : ℕ) (τ : List ℕ) → Sized n v τ → (az : List Atom) → ((a : Atom) → Memᴰ a az → Proper InRange v a) → AllProper n (ground_atoms τ az)
ground_proper n v τ z az h a k =
    let (b, m, e) = Memᴰ.of_map (rename_atom (under τ)) az k in
    subst (Proper InTest n) e (denial_proper n (rename_atom (under τ) b) (rename_proper n v τ z b (h b m))).0

fine_append : (cs : List calculus.Clause) (n : ℕ) (az : List Atom) (t : Trail) → AllProper n az → AllFine cs n t → AllFine cs n (append_atoms az t)
fine_append cs n [] t h f = f
fine_append cs n (a ∷ az) t h f = fine_append cs n az (cond (atom_on_trail a t) t (background a none ∷ t)) (λ b k. h b (Memᴰ.tail k)) (go (atom_on_trail a t))
  where
    go : (b : Bool) → AllFine cs n (cond b t (background a none ∷ t))
    go true = f
    go false = ((h a (Memᴰ.head refl), tt), f)

fine_bring : (cs : List calculus.Clause) (n : ℕ) (zs : List Source) (t : Trail) → ((z : Source) → Memᴰ z zs → Proper InTest n (source_atom cs z) × ShortSource (some z)) → AllFine cs n t → AllFine cs n (bring cs zs t)
fine_bring cs n [] t h f = f
fine_bring cs n (z ∷ zs) t h f = fine_bring cs n zs (background (source_atom cs z) (some z) ∷ t) (λ y k. h y (Memᴰ.tail k)) (h z (Memᴰ.head refl), f)

pub fine_tail : (cs : List calculus.Clause) (n : ℕ) {t u : Trail} → Tail t u → AllFine cs n u → AllFine cs n t
fine_tail cs n (here e) f = subst (AllFine cs n) (sym e) f
fine_tail cs n (there h) f = fine_tail cs n h f.1

module _ (arities : List ℕ) (cs : List calculus.Clause) (n : ℕ) (class : (C : calculus.Clause) → Memᴰ C cs → InClass arities C) where
  clause_proper : (c : ℕ) (τ : List ℕ) → T (clause_exists cs c) → T (instance_fits n (clause_at cs c) τ) → AllProper n (ground_atoms τ (clause_at cs c).atoms)
  clause_proper c τ h k = ground_proper n (clause_at cs c).variables τ (instance_sized n (clause_at cs c) τ k) (clause_at cs c).atoms (class (clause_at cs c) (clause_held cs c h)).atoms_proper

  -- An atom that is named rightly, as it stands or denied
  source_proper : (z : Source) → T (source_fits cs n z) → Proper InTest n (source_atom cs z)
  source_proper z h = go (is_one z.sign)
    where
      C : calculus.Clause
      C = clause_at cs z.clause

      there : T (clause_exists cs z.clause)
      there = and_l (clause_exists cs z.clause) (fits_in n C z) h

      fits : T (fits_in n C z)
      fits = and_r (clause_exists cs z.clause) (fits_in n C z) h

      numbered : T (between 1 (length C.atoms) z.number)
      numbered = and_l (between 1 (length C.atoms) z.number) (instance_fits n C z.instance) fits

      below : z.number - 1 < length C.atoms
      below = omega (arith, leb→le 1 z.number (and_l (leb 1 z.number) (leb z.number (length C.atoms)) numbered), leb→le z.number (length C.atoms) (and_r (leb 1 z.number) (leb z.number (length C.atoms)) numbered))

      a : Atom
      a = rename_atom (under z.instance) (get_or C.atoms (z.number - 1) no_atom)

      both : Proper InTest n a × Proper InTest n (denial a)
      both =
          denial_proper n a
          (rename_proper n C.variables z.instance (instance_sized n C z.instance (and_r (between 1 (length C.atoms) z.number) (instance_fits n C z.instance) fits)) (get_or C.atoms (z.number - 1) no_atom)
          ((class C (clause_held cs z.clause there)).atoms_proper (get_or C.atoms (z.number - 1) no_atom) (get_d_mem C.atoms (z.number - 1) no_atom below)))

      go : (b : Bool) → Proper InTest n (cond b a (denial a))
      go true = both.0
      go false = both.1

  sources_proper : (zs : List Source) → T (all_of (source_fits cs n) zs) → AllProper n (source_atoms cs zs)
  sources_proper zs h a k = let (z, m, e) = Memᴰ.of_map (source_atom cs) zs k in subst (Proper InTest n) e (source_proper z (all_of_out (source_fits cs n) zs h m))

  built_fine : {brings : Bool} {t : Trail} → Built whole brings cs n t → AllFine cs n t
  built_fine (empty e) = subst (AllFine cs n) (sym e) tt
  built_fine {brings} (group {t = u} m zs b k e) = subst (AllFine cs n) (sym e) (go m k (built_fine b))
    where
      go : (m : Origin) → StepOk whole brings cs n u m zs → AllFine cs n u → AllFine cs n (grown cs m zs u)
      go (propagated c l τ) k f =
          fine_append cs n (ground_atoms τ (clause_at cs c).atoms) (foreground (literal_by cs (propagated c l τ)) (propagated c l τ) ∷ u)
          (clause_proper c τ k.0 (and_r (literal_exists (clause_at cs c) l) (instance_fits n (clause_at cs c) τ) k.1.named))
          ((leb→le (length τ) most_variables k.1.short, k.0, k.1.named), f)
      go (decided c l b τ q) k f =
          let short : Source → Bool = λ z. leb (length z.instance) most_variables in
          fine_bring cs n zs (foreground (literal_by cs (decided c l b τ q)) (decided c l b τ q) ∷ u)
          (λ z m. (source_proper z (all_of_out (source_fits cs n) zs k.1.0.sources m), leb→le (length z.instance) most_variables (all_of_out short zs (and_r (leb (length zs) most_brought) (all_of short zs) k.1.0.counts) m)))
          (leb→le (length τ) most_variables k.1.0.short, f)

pub decisions_few : (t : Trail) → decisions t ≤ length t
decisions_few [] = omega arith
decisions_few (e ∷ t) = go (is_decision e) (decisions_few t)
  where
    go : (b : Bool) → decisions t ≤ length t → cond b (suc (decisions t)) (decisions t) ≤ suc (length t)
    go true h = omega arith
    go false h = omega arith

fine_atoms : (cs : List calculus.Clause) (n : ℕ) (t : Trail) → AllFine cs n t → AllProper n (atoms_of t)
fine_atoms cs n [] f a k = absurd (Memᴰ.not-nil k)
fine_atoms cs n (foreground l o ∷ t) f a k = fine_atoms cs n t f.1 a k
fine_atoms cs n (background b o ∷ t) f a k = go (λ k. fine_atoms cs n t f.1 a k) (Memᴰ.append_cases (atoms_of t) k)
  where
    go : (Memᴰ a (atoms_of t) → Proper InTest n a) → Memᴰ a (atoms_of t) ⊎ Memᴰ a (b ∷ []) → Proper InTest n a
    go ih (inl k) = ih k
    go ih (inr k) = subst (Proper InTest n) (sym (Memᴰ.eq_of_singleton k)) f.0.0

pub fine_short : (cs : List calculus.Clause) (n : ℕ) (t : Trail) → AllFine cs n t → AllShort t
fine_short cs n [] f = tt
fine_short cs n (foreground l (propagated c i τ) ∷ t) f = (f.0.0, fine_short cs n t f.1)
fine_short cs n (foreground l (decided c i b τ q) ∷ t) f = (f.0, fine_short cs n t f.1)
fine_short cs n (background a none ∷ t) f = (tt, fine_short cs n t f.1)
fine_short cs n (background a (some z) ∷ t) f = (f.0.1, fine_short cs n t f.1)

-- ---- the state

-- A conflict: of the class, within the limits, with a constant for each of its variables
pub record FineConflict (arities : List ℕ) (n : ℕ) (N : calculus.Instanced) : Type 0 where
  pub class : InClass arities N.clause
  pub limited : Limited N.clause
  pub sized : Sized n N.clause.variables N.instance

pub record FineState (s : State) : Type 0 where
  pub few_constants : s.constants ≤ most_constants
  pub few_input : length s.input ≤ most_input
  pub few_learned : length s.learned ≤ most_learned
  pub few_entries : length s.trail ≤ most_entries
  pub level : s.level ≡ decisions s.trail
  pub class : (C : calculus.Clause) → Memᴰ C (clauses s) → InClass s.arities C
  pub limited : (C : calculus.Clause) → Memᴰ C (clauses s) → Limited C
  pub entries : AllFine (clauses s) s.constants s.trail
  pub conflict : (N : calculus.Instanced) → s.conflict ≡ some N → FineConflict s.arities s.constants N

pub reached_fine : (s : State) → Reached (plain whole) s → FineState s
reached_fine s h = record {
  few_constants = again.admitted.few_constants;
  few_input = again.admitted.few_clauses;
  few_learned = again.few_learned;
  few_entries = reached_few whole s h;
  level = v.level;
  class = λ C k. (v.held C k).class;
  limited = λ C k. (v.held C k).limited;
  entries = now s.conflict v.now;
  conflict = λ N e. stands N (subst (Now whole from s) e v.now);
}
  where
    from : List calculus.Clause
    from = clauses h.first

    v : Inv whole from s
    v = inv_run (inv_start whole h.first h.start) h.run

    -- The limits are those of the state started again.
    again : Start (restarted s)
    again = restarted_starts whole s h

    fine : {t : Trail} → Built whole (brings_at s) (clauses s) s.constants t → AllFine (clauses s) s.constants t
    fine b = built_fine s.arities (clauses s) s.constants (λ C k. (v.held C k).class) b

    now : (c : Option calculus.Instanced) → Now whole from s c → AllFine (clauses s) s.constants s.trail
    now none b = fine b.lower
    now (some N) S = fine_tail (clauses s) s.constants S.tail (fine S.built)

    stands : (N : calculus.Instanced) → Stands whole (brings_at s) s.arities (clauses s) from s.constants s.trail N → FineConflict s.arities s.constants N
    stands N S = record { class = S.held.class; limited = S.held.limited; sized = S.sized }

-- ---- what a rule asks the constraint test

-- Two lists of proper atoms
both_proper : {n : ℕ} (t az : List Atom) → AllProper n t → AllProper n az → AllProper n (t ++ az)
both_proper t az h k a m = ⊎_elim (h a) (k a) (Memᴰ.append_cases t m)

module _ {s : State} (F : FineState s) where
  trail_proper : AllProper s.constants (atoms_of s.trail)
  trail_proper = fine_atoms (clauses s) s.constants s.trail F.entries

  -- The test takes the trail's atoms and those of a clause that is named, ..
  pub named_proper : (c : ℕ) (τ : List ℕ) → T (clause_exists (clauses s) c) → T (instance_fits s.constants (clause_at (clauses s) c) τ)
      → AllProper s.constants (atoms_of s.trail ++ ground_atoms τ (clause_at (clauses s) c).atoms)
  named_proper c τ h k = both_proper (atoms_of s.trail) (ground_atoms τ (clause_at (clauses s) c).atoms) trail_proper (clause_proper s.arities (clauses s) s.constants F.class c τ h k)

  -- .. those that a decision names, ..
  pub brought_proper : (zs : List Source) → T (all_of (source_fits (clauses s) s.constants) zs) → AllProper s.constants (atoms_of s.trail ++ source_atoms (clauses s) zs)
  brought_proper zs h = both_proper (atoms_of s.trail) (source_atoms (clauses s) zs) trail_proper (sources_proper s.arities (clauses s) s.constants F.class zs h)

  -- .. and those of what a cut keeps and of the conflict that stands.
  pub kept_proper : (i : ℕ) (N : calculus.Instanced) → FineConflict s.arities s.constants N → AllProper s.constants (atoms_of (cut i s.trail) ++ ground_atoms N.instance N.clause.atoms)
  kept_proper i N f =
      both_proper (atoms_of (cut i s.trail)) (ground_atoms N.instance N.clause.atoms)
      (fine_atoms (clauses s) s.constants (cut i s.trail) (fine_tail (clauses s) s.constants (cut_tail i s.trail) F.entries))
      (ground_proper s.constants N.clause.variables N.instance f.sized N.clause.atoms f.class.atoms_proper)

-- No step changes the predicates.
pub few_predicates : (s : State) → Reached (plain whole) s → length s.arities ≤ most_predicates
few_predicates s h = (restarted_starts whole s h).admitted.few_predicates

-- ---- the conflict that stands, or none

pub some_conflict : (c : Option calculus.Instanced) → states.stands c ≡ true → c ≡ some (conflict_of c)
some_conflict none e = absurd (let z : ◌≡◌ {A = ℕ} 0 1 = cc in omega arith)
some_conflict (some N) e = refl

pub no_conflict : (c : Option calculus.Instanced) → states.stands c ≡ false → c ≡ none
no_conflict none e = refl
no_conflict (some N) e = absurd (let z : ◌≡◌ {A = ℕ} 0 1 = cc in omega arith)
