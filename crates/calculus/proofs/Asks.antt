-- Each check of Computed.antt says its condition of specs/Conditions.antt, so the first check that fails is the first condition that does not hold.
use mathlib.Core.Path.{◌∙◌, ◌≡◌, ap, refl, subst}
use mathlib.Core.Logic.{◌↔◌, ◌⊎◌, inl, inr}
use mathlib.Core.List.Memᴰ
use mathlib.Core.List.{List, Memᴰ, [], ◌++◌, ◌∷◌}
use mathlib.Core.Option.{Option, none, some}
use mathlib.Core.Bool.{Bool, ◌&&◌, ◌||◌, cond, false, not, true}
use Prim.Native.Nat.{◌+◌, ◌-◌, ◌≤◌, suc, ℕ}
use native.Mathlib.Omega.{arith}
use lib.Dec.{T, eqb, leb}
use lib.ListN.{length}
use Rattle.basis.specs.Atoms.{Possible, denial}
use Rattle.basis.specs.Limits.{most_atoms, most_brought, most_constants, most_entries, most_learned, most_literals, most_variables}
use Rattle.basis.specs.Numbers.{Numbers}
use Rattle.basis.specs.Refusals.{accepted}
use Rattle.basis.specs.declared.Atom.{Atom}
use Rattle.basis.specs.declared.Literal.{Literal}
use Rattle.lists.proofs.Meanings.{◌&◌, all_says, and_says, any_says, eqb_says, leb_says, ltb_says, not_says, or_says, says_also}
use Rattle.lists.proofs.Tests.{T→eq}
use Rattle.lists.specs.Lists.{all_of, any_of}
use Rattle.calculus.specs.Checks.{Check, ◌or◌, between, first_refusal}
use Rattle.calculus.specs.Class.{Limited, within_limits}
use Rattle.calculus.specs.Clauses.{Clause, Instanced, complement, ground, same_atom, same_literal}
use Rattle.calculus.specs.Tests.{all_false, atoms_undefined, clause_exists, complement_in_conflict, instance_fits, last_is_propagated, literal_exists, nonempty, others_false, source_fits}
use Rattle.calculus.proofs.Computed.{asks}
use Rattle.calculus.specs.Conditions.{AtomsUndefined, ComplementNotIn, Condition, EachHolds, FirstLacking, InstanceOf, LastPropagated, Names, NamesAtom, ◌otherwise◌, conditions, literal_at}
use Rattle.calculus.specs.OnTrail.{False, On, Undefined}
use Rattle.calculus.specs.Rules.{back_level, brought_at, decided_literal, is_one, last_literal, literal_instance, next, other_instances, question, source_atoms}
use Rattle.calculus.specs.States.{Backtrack, Conflict, Decide, Factorize, Grow, Propagate, Resolve, Skip, State, Step, Unknown, clause_at, clauses, conflict_of, stands}
use Rattle.calculus.specs.Trails.{Source, Trail, atoms_of, background, decided, foreground, is_false, level_of, on_trail, propagated, undefined}
use Rattle.calculus.proofs.Merged.{same_atom_refl, same_atom→eq, same_literal→eq}
use Rattle.calculus.proofs.OnTrail.{on_in, on_out, other_false_in, other_false_out, same_literal_lem}

-- Check by check, the same number and the same meaning
infixr 22 ◌also◌
pub data Matched : List Check → List Condition → Type 1 where
  all : Matched [] []
  ◌also◌ : {b : Bool} {P : Type 0} {n : ℕ} {cs : List Check} {ds : List Condition} → T b ↔ P → Matched cs ds → Matched (b or n ∷ cs) (P otherwise n ∷ ds)

-- Every check holds.
abbrev pub AllOk : List Check → Type 0
AllOk [] = Unit {0}
AllOk (c ∷ cs) = T c.ok × AllOk cs

pub pass : (cs : List Check) → AllOk cs → first_refusal cs ≡ accepted
pass [] k = refl
pass (c ∷ cs) k = rw (T→eq c.ok k.0) (pass cs k.1)

pub all_say : {cs : List Check} {ds : List Condition} → Matched cs ds → AllOk cs ↔ EachHolds ds
all_say all = (λ u. u, λ u. u)
all_say (p also m) = p & all_say m

pub first_lacking : {cs : List Check} {ds : List Condition} → Matched cs ds → FirstLacking (first_refusal cs) ds
first_lacking all = refl
first_lacking (◌also◌ {b} {P} {n} {cs} {ds} p m) = go b p (first_lacking m)
  where
    go : (b : Bool) → T b ↔ P → FirstLacking (first_refusal cs) ds → FirstLacking (cond b (first_refusal cs) n) (P otherwise n ∷ ds)
    go true p r = inr (p.0 tt, r)
    go false p r = inl ((not_says false p).0 tt, refl)

-- ---- each test and what it says

pub between_says : (a b x : ℕ) → T (between a b x) ↔ ((a ≤ x) × (x ≤ b))
between_says a b x = and_says (leb a x) (leb x b) (leb_says a x) (leb_says x b)

names_says : {A : Type 0} (of : List A) (n : ℕ) → T (between 1 (length of) n) ↔ Names of n
names_says of n = says_also (between_says 1 (length of) n) (λ h. record { from_one = h.0; there = h.1 }) (λ h. (h.from_one, h.there))

instance_says : (n : ℕ) (C : Clause) (τ : List ℕ) → T (instance_fits n C τ) ↔ InstanceOf n C τ
instance_says n C τ =
    says_also (and_says (eqb (length τ) C.variables) (all_of (between 1 n) τ) (eqb_says (length τ) C.variables) (all_says (between 1 n) (λ b. (1 ≤ b) × (b ≤ n)) (between_says 1 n) τ))
    (λ h. record { for_each_variable = h.0; of_constants = h.1 }) (λ h. (h.for_each_variable, h.of_constants))

none_says : (c : Option Instanced) → T (not (stands c)) ↔ (c ≡ none)
none_says none = (λ t. refl, λ e. tt)
none_says (some K) = (λ t. absurd t, λ e. let z : ◌≡◌ {A = ℕ} 0 1 = cc in absurd (omega arith))

standing_says : (c : Option Instanced) → T (stands c) ↔ (c ≡ some (conflict_of c))
standing_says none = (λ t. absurd t, λ e. let z : ◌≡◌ {A = ℕ} 0 1 = cc in absurd (omega arith))
standing_says (some K) = (λ t. refl, λ e. tt)

same_says : (a b : Literal) → T (same_literal a b) ↔ (a ≡ b)
same_says a b = (same_literal→eq a b, same_literal_lem)

on_says : (t : Trail) (l : Literal) → T (on_trail l t) ↔ On t l
on_says t l = (on_out t l, on_in t l)

undefined_says : (t : Trail) (l : Literal) → T (undefined t l) ↔ Undefined t l
undefined_says t l =
    says_also (not_says (on_trail l t || on_trail (complement l) t) (or_says (on_trail l t) (on_trail (complement l) t) (on_says t l) (on_says t (complement l))))
    (λ h. record { not_it = λ k. h (inl k); not_complement = λ k. h (inr k) }) (λ h k. neither h k)
  where
    neither : Undefined t l → On t l ⊎ On t (complement l) → ⊥
    neither h (inl k) = h.not_it k
    neither h (inr k) = h.not_complement k

others_false_says : (t : Trail) (τ : List ℕ) (g : Literal) (ls : List Literal) → T (others_false t τ g ls) ↔ ((m : Literal) → Memᴰ m ls → ¬ (ground τ m ≡ g) → False t (ground τ m))
others_false_says t τ g ls =
    all_says (λ m. same_literal (ground τ m) g || is_false t (ground τ m)) (λ m. ¬ (ground τ m ≡ g) → False t (ground τ m)) (λ m. (other_false_out t (ground τ m) g, other_false_in t (ground τ m) g)) ls

all_false_says : (t : Trail) (τ : List ℕ) (ls : List Literal) → T (all_false t τ ls) ↔ ((m : Literal) → Memᴰ m ls → False t (ground τ m))
all_false_says t τ ls = all_says (λ m. is_false t (ground τ m)) (λ m. False t (ground τ m)) (λ m. on_says t (complement (ground τ m))) ls

pub limited_says : (C : Clause) → T (within_limits C) ↔ Limited C
limited_says C =
    says_also (and_says (leb C.variables most_variables) _ (leb_says C.variables most_variables) (and_says (leb (length C.atoms) most_atoms) _ (leb_says (length C.atoms) most_atoms) (leb_says (length C.literals) most_literals)))
    (λ h. record { few_variables = h.0; few_atoms = h.1.0; few_literals = h.1.1 }) (λ h. (h.few_variables, (h.few_atoms, h.few_literals)))

last_says : (t : Trail) → T (last_is_propagated t) ↔ LastPropagated t (last_literal t)
last_says [] = (λ h. absurd h, λ h. let e = h.is in let z : ◌≡◌ {A = ℕ} 0 1 = cc in absurd (omega arith))
last_says (foreground l (propagated c i τ) ∷ t) = (λ h. record { clause = c; literal = i; instance = τ; earlier = t; is = refl }, λ h. tt)
last_says (foreground l (decided c i b τ q) ∷ t) = (λ h. absurd h, λ h. let e = h.is in let z : ◌≡◌ {A = ℕ} 0 1 = cc in absurd (omega arith))
last_says (background a o ∷ t) = (λ h. absurd h, λ h. let e = h.is in let z : ◌≡◌ {A = ℕ} 0 1 = cc in absurd (omega arith))

nonempty_says : (t : Trail) → T (nonempty t) ↔ (¬ (t ≡ []))
nonempty_says [] = (λ h. absurd h, λ h. absurd (h refl))
nonempty_says (e ∷ t) = (λ h q. let z : ◌≡◌ {A = ℕ} 0 1 = cc in absurd (omega arith), λ h. tt)

not_in_says : (K : Instanced) (t : Trail) → T (not (complement_in_conflict K t)) ↔ ComplementNotIn K t
not_in_says K [] = (λ h l o t e. let z : ◌≡◌ {A = ℕ} 0 1 = cc in absurd (omega arith), λ h. tt)
not_in_says K (foreground l o ∷ t) =
    let test : Literal → Bool = λ m. same_literal (complement l) (ground K.instance m) in
    let some-says = any_says test (λ m. complement l ≡ ground K.instance m) (λ m. same_says (complement l) (ground K.instance m)) K.clause.literals in
    says_also (not_says (any_of test K.clause.literals) some-says) (λ h k o u e m i q. let w : l ≡ k = cc in h (m, i, ap complement w ∙ q)) (λ h (m, i, q). h l o t refl m i q)
not_in_says K (background a o ∷ t) = (λ h l o t e. let z : ◌≡◌ {A = ℕ} 0 1 = cc in absurd (omega arith), λ h. tt)

not_again_says : (g : Literal) (D : List Literal) → T (not (any_of (same_literal g) D)) ↔ (¬ Memᴰ g D)
not_again_says g D =
    not_says (any_of (same_literal g) D) (says_also (any_says (same_literal g) (λ m. g ≡ m) (same_says g) D) (λ (m, i, e). Memᴰ.cast e i) (λ i. (g, i, refl)))

known_says : (a : Atom) (known : List Atom) → T (any_of (same_atom a) known) ↔ Memᴰ a known
known_says a known =
    says_also (any_says (same_atom a) (λ b. a ≡ b) (λ b. (same_atom→eq a b, λ e. subst (λ q. T (same_atom a q)) e (same_atom_refl a))) known) (λ (b, i, e). Memᴰ.cast e i) (λ i. (a, i, refl))

pub atoms_undefined_says : (known az : List Atom) → T (atoms_undefined known az) ↔ AtomsUndefined known az
atoms_undefined_says known [] = (λ u. tt, λ u. tt)
atoms_undefined_says known (a ∷ az) =
    says_also
    (and_says (not (any_of (same_atom a) known || any_of (same_atom (denial a)) known)) _
    (not_says (any_of (same_atom a) known || any_of (same_atom (denial a)) known) (or_says (any_of (same_atom a) known) _ (known_says a known) (known_says (denial a) known)))
    (atoms_undefined_says (known ++ (a ∷ [])) az))
    (λ h. (λ m. h.0 (inl m), (λ m. h.0 (inr m), h.1))) (λ h. (λ k. neither h k, h.1.1))
  where
    neither : AtomsUndefined known (a ∷ az) → Memᴰ a known ⊎ Memᴰ (denial a) known → ⊥
    neither h (inl m) = h.0 m
    neither h (inr m) = h.1.0 m

source_says : (s : State) (z : Source) → T (source_fits (clauses s) s.constants z) ↔ NamesAtom s z
source_says s z =
    let C = clause_at (clauses s) z.clause in
    says_also
    (and_says (clause_exists (clauses s) z.clause) _ (names_says (clauses s) z.clause)
    (and_says (between 1 (length C.atoms) z.number) _ (names_says C.atoms z.number) (instance_says s.constants C z.instance)))
    (λ h. record { clause = h.0; atom = h.1.0; instance = h.1.1 }) (λ h. (h.clause, (h.atom, h.instance)))

-- ---- the rules

-- Each check says its condition; d tells whether the question's atoms are possible.
pub matched : (N : Numbers) (s : State) (b : Bool) (x : Step) → T b ↔ Possible N s.constants (question s x) → Matched (asks b s x) (conditions N s x)
matched N s b (Propagate c l τ) d =
    let C = clause_at (clauses s) c in
    let g = ground τ (literal_at C l) in
    leb_says (length τ) most_variables
    also none_says s.conflict
    also and_says (clause_exists (clauses s) c) _ (names_says (clauses s) c) (and_says (literal_exists C l) _ (names_says C.literals l) (instance_says s.constants C τ))
    also undefined_says s.trail g
    also others_false_says s.trail τ g C.literals
    also d
    also leb_says (length (next s (Propagate c l τ)).trail) most_entries
    also all
matched N s b (Decide c l g τ offered) d =
    let C = clause_at (clauses s) c in
    let zs = brought_at s offered in
    and_says (leb (length τ) most_variables) _ (leb_says (length τ) most_variables)
    (and_says (leb (length zs) most_brought) _ (leb_says (length zs) most_brought) (all_says (λ z. leb (length z.instance) most_variables) (λ z. length z.instance ≤ most_variables) (λ z. leb_says (length z.instance) most_variables) zs))
    also and_says (leb g 1) _ (leb_says g 1) (all_says (λ z. leb z.sign 1) (λ z. z.sign ≤ 1) (λ z. leb_says z.sign 1) zs)
    also none_says s.conflict
    also and_says (clause_exists (clauses s) c && (literal_exists C l && instance_fits s.constants C τ)) _
    (and_says (clause_exists (clauses s) c) _ (names_says (clauses s) c) (and_says (literal_exists C l) _ (names_says C.literals l) (instance_says s.constants C τ)))
    (all_says (source_fits (clauses s) s.constants) (NamesAtom s) (source_says s) zs)
    also and_says (undefined s.trail (decided_literal C (l - 1) (is_one g) τ)) _ (undefined_says s.trail (decided_literal C (l - 1) (is_one g) τ)) (atoms_undefined_says (atoms_of s.trail) (source_atoms (clauses s) zs))
    also d
    also leb_says (length (next s (Decide c l g τ offered)).trail) most_entries
    also all
matched N s b (Conflict c τ) d =
    let C = clause_at (clauses s) c in
    leb_says (length τ) most_variables
    also none_says s.conflict
    also and_says (clause_exists (clauses s) c) _ (names_says (clauses s) c) (instance_says s.constants C τ)
    also all_false_says s.trail τ C.literals
    also d
    also all
matched N s b (Resolve l) d =
    let K = conflict_of s.conflict in
    standing_says s.conflict
    also names_says K.clause.literals l
    also last_says s.trail
    also same_says (complement (last_literal s.trail)) (literal_instance K l)
    also limited_says (conflict_of (next s (Resolve l)).conflict).clause
    also all
matched N s b (Factorize i j) d =
    let K = conflict_of s.conflict in
    standing_says s.conflict
    also and_says (literal_exists K.clause i) _ (names_says K.clause.literals i) (and_says (literal_exists K.clause j) _ (names_says K.clause.literals j) (not_says (eqb i j) (eqb_says i j)))
    also same_says (literal_instance K i) (literal_instance K j)
    also all
matched N s b Skip d = standing_says s.conflict also nonempty_says s.trail also not_in_says (conflict_of s.conflict) s.trail also all
matched N s b (Backtrack l) d =
    let K = conflict_of s.conflict in
    standing_says s.conflict
    also names_says K.clause.literals l
    also not_again_says (literal_instance K l) (other_instances K l)
    also ltb_says (back_level K l s.trail) (level_of (literal_instance K l) s.trail)
    also d
    also and_says (leb (length (next s (Backtrack l)).trail) most_entries) _ (leb_says (length (next s (Backtrack l)).trail) most_entries) (leb_says (suc (length s.learned)) most_learned)
    also all
matched N s b (Grow n) d = none_says s.conflict also leb_says 1 n also leb_says (s.constants + n) most_constants also all
matched N s b (Unknown r) d = (λ h. h, λ h. h) also all
