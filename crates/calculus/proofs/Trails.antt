-- Trails that are built group by group, what lies below an entry of one, and that the steps behind its entries build it again.
use mathlib.Core.Path.{◌∙◌, ◌≡◌, ap, refl, subst, sym}
use mathlib.Core.Logic.{◌⊎◌, inl, inr}
use mathlib.Core.List.Memᴰ
use mathlib.Core.List.{List, Memᴰ, [], ◌++◌, ◌∷◌, append_assoc, append-nil, reverse, reverse-cons}
use mathlib.Core.Option.{Option, none, some}
use mathlib.Core.Bool.{Bool, ◌&&◌, ◌||◌, cond, false, true}
use Prim.Native.Nat.{◌-◌, suc, ℕ}
use native.Mathlib.Omega.{arith}
use lib.Dec.{T, leb}
use lib.ListN.{get_or, length}
use Rattle.basis.specs.Atoms.{Possible}
use Rattle.basis.specs.Limits.{most_variables}
use Rattle.basis.specs.Numbers.{Numbers}
use Rattle.basis.specs.Versions.{form_of}
use Rattle.basis.specs.declared.Atom.{Atom}
use Rattle.basis.specs.declared.Literal.{Literal}
use Rattle.lists.proofs.Tests.{F→eq, Said, T→eq, and_i, fails, holds, said}
use Rattle.lists.specs.Lists.{all_of}
use Rattle.calculus.specs.Clauses.{Clause, ground, ground_atoms, no_literal, same_atom}
use Rattle.calculus.specs.Tests.{atoms_undefined, clause_exists, counts_few, instance_fits, literal_exists, others_false, signs_fit, source_fits}
use Rattle.calculus.proofs.Computed.{answer, asks}
use Rattle.calculus.specs.Rules.{bring, decided_literal, decided_trail, is_one, propagated_trail, source_atom, source_atoms}
use Rattle.calculus.specs.Runs.{AcceptedRun, plain, replayed, restarted, step_of, steps_before, steps_of}
use Rattle.calculus.specs.States.{Decide, State, Step, clause_at, clauses, updated}
use Rattle.calculus.specs.Trails.{Entry, Origin, Source, Trail, append_atoms, atom_on_trail, atoms_of, background, decided, decisions, foreground, propagated, undefined}
use Rattle.calculus.proofs.Answers.{Accepted, judged_by}
use Rattle.calculus.proofs.Asks.{pass}
use Rattle.calculus.proofs.Merged.{same_atom→eq}

pub data Tail (t : Trail) : Trail → Type 0 where
  here : {u : Trail} → t ≡ u → Tail t u
  there : {e : Entry} {u : Trail} → Tail t u → Tail t (e ∷ u)

pub tail_cases : {t u : Trail} {e : Entry} → Tail t (e ∷ u) → (t ≡ e ∷ u) ⊎ Tail t u
tail_cases (here p) = inl p
tail_cases (there h) = inr h

pub tail_more : {t : Trail} {e : Entry} {u : Trail} → Tail (e ∷ t) u → Tail t u
tail_more {t} {e} (here p) = subst (Tail t) p (there (here refl))
tail_more (there h) = there (tail_more h)

-- ---- groups
pub push_ind : (P : Trail → Type 0) → ((a : Atom) (t : Trail) → P t → P (background a none ∷ t)) → (az : List Atom) (t : Trail) → P t → P (append_atoms az t)
push_ind P h [] t p = p
push_ind P h (a ∷ az) t p = push_ind P h az (cond (atom_on_trail a t) t (background a none ∷ t)) (go (atom_on_trail a t))
  where
    go : (b : Bool) → P (cond b t (background a none ∷ t))
    go true = p
    go false = h a t p

pub bring_ind : (P : Trail → Type 0) → ((a : Atom) (o : Option Source) (t : Trail) → P t → P (background a o ∷ t)) → (cs : List Clause) (zs : List Source) (t : Trail) → P t → P (bring cs zs t)
bring_ind P h cs [] t p = p
bring_ind P h cs (z ∷ zs) t p = bring_ind P h cs zs (background (source_atom cs z) (some z) ∷ t) (h (source_atom cs z) (some z) t p)

pub steps_push : (az : List Atom) (t : Trail) → steps_of (append_atoms az t) ≡ steps_of t
steps_push az t = push_ind (λ u. steps_of u ≡ steps_of t) (λ a u e. e) az t refl

-- The atoms that a trail's last decision brought are found behind it.
steps_bring : (cs : List Clause) (zs ws : List Source) (t : Trail) → steps_before ws (bring cs zs t) ≡ steps_before (zs ++ ws) t
steps_bring cs [] ws t = refl
steps_bring cs (z ∷ zs) ws t = steps_bring cs zs ws (background (source_atom cs z) (some z) ∷ t)

pub steps_brought : (cs : List Clause) (zs : List Source) (t : Trail) → steps_of (bring cs zs t) ≡ steps_before zs t
steps_brought cs zs t = steps_bring cs zs [] t ∙ ap (λ ws. steps_before ws t) (append-nil zs)

pub decisions_push : (az : List Atom) (t : Trail) → decisions (append_atoms az t) ≡ decisions t
decisions_push az t = push_ind (λ u. decisions u ≡ decisions t) (λ a u e. e) az t refl

pub decisions_bring : (cs : List Clause) (zs : List Source) (t : Trail) → decisions (bring cs zs t) ≡ decisions t
decisions_bring cs zs t = bring_ind (λ u. decisions u ≡ decisions t) (λ a o u e. e) cs zs t refl

pub atoms_bring : (cs : List Clause) (zs : List Source) (t : Trail) → atoms_of (bring cs zs t) ≡ atoms_of t ++ source_atoms cs zs
atoms_bring cs [] t = sym (append-nil (atoms_of t))
atoms_bring cs (z ∷ zs) t = atoms_bring cs zs (background (source_atom cs z) (some z) ∷ t) ∙ append_assoc (atoms_of t) (source_atom cs z ∷ []) (source_atoms cs zs)

-- What a Propagate asks of the trail before it, of the clause K that it names
pub record PropOk (nums : Numbers) (n : ℕ) (t : Trail) (K : Clause) (c l : ℕ) (τ : List ℕ) : Type 0 where
  pub short : T (leb (length τ) most_variables)
  pub named : T (literal_exists K l && instance_fits n K τ)
  pub undefined_yet : T (undefined t (ground τ (get_or K.literals (l - 1) no_literal)))
  pub others : T (others_false t τ (ground τ (get_or K.literals (l - 1) no_literal)) K.literals)
  pub possible : Possible nums n (atoms_of t ++ ground_atoms τ K.atoms)
  pub room : T (leb (length (propagated_trail K (l - 1) τ (propagated c l τ) t)) 160)

-- What a Decide asks that brings the atoms zs, where decisions may bring some or none
pub record DecOk (nums : Numbers) (brings : Bool) (cs : List Clause) (n : ℕ) (t : Trail) (c l : ℕ) (b : Bool) (τ : List ℕ) (zs : List Source) : Type 0 where
  pub short : T (leb (length τ) most_variables)
  pub counts : T (counts_few zs)
  pub signs : T (signs_fit zs)
  pub named : T (literal_exists (clause_at cs c) l && instance_fits n (clause_at cs c) τ)
  pub sources : T (all_of (source_fits cs n) zs)
  pub undefined_yet : T (undefined t (decided_literal (clause_at cs c) (l - 1) b τ))
  pub free : T (atoms_undefined (atoms_of t) (source_atoms cs zs))
  pub possible : Possible nums n (atoms_of t ++ source_atoms cs zs)
  pub room : T (leb (length (decided_trail cs c l b τ zs t)) 160)
  pub may : cond brings zs [] ≡ zs

module _ (cs : List Clause) where
  abbrev pub literal_by : Origin → Literal
  literal_by (propagated c l τ) = ground τ (get_or (clause_at cs c).literals (l - 1) no_literal)
  literal_by (decided c l b τ q) = decided_literal (clause_at cs c) (l - 1) b τ

  abbrev pub atoms_by : Origin → List Source → List Atom
  atoms_by (propagated c l τ) zs = ground_atoms τ (clause_at cs c).atoms
  atoms_by (decided c l b τ q) zs = source_atoms cs zs

  -- The atoms that follow the literal
  abbrev pub followed : Origin → List Source → Trail → Trail
  followed (propagated c l τ) zs t = append_atoms (ground_atoms τ (clause_at cs c).atoms) t
  followed (decided c l b τ q) zs t = bring cs zs t

  abbrev pub grown : Origin → List Source → Trail → Trail
  grown m zs t = followed m zs (foreground (literal_by m) m ∷ t)

  pub followed_ind : (P : Trail → Type 0) → ((a : Atom) (o : Option Source) (t : Trail) → P t → P (background a o ∷ t)) → (m : Origin) (zs : List Source) (t : Trail) → P t → P (followed m zs t)
  followed_ind P h (propagated c l τ) zs t p = push_ind P (λ a. h a none) (ground_atoms τ (clause_at cs c).atoms) t p
  followed_ind P h (decided c l b τ q) zs t p = bring_ind P h cs zs t p

  -- A literal below the last group, or its own
  pub foreground_grown : {l : Literal} {o : Origin} {u : Trail} (m : Origin) (zs : List Source) (t : Trail) → Tail (foreground l o ∷ u) (followed m zs t) → Tail (foreground l o ∷ u) t
  foreground_grown {l} {o} {u} m zs t = followed_ind (λ w. Tail (foreground l o ∷ u) w → Tail (foreground l o ∷ u) t) (λ a p w ih h. go a p w ih (tail_cases h)) m zs t (λ h. h)
    where
      go : (a : Atom) (p : Option Source) (w : Trail) → (Tail (foreground l o ∷ u) w → Tail (foreground l o ∷ u) t) → ◌≡◌ {A = Trail} (foreground l o ∷ u) (background a p ∷ w) ⊎ Tail (foreground l o ∷ u) w → Tail (foreground l o ∷ u) t
      go a p w ih (inl e) = absurd (let z : ◌≡◌ {A = ℕ} 0 1 = cc in omega arith)
      go a p w ih (inr h) = ih h

  steps_grown : (m : Origin) (zs : List Source) (t : Trail) → steps_of (grown m zs t) ≡ step_of m zs ∷ steps_of t
  steps_grown (propagated c l τ) zs t = steps_push (ground_atoms τ (clause_at cs c).atoms) (foreground (literal_by (propagated c l τ)) (propagated c l τ) ∷ t)
  steps_grown (decided c l b τ q) zs t = steps_brought cs zs (foreground (literal_by (decided c l b τ q)) (decided c l b τ q) ∷ t)

module _ (nums : Numbers) (brings : Bool) (cs : List Clause) (n : ℕ) where
  abbrev pub StepOk : Trail → Origin → List Source → Type 0
  StepOk t (propagated c l τ) zs = T (clause_exists cs c) × PropOk nums n t (clause_at cs c) c l τ
  StepOk t (decided c l b τ q) zs = T (clause_exists cs c) × (DecOk nums brings cs n t c l b τ zs × (q ≡ length zs))

  -- Each group is a literal and the atoms that follow it; those that a decision brings are zs.
  pub data Built : Trail → Type 0 where
    empty : {t : Trail} → t ≡ [] → Built t
    group : {t t' : Trail} (m : Origin) (zs : List Source) → Built t → StepOk t m zs → t' ≡ grown cs m zs t → Built t'

  pub record Below (t : Trail) (l : Literal) (m : Origin) (t₀ : Trail) : Type 0 where
    pub sources : List Source
    pub built : Built t
    pub ok : StepOk t m sources
    pub lit : l ≡ literal_by cs m
    pub has : (a : Atom) → Memᴰ a (atoms_by cs m sources) → Memᴰ a (atoms_of t₀)

-- ---- replay

-- A state's decisions may bring atoms.
abbrev pub brings_at : State → Bool
brings_at s = (form_of s.version).brings

decide_again : (nums : Numbers) (s : State) (t : Trail) (c l g : ℕ) (τ : List ℕ) (zs : List Source) → T (leb g 1) → T (clause_exists (clauses s) c) → DecOk nums (brings_at s) (clauses s) s.constants t c l (is_one g) τ zs
    → Accepted nums (updated s t (decisions t) none) (Decide c l g τ zs) (updated s (decided_trail (clauses s) c l (is_one g) τ zs t) (suc (decisions t)) none)
decide_again nums s t c l g τ zs e h k = record {
  possible = true;
  decides = (λ _. rw k.may k.possible, λ _. tt);
  checks = (
    rw k.may (and_i (leb (length τ) most_variables) (counts_few zs) k.short k.counts),
    (
      rw k.may (and_i (leb g 1) (signs_fit zs) e k.signs),
      (
        tt,
        (
          rw k.may (and_i (clause_exists (clauses s) c && (literal_exists C l && instance_fits s.constants C τ)) (all_of (source_fits (clauses s) s.constants) zs) (and_i (clause_exists (clauses s) c) (literal_exists C l && instance_fits s.constants C τ) h k.named) k.sources),
          (rw k.may (and_i (undefined t (decided_literal C (l - 1) (is_one g) τ)) (atoms_undefined (atoms_of t) (source_atoms (clauses s) zs)) k.undefined_yet k.free), (tt, (rw k.may k.room, tt))),
        ),
      ),
    ),
  );
  is = rw k.may;
}
  where
    C : Clause
    C = clause_at (clauses s) c

replay_step : (nums : Numbers) (s : State) (t : Trail) (m : Origin) (zs : List Source) → StepOk nums (brings_at s) (clauses s) s.constants t m zs
    → Accepted nums (updated s t (decisions t) none) (step_of m zs) (updated s (grown (clauses s) m zs t) (decisions (grown (clauses s) m zs t)) none)
replay_step nums s t (propagated c l τ) zs k = record {
  possible = true;
  decides = (λ _. k.1.possible, λ _. tt);
  checks = (k.1.short, (tt, (and_i (clause_exists (clauses s) c) (literal_exists (clause_at (clauses s) c) l && instance_fits s.constants (clause_at (clauses s) c) τ) k.0 k.1.named, (k.1.undefined_yet, (k.1.others, (tt, (k.1.room, tt)))))));
  is = ap (λ d. updated s (grown (clauses s) (propagated c l τ) zs t) d none) (decisions_push (ground_atoms τ (clause_at (clauses s) c).atoms) (foreground (literal_by (clauses s) (propagated c l τ)) (propagated c l τ) ∷ t));
}
replay_step nums s t (decided c l b τ q) zs (h, (k, e)) = go b k
  where
    after : Bool → State
    after b = let w = grown (clauses s) (decided c l b τ q) zs t in updated s w (decisions w) none

    same : (b : Bool) → after b ≡ updated s (decided_trail (clauses s) c l b τ zs t) (suc (decisions t)) none
    same b =
        ap (λ d. updated s (grown (clauses s) (decided c l b τ q) zs t) d none) (decisions_bring (clauses s) zs (foreground (literal_by (clauses s) (decided c l b τ q)) (decided c l b τ q) ∷ t))
        ∙ ap (λ j. updated s (grown (clauses s) (decided c l b τ j) zs t) (suc (decisions t)) none) e

    go : (b : Bool) → DecOk nums (brings_at s) (clauses s) s.constants t c l b τ zs → Accepted nums (updated s t (decisions t) none) (Decide c l (cond b 1 0) τ zs) (after b)
    go true k = subst (Accepted nums (updated s t (decisions t) none) (Decide c l 1 τ zs)) (sym (same true)) (decide_again nums s t c l 1 τ zs tt h k)
    go false k = subst (Accepted nums (updated s t (decisions t) none) (Decide c l 0 τ zs)) (sym (same false)) (decide_again nums s t c l 0 τ zs tt h k)

-- An accepted step, as a run of one more step
accepted_more : {nums : Numbers} {s s₁ s' : State} {xs : List Step} (x : Step) → AcceptedRun (plain nums) s xs s₁ → Accepted nums s₁ x s' → AcceptedRun (plain nums) s (xs ++ (x ∷ [])) s'
accepted_more {nums} {s} {s₁} {s'} x (AcceptedRun.over e) d =
    subst (λ q. AcceptedRun (plain nums) q (x ∷ []) s') (sym e)
    (AcceptedRun.then (answer d.possible s₁ x) (judged_by nums d.possible s₁ x d.decides) (pass (asks d.possible s₁ x) d.checks)
    (AcceptedRun.over (rw (pass (asks d.possible s₁ x) d.checks) (sym d.is))))
accepted_more x (AcceptedRun.then a j z r) d = AcceptedRun.then a j z (accepted_more x r d)

-- A built trail is built again by the steps behind its foreground entries.
pub built_again : {nums : Numbers} (s : State) {t : Trail} → Built nums (brings_at s) (clauses s) s.constants t → AcceptedRun (plain nums) (restarted s) (replayed t) (updated s t (decisions t) none)
built_again {nums} s {t} (empty e) = subst (λ u. AcceptedRun (plain nums) (restarted s) (replayed u) (updated s u (decisions u) none)) (sym e) (AcceptedRun.over refl)
built_again {nums} s {t} (group {t = u} m zs b k e) =
    subst (λ w. AcceptedRun (plain nums) (restarted s) (replayed w) (updated s w (decisions w) none)) (sym e)
    (subst (λ xs. AcceptedRun (plain nums) (restarted s) xs (updated s g (decisions g) none)) (sym (ap reverse (steps_grown (clauses s) m zs u) ∙ reverse-cons (step_of m zs) (steps_of u)))
    (accepted_more (step_of m zs) (built_again s b) (replay_step nums s u m zs k)))
  where
    g : Trail
    g = grown (clauses s) m zs u

-- ---- what lies below an entry of a built trail
tail_none : {t : Trail} {e : Entry} → Tail (e ∷ t) [] → ⊥
tail_none (here p) = let z : ◌≡◌ {A = ℕ} 0 1 = cc in omega arith

pub atoms_push : (az : List Atom) (t : Trail) {a : Atom} → Memᴰ a (atoms_of t) → Memᴰ a (atoms_of (append_atoms az t))
atoms_push az t {a} m = push_ind (λ u. Memᴰ a (atoms_of u)) (λ b u h. Memᴰ.append_left (b ∷ []) h) az t m

pub on_mem : (a : Atom) (t : Trail) → T (atom_on_trail a t) → Memᴰ a (atoms_of t)
on_mem a [] h = absurd h
on_mem a (foreground l m ∷ t) h = on_mem a t h
on_mem a (background b o ∷ t) h = go (λ k. on_mem a t k) (same_atom a b) refl h
  where
    go : (T (atom_on_trail a t) → Memᴰ a (atoms_of t)) → (c : Bool) → same_atom a b ≡ c → T (c || atom_on_trail a t) → Memᴰ a (atoms_of t ++ (b ∷ []))
    go ih true e h = Memᴰ.append_right (atoms_of t) (Memᴰ.head (same_atom→eq a b (subst T (sym e) tt)))
    go ih false e h = Memᴰ.append_left (b ∷ []) (ih h)

pub pushed : (az : List Atom) (t : Trail) {a : Atom} → Memᴰ a az → Memᴰ a (atoms_of (append_atoms az t))
pushed [] t m = absurd (Memᴰ.not-nil m)
pushed (b ∷ az) t {a} m = go (λ u h. pushed az u h) (Memᴰ.cases_cons m) (said (atom_on_trail b t))
  where
    u : Trail
    u = cond (atom_on_trail b t) t (background b none ∷ t)

    go : ((u : Trail) → Memᴰ a az → Memᴰ a (atoms_of (append_atoms az u))) → (a ≡ b) ⊎ Memᴰ a az → Said (atom_on_trail b t) → Memᴰ a (atoms_of (append_atoms az u))
    go ih (inr h) s = ih u h
    go ih (inl e) (holds h) = atoms_push az u (rw (T→eq (atom_on_trail b t) h) (Memᴰ.cast e (on_mem b t h)))
    go ih (inl e) (fails h) = atoms_push az u (rw (F→eq (atom_on_trail b t) h) (Memᴰ.append_right (atoms_of t) (Memᴰ.head e)))

-- A group's trail has the atoms of its step and keeps those before.
atoms_kept : (cs : List Clause) (m : Origin) (zs : List Source) (t : Trail) {a : Atom} → Memᴰ a (atoms_of t) → Memᴰ a (atoms_of (followed cs m zs t))
atoms_kept cs m zs t {a} h = followed_ind cs (λ u. Memᴰ a (atoms_of u)) (λ b o u k. Memᴰ.append_left (b ∷ []) k) m zs t h

atoms_had : (cs : List Clause) (m : Origin) (zs : List Source) (t : Trail) {a : Atom} → Memᴰ a (atoms_by cs m zs) → Memᴰ a (atoms_of (followed cs m zs t))
atoms_had cs (propagated c l τ) zs t h = pushed (ground_atoms τ (clause_at cs c).atoms) t h
atoms_had cs (decided c l b τ q) zs t {a} h = subst (Memᴰ a) (sym (atoms_bring cs zs t)) (Memᴰ.append_right (atoms_of t) h)

module _ (nums : Numbers) (brings : Bool) (cs : List Clause) (n : ℕ) where
  pub below : {t₀ : Trail} {l : Literal} {m : Origin} {t : Trail} → Built nums brings cs n t₀ → Tail (foreground l m ∷ t) t₀ → Below nums brings cs n t l m t₀
  below {l} {m} {t} (empty e) h = absurd (tail_none (subst (Tail (foreground l m ∷ t)) e h))
  below {t₀} {l} {m} {t} (group {t = u} m' zs b k e) h = go (λ h. below b h) (tail_cases (foreground_grown cs m' zs own (subst (Tail (foreground l m ∷ t)) e h)))
    where
      own : Trail
      own = foreground (literal_by cs m') m' ∷ u

      go : (Tail (foreground l m ∷ t) u → Below nums brings cs n t l m u) → ◌≡◌ {A = Trail} (foreground l m ∷ t) (foreground (literal_by cs m') m' ∷ u) ⊎ Tail (foreground l m ∷ t) u → Below nums brings cs n t l m t₀
      go ih (inl p) =
          let e₁ : l ≡ literal_by cs m' = cc in
          let e₂ : m ≡ m' = cc in
          let e₃ : t ≡ u = cc in
          record {
            sources = zs;
            built = subst (Built nums brings cs n) (sym e₃) b;
            ok = subst (λ w. StepOk nums brings cs n w m zs) (sym e₃) (subst (λ w. StepOk nums brings cs n u w zs) (sym e₂) k);
            lit = e₁ ∙ ap (literal_by cs) (sym e₂);
            has = λ a q. subst (λ w. Memᴰ a (atoms_of w)) (sym e) (atoms_had cs m' zs own (subst (λ w. Memᴰ a (atoms_by cs w zs)) e₂ q));
          }
      go ih (inr h) =
          let r = ih h in
          record { sources = r.sources; built = r.built; ok = r.ok; lit = r.lit; has = λ a q. subst (λ w. Memᴰ a (atoms_of w)) (sym e) (atoms_kept cs m' zs own (r.has a q)) }
