-- What every state reached has; soundness and replay over any run with refused steps in it.
use mathlib.Core.Path.{◌∙◌, ◌≡◌, ap, refl, subst, sym}
use mathlib.Core.Logic.{◌⊎◌, inl, inr}
use mathlib.Core.List.Memᴰ
use mathlib.Core.List.{List, Memᴰ, [], ◌++◌, ◌∷◌, append-nil}
use mathlib.Core.Option.{Option, none, some}
use mathlib.Core.Bool.{Bool, ◌||◌, cond, false, not, true}
use Prim.Native.Nat.{◌≤◌, zero, ℕ}
use native.Mathlib.Decide.{ℕ_discrete}
use native.Mathlib.Omega.{arith}
use lib.Dec.{T, T_not, leb→le, not_T}
use lib.ListN.{length, length-append}
use Rattle.basis.specs.Atoms.{Possible, denial}
use Rattle.basis.specs.Limits.{most_arguments, most_constants, most_entries, most_input, most_learned, most_predicates}
use Rattle.basis.specs.Numbers.{Numbers}
use Rattle.basis.specs.Refusals.{accepted, kept_not_possible, not_possible}
use Rattle.basis.specs.declared.Atom.{Atom}
use Rattle.basis.specs.declared.Literal.{Literal}
use Rattle.lists.proofs.Denials.{not_or}
use Rattle.lists.proofs.Members.{any_of_in}
use Rattle.lists.proofs.Tests.{F→eq, Said, T→eq, and_l, and_r, fails, holds, said}
use Rattle.lists.specs.Lists.{any_of}
use Rattle.calculus.specs.Class.{InClass, Limited}
use Rattle.calculus.specs.Clauses.{Clause, Instanced, ground, ground_atoms, same_atom}
use Rattle.calculus.specs.Conditions.{Allowed, FirstLacking, Judged, conditions}
use Rattle.calculus.specs.Rules.{Answer, back_level, bring, decided_trail, next, source_atom, source_atoms, question}
use Rattle.calculus.specs.Runs.{AcceptedRun, Reached, Run, Start, plain, replayed, restarted}
use Rattle.calculus.specs.Sound.{AdmittedSound, EveryStateReached, Never17, NoneBroughtNever13, Once, Replays, RestartedSound, RestartedStarts, SoundJudge}
use Rattle.calculus.specs.States.{Backtrack, Conflict, Decide, Factorize, Grow, Propagate, Resolve, Skip, State, Step, Unknown, clause_at, clauses, conflict_of}
use Rattle.calculus.specs.Trails.{Entry, Origin, Source, Trail, append_atoms, atom_on_trail, atoms_of, background, cut, decided, decisions, foreground, is_false, propagated}
use Rattle.calculus.specs.Tests.{atoms_undefined}
use Rattle.calculus.specs.Truth.{Follows, Reading, True}
use Rattle.calculus.proofs.Answers.{accepted_exactly_if_allowed, acceptance, not_lacking, possible_none}
use Rattle.calculus.proofs.Invariant.{Inv, Now, Stands, inv_step, possible_sub, refuted}
use Rattle.calculus.proofs.Levels.{cut_tail}
use Rattle.calculus.proofs.Merged.{same_atom_refl}
use Rattle.calculus.proofs.Runs.{admitted_starts, none_learned}
use Rattle.calculus.proofs.Trails.{Built, StepOk, Tail, atoms_bring, brings_at, built_again, empty, group, grown, here, literal_by, on_mem, there}

atoms_tail : {t u : Trail} {a : Atom} → Tail t u → Memᴰ a (atoms_of t) → Memᴰ a (atoms_of u)
atoms_tail {a = a} (here e) m = subst (λ q. Memᴰ a (atoms_of q)) e m
atoms_tail {a = a} (there {e = e} {u = u} h) m = go e (atoms_tail h m)
  where
    go : (e : Entry) → Memᴰ a (atoms_of u) → Memᴰ a (atoms_of (e ∷ u))
    go (foreground l s) m = m
    go (background b o) m = Memᴰ.append_left (b ∷ []) m

-- The atoms of a standing conflict are possible together with any cut of the trail
cut_possible : {nums : Numbers} {brings : Bool} {arities : List ℕ} {cs input : List Clause} {n : ℕ} {t : Trail} {N : Instanced} → Stands nums brings arities cs input n t N → (i : ℕ) → Possible nums n (atoms_of (cut i t) ++ ground_atoms N.instance N.clause.atoms)
cut_possible {t = t} {N = N} w i = possible_sub (λ a m. go a (Memᴰ.append_cases (atoms_of (cut i t)) m)) w.possible
  where
    go : (a : Atom) → Memᴰ a (atoms_of (cut i t)) ⊎ Memᴰ a (ground_atoms N.instance N.clause.atoms) → Memᴰ a (atoms_of w.t₀ ++ ground_atoms N.instance N.clause.atoms)
    go a (inl m) = Memᴰ.append_left (ground_atoms N.instance N.clause.atoms) (atoms_tail w.tail (atoms_tail (cut_tail i t) m))
    go a (inr m) = Memᴰ.append_right (atoms_of w.t₀) m

once_push : (az : List Atom) (t : Trail) → Once t → Once (append_atoms az t)
once_push [] t h = h
once_push (a ∷ az) t h = once_push az (cond (atom_on_trail a t) t (background a none ∷ t)) (go (said (atom_on_trail a t)))
  where
    go : Said (atom_on_trail a t) → Once (cond (atom_on_trail a t) t (background a none ∷ t))
    go (holds k) = subst (λ b. Once (cond b t (background a none ∷ t))) (sym (T→eq (atom_on_trail a t) k)) h
    go (fails k) = subst (λ b. Once (cond b t (background a none ∷ t))) (sym (F→eq (atom_on_trail a t) k)) (k, h)

-- What is not among a trail's atoms is not on it.
not_among : (a : Atom) (t : Trail) → T (not (any_of (same_atom a) (atoms_of t))) → T (not (atom_on_trail a t))
not_among a t h = not_T (atom_on_trail a t) (λ k. T_not (any_of (same_atom a) (atoms_of t)) h (any_of_in (same_atom a) (atoms_of t) (on_mem a t k) (same_atom_refl a)))

once_bring : (cs : List Clause) (zs : List Source) (t : Trail) → T (atoms_undefined (atoms_of t) (source_atoms cs zs)) → Once t → Once (bring cs zs t)
once_bring cs [] t h o = o
once_bring cs (z ∷ zs) t h o =
    let a = source_atom cs z in
    let not_there = any_of (same_atom a) (atoms_of t) in
    let not-denied = any_of (same_atom (denial a)) (atoms_of t) in
    let rest = atoms_undefined (atoms_of t ++ (a ∷ [])) (source_atoms cs zs) in
    once_bring cs zs (background a (some z) ∷ t) (and_r (not (not_there || not-denied)) rest h) (not_among a t (not_or not_there not-denied (and_l (not (not_there || not-denied)) rest h)).0, o)

once_grown : (nums : Numbers) (brings : Bool) (cs : List Clause) (n : ℕ) (t : Trail) (m : Origin) (zs : List Source) → StepOk nums brings cs n t m zs → Once t → Once (grown cs m zs t)
once_grown nums brings cs n t (propagated c l τ) zs k o = once_push (ground_atoms τ (clause_at cs c).atoms) (foreground (literal_by cs (propagated c l τ)) (propagated c l τ) ∷ t) (k.1.undefined_yet, o)
once_grown nums brings cs n t (decided c l b τ q) zs k o = once_bring cs zs (foreground (literal_by cs (decided c l b τ q)) (decided c l b τ q) ∷ t) k.1.0.free (k.1.0.undefined_yet, o)

pub built_once : {nums : Numbers} {brings : Bool} {cs : List Clause} {n : ℕ} {t : Trail} → Built nums brings cs n t → Once t
built_once (empty e) = subst Once (sym e) tt
built_once {nums} {brings} {cs} {n} (group {t = u} m zs b k e) = subst Once (sym e) (once_grown nums brings cs n u m zs k (built_once b))

atoms_from : (az : List Atom) (t : Trail) {a : Atom} → Memᴰ a (atoms_of (append_atoms az t)) → Memᴰ a (atoms_of t) ⊎ Memᴰ a az
atoms_from [] t m = inl m
atoms_from (b ∷ az) t {a} m = go (atom_on_trail b t) (atoms_from az (cond (atom_on_trail b t) t (background b none ∷ t)) m)
  where
    last : Memᴰ a (atoms_of t) ⊎ Memᴰ a (b ∷ []) → Memᴰ a (atoms_of t) ⊎ Memᴰ a (b ∷ az)
    last (inl h) = inl h
    last (inr h) = inr (Memᴰ.head (Memᴰ.eq_of_singleton h))

    go : (c : Bool) → Memᴰ a (atoms_of (cond c t (background b none ∷ t))) ⊎ Memᴰ a az → Memᴰ a (atoms_of t) ⊎ Memᴰ a (b ∷ az)
    go c (inr h) = inr (Memᴰ.tail h)
    go true (inl h) = inl h
    go false (inl h) = last (Memᴰ.append_cases (atoms_of t) h)

pub built_possible : {nums : Numbers} {brings : Bool} {cs : List Clause} {n : ℕ} {t : Trail} → Built nums brings cs n t → Possible nums n (atoms_of t)
built_possible {nums} {n = n} (empty e) = subst (λ t. Possible nums n (atoms_of t)) (sym e) (possible_none nums n)
built_possible {nums} {brings} {cs} {n} {t} (group {t = u} m zs b k e) = subst (λ t. Possible nums n (atoms_of t)) (sym e) (go m k)
  where
    go : (m : Origin) → StepOk nums brings cs n u m zs → Possible nums n (atoms_of (grown cs m zs u))
    go (propagated c l τ) k = possible_sub (λ a h. both a (atoms_from (ground_atoms τ (clause_at cs c).atoms) (foreground (literal_by cs (propagated c l τ)) (propagated c l τ) ∷ u) h)) k.1.possible
      where
        both : (a : Atom) → Memᴰ a (atoms_of u) ⊎ Memᴰ a (ground_atoms τ (clause_at cs c).atoms) → Memᴰ a (atoms_of u ++ ground_atoms τ (clause_at cs c).atoms)
        both a (inl h) = Memᴰ.append_left (ground_atoms τ (clause_at cs c).atoms) h
        both a (inr h) = Memᴰ.append_right (atoms_of u) h
    go (decided c l b τ q) k = subst (Possible nums n) (sym (atoms_bring cs zs (foreground (literal_by cs (decided c l b τ q)) (decided c l b τ q) ∷ u))) k.1.0.possible

tail_once : {t u : Trail} → Tail t u → Once u → Once t
tail_once {t} (here e) o = subst Once (sym e) o
tail_once (there {e = foreground l m} h) o = tail_once h o.1
tail_once (there {e = background a z} h) o = tail_once h o.1

-- ---- runs

-- A clause that is held at a start is of the input or was learned.
start_held : (s : State) → Start s → (C : Clause) → Memᴰ C (clauses s) → InClass s.arities C × Limited C
start_held s S C m = go (Memᴰ.append_cases s.input m)
  where
    go : Memᴰ C s.input ⊎ Memᴰ C s.learned → InClass s.arities C × Limited C
    go (inl k) = (S.admitted.in_class C k, S.admitted.limited C k)
    go (inr k) = (S.in_class C k, S.limited C k)

pub inv_start : (nums : Numbers) (s : State) → Start s → Inv nums (clauses s) s
inv_start nums s S = record {
  held = λ C m. let (class, limited) = start_held s S C m in record { class = class; limited = limited; follows = λ I h. h C m };
  level = ap (λ (q : State). q.level) S.empty ∙ sym (ap decisions t);
  now = subst (Now nums (clauses s) s) (sym (ap (λ (q : State). q.conflict) S.empty)) (record { lower = empty t });
}
  where
    t : s.trail ≡ []
    t = ap (λ (q : State). q.trail) S.empty

inv_judged : {nums : Numbers} {from : List Clause} (s : State) (x : Step) (a : Answer) → Inv nums from s → Judged nums s x a → Inv nums from a.state
inv_judged {nums} {from} s x a v j = go (ℕ_discrete a.number zero)
  where
    go : Dec (a.number ≡ zero) → Inv nums from a.state
    go (yes e) = inv_step s x a.state v (acceptance nums s x a j e)
    go (no e) = subst (Inv nums from) (sym (j.handed_back e)) v

pub inv_run : {nums : Numbers} {from : List Clause} {s s' : State} {xs : List Step} → Inv nums from s → Run (plain nums) s xs s' → Inv nums from s'
inv_run {nums} {from} v (Run.over e) = subst (Inv nums from) e v
inv_run {s = s} v (Run.then {x = x} a j r) = inv_run (inv_judged s x a v j) r

-- No rule changes the input or the arities.
next_input : (s : State) (x : Step) → ((next s x).input ≡ s.input) × ((next s x).arities ≡ s.arities)
next_input s (Propagate c l τ) = (refl, refl)
next_input s (Decide c l g τ zs) = (refl, refl)
next_input s (Conflict c τ) = (refl, refl)
next_input s (Resolve l) = (refl, refl)
next_input s (Factorize i j) = (refl, refl)
next_input s Skip = (refl, refl)
next_input s (Backtrack l) = (refl, refl)
next_input s (Grow n) = (refl, refl)
next_input s (Unknown r) = (refl, refl)

judged_input : {nums : Numbers} (s : State) (x : Step) (a : Answer) → Judged nums s x a → (a.state.input ≡ s.input) × (a.state.arities ≡ s.arities)
judged_input {nums} s x a j = go (ℕ_discrete a.number zero)
  where
    same : {q : State} → a.state ≡ q → (q.input ≡ s.input) × (q.arities ≡ s.arities) → (a.state.input ≡ s.input) × (a.state.arities ≡ s.arities)
    same e h = (ap (λ (q : State). q.input) e ∙ h.0, ap (λ (q : State). q.arities) e ∙ h.1)

    go : Dec (a.number ≡ zero) → (a.state.input ≡ s.input) × (a.state.arities ≡ s.arities)
    go (yes e) = same (j.next_state e) (next_input s x)
    go (no e) = same (j.handed_back e) (refl, refl)

pub run_input : {nums : Numbers} {s s' : State} {xs : List Step} → Run (plain nums) s xs s' → (s'.input ≡ s.input) × (s'.arities ≡ s.arities)
run_input (Run.over e) = (sym (ap (λ (q : State). q.input) e), sym (ap (λ (q : State). q.arities) e))
run_input {s = s} (Run.then {x = x} a j r) = let h = run_input r in let k = judged_input s x a j in (h.0 ∙ k.0, h.1 ∙ k.1)

-- ---- limits

built_few : {nums : Numbers} {brings : Bool} {cs : List Clause} {n : ℕ} {t : Trail} → Built nums brings cs n t → length t ≤ most_entries
built_few (empty e) = omega (arith, ap length e)
built_few {nums} {brings} {cs} {n} (group {t = u} m zs b k e) = omega (arith, ap length e, go m k)
  where
    go : (m : Origin) → StepOk nums brings cs n u m zs → length (grown cs m zs u) ≤ most_entries
    go (propagated c l τ) k = leb→le (length (grown cs (propagated c l τ) zs u)) most_entries k.1.room
    go (decided c l b τ q) (h, (k, i)) = subst (λ j. length (grown cs (decided c l b τ j) zs u) ≤ most_entries) (sym i) (leb→le (length (decided_trail cs c l b τ zs u)) most_entries k.room)

shorter_tail : {t u : Trail} → Tail t u → length t ≤ length u
shorter_tail {t} (here e) = omega (arith, ap length e)
shorter_tail (there h) = omega (arith, shorter_tail h)

now_few : (nums : Numbers) (from : List Clause) (s : State) (o : Option Instanced) → Now nums from s o → length s.trail ≤ most_entries
now_few nums from s none w = built_few w.lower
now_few nums from s (some K) w = omega (arith, shorter_tail w.tail, built_few w.built)

pub record Counts (s : State) : Type 0 where
  pub few_constants : s.constants ≤ most_constants
  pub few_learned : length s.learned ≤ most_learned

counts_next : (nums : Numbers) (s : State) (x : Step) → Allowed nums s x → Counts s → Counts (next s x)
counts_next nums s (Propagate c l τ) k h = record { few_constants = h.few_constants; few_learned = h.few_learned }
counts_next nums s (Decide c l g τ zs) k h = record { few_constants = h.few_constants; few_learned = h.few_learned }
counts_next nums s (Conflict c τ) k h = record { few_constants = h.few_constants; few_learned = h.few_learned }
counts_next nums s (Resolve l) k h = record { few_constants = h.few_constants; few_learned = h.few_learned }
counts_next nums s (Factorize i j) k h = record { few_constants = h.few_constants; few_learned = h.few_learned }
counts_next nums s Skip k h = record { few_constants = h.few_constants; few_learned = h.few_learned }
counts_next nums s (Backtrack l) (k1, (k2, (k3, (k4, (k5, ((k, room), u)))))) h =
    record { few_constants = h.few_constants; few_learned = omega (arith, length-append s.learned ((conflict_of s.conflict).clause ∷ [])) }
counts_next nums s (Grow n) (k1, (k2, (k, u))) h = record { few_constants = k; few_learned = h.few_learned }
counts_next nums s (Unknown r) k h = h

counts_run : {nums : Numbers} {s s' : State} {xs : List Step} → Run (plain nums) s xs s' → Counts s → Counts s'
counts_run (Run.over e) h = subst Counts e h
counts_run {nums} {s} (Run.then {x = x} a j r) h = counts_run r (elim (ℕ_discrete a.number accepted) [
  | yes e ↦ subst Counts (sym (j.next_state e)) (counts_next nums s x ((accepted_exactly_if_allowed nums s x a j).0 e) h)
  | no e ↦ subst Counts (sym (j.handed_back e)) h
])

start_counts : (s : State) → Start s → Counts s
start_counts s S = record { few_constants = S.admitted.few_constants; few_learned = S.few_learned }

-- ---- what every state reached has

now_once : (nums : Numbers) (from : List Clause) (s : State) (o : Option Instanced) → Now nums from s o → Once s.trail
now_once nums from s none w = built_once w.lower
now_once nums from s (some K) w = tail_once w.tail (built_once w.built)

now_possible : (nums : Numbers) (from : List Clause) (s : State) (o : Option Instanced) → Now nums from s o → Possible nums s.constants (atoms_of s.trail)
now_possible nums from s none w = built_possible w.lower
now_possible nums from s (some K) w = possible_sub (λ a m. atoms_tail w.tail m) (built_possible w.built)

now_false : (nums : Numbers) (from : List Clause) (s : State) (K : Instanced) → Now nums from s (some K) → (l : Literal) → Memᴰ l K.clause.literals → T (is_false s.trail (ground K.instance l))
now_false nums from s K w l m = w.isfalse (ground K.instance l) (Memᴰ.map (ground K.instance) m)

module _ (nums : Numbers) where
  pub every_state_reached : EveryStateReached nums
  every_state_reached s₀ s xs S r = record {
    once = now_once nums (clauses s₀) s s.conflict v.now;
    possible = now_possible nums (clauses s₀) s s.conflict v.now;
    follow = λ C m I h. (v.held C (Memᴰ.append_right s.input m)).follows I (λ K k. base I h K (Memᴰ.append_cases s₀.input k));
    class = λ C m. (v.held C (Memᴰ.append_right s.input m)).class;
    limited = λ C m. (v.held C (Memᴰ.append_right s.input m)).limited;
    few_entries = now_few nums (clauses s₀) s s.conflict v.now;
    few_learned = counts.few_learned;
    few_constants = counts.few_constants;
    level = v.level;
    denied = λ K e. now_false nums (clauses s₀) s K (subst (Now nums (clauses s₀) s) e v.now);
  }
    where
      v : Inv nums (clauses s₀) s
      v = inv_run (inv_start nums s₀ S.start) r

      counts : Counts s
      counts = counts_run r (start_counts s₀ S.start)

      same : (s.input ≡ s₀.input) × (s.arities ≡ s₀.arities)
      same = run_input r

      -- What is true at the end's input is true at the start's clauses.
      base : (I : Reading nums s.arities) → ((C : Clause) → Memᴰ C s.input → True nums s.arities I C) → (K : Clause) → Memᴰ K s₀.input ⊎ Memᴰ K s₀.learned → True nums s.arities I K
      base I h K (inl k) = h K (subst (Memᴰ K) (sym same.0) k)
      base I h K (inr k) = subst (λ q. Follows nums q s₀.input K) (sym same.1) (S.follow K k) I (λ C m. h C (subst (Memᴰ C) (sym same.0) m))

  -- ---- starts

  pub admitted_sound : AdmittedSound nums
  admitted_sound s a = record { start = admitted_starts s a; follow = λ C m. absurd (Memᴰ.not-nil (subst (Memᴰ C) (none_learned s a) m)) }

  pub reached_few : (s : State) → Reached (plain nums) s → length s.trail ≤ most_entries
  reached_few s h = now_few nums (clauses h.first) s s.conflict (inv_run (inv_start nums h.first h.start) h.run).now

  pub restarted_starts : RestartedStarts nums
  restarted_starts s h = record {
    admitted = record {
      few_constants = counts.few_constants;
      few_predicates = subst (λ (l : List ℕ). length l ≤ most_predicates) (sym same.1) h.start.admitted.few_predicates;
      small_arities = subst (λ l. (n : ℕ) → Memᴰ n l → n ≤ most_arguments) (sym same.1) h.start.admitted.small_arities;
      few_clauses = subst (λ (l : List Clause). length l ≤ most_input) (sym same.0) h.start.admitted.few_clauses;
      in_class = λ C m. (v.held C (Memᴰ.append_left s.learned m)).class;
      limited = λ C m. (v.held C (Memᴰ.append_left s.learned m)).limited;
      new = refl;
    };
    few_learned = counts.few_learned;
    in_class = λ C m. (v.held C (Memᴰ.append_right s.input m)).class;
    limited = λ C m. (v.held C (Memᴰ.append_right s.input m)).limited;
    empty = refl;
  }
    where
      v : Inv nums (clauses h.first) s
      v = inv_run (inv_start nums h.first h.start) h.run

      counts : Counts s
      counts = counts_run h.run (start_counts h.first h.start)

      same : (s.input ≡ h.first.input) × (s.arities ≡ h.first.arities)
      same = run_input h.run

  pub restarted_sound : RestartedSound nums
  restarted_sound s₀ s xs S r =
      record { start = restarted_starts s (record { first = s₀; steps = xs; start = S.start; run = r }); follow = (every_state_reached s₀ s xs S r).follow }

  -- ---- soundness

  pub sound_judge : SoundJudge nums (plain nums)
  sound_judge s₀ s xs K S r e z I h =
      let (input, arities) = run_input r in
      refuted K (subst (λ q. Stands nums (brings_at s) q (clauses s) (clauses s₀) s.constants s.trail K) arities (subst (Now nums (clauses s₀) s) e (inv_run (inv_start nums s₀ S.start) r).now)) z I
      (λ C m. base C (Memᴰ.append_cases s₀.input m))
    where
      base : (C : Clause) → Memᴰ C s₀.input ⊎ Memᴰ C s₀.learned → True nums s₀.arities I C
      base C (inl m) = h C m
      base C (inr m) = S.follow C m I h

  -- ---- replay

  pub replays : Replays nums
  replays s h e =
      subst (AcceptedRun (plain nums) (restarted s) (replayed s.trail))
      (λ i. record { version = s.version; arities = s.arities; trail = s.trail; input = s.input; learned = s.learned; constants = s.constants; level = sym v.level i; conflict = sym e i })
      (built_again s (subst (Now nums (clauses h.first) s) e v.now).lower)
    where
      v : Inv nums (clauses h.first) s
      v = inv_run (inv_start nums h.first h.start) h.run

  -- ---- refusal 13 of a decision that brings nothing

  pub none_brought_never_13 : NoneBroughtNever13 nums
  none_brought_never_13 s h c l g τ zs none-brought a j e = go (subst (λ n. FirstLacking n (conditions nums s (Decide c l g τ zs))) e j.first_lacking)
    where
      v : Inv nums (clauses h.first) s
      v = inv_run (inv_start nums h.first h.start) h.run

      asked : Possible nums s.constants (question s (Decide c l g τ zs))
      asked = rw none-brought (rw (append-nil (atoms_of s.trail)) (now_possible nums (clauses h.first) s s.conflict v.now))

      go : FirstLacking not_possible (conditions nums s (Decide c l g τ zs)) → ⊥
      go (inl (lacks, e)) = absurd (omega arith)
      go (inr (h1, inl (lacks, e))) = absurd (omega arith)
      go (inr (h1, inr (h2, inl (lacks, e)))) = absurd (omega arith)
      go (inr (h1, inr (h2, inr (h3, inl (lacks, e))))) = absurd (omega arith)
      go (inr (h1, inr (h2, inr (h3, inr (h4, inl (lacks, e)))))) = absurd (omega arith)
      go (inr (h1, inr (h2, inr (h3, inr (h4, inr (h5, inl (lacks, e))))))) = lacks asked
      go (inr (h1, inr (h2, inr (h3, inr (h4, inr (h5, inr (h6, inl (lacks, e)))))))) = absurd (omega arith)
      go (inr (h1, inr (h2, inr (h3, inr (h4, inr (h5, inr (h6, inr (h7, e)))))))) = absurd (omega arith)

  -- ---- refusal 17

  pub never_17 : Never17 nums
  never_17 s h x a j e = go x (subst (λ n. FirstLacking n (conditions nums s x)) e j.first_lacking)
    where
      v : Inv nums (clauses h.first) s
      v = inv_run (inv_start nums h.first h.start) h.run

      kept : (o : Option Instanced) → Now nums (clauses h.first) s o → (l : ℕ) → Possible nums s.constants (atoms_of (cut (back_level (conflict_of o) l s.trail) s.trail) ++ ground_atoms (conflict_of o).instance (conflict_of o).clause.atoms)
      kept none w l = possible_sub (λ b m. inside b (Memᴰ.append_cases (atoms_of (cut (back_level (conflict_of none) l s.trail) s.trail)) m)) (built_possible w.lower)
        where
          inside : (b : Atom) → Memᴰ b (atoms_of (cut (back_level (conflict_of none) l s.trail) s.trail)) ⊎ Memᴰ b [] → Memᴰ b (atoms_of s.trail)
          inside b (inl m) = atoms_tail (cut_tail (back_level (conflict_of none) l s.trail) s.trail) m
          inside b (inr m) = absurd (Memᴰ.not-nil m)
      kept (some K) w l = cut_possible w (back_level K l s.trail)

      go : (x : Step) → FirstLacking kept_not_possible (conditions nums s x) → ⊥
      go (Propagate c l τ) t = not_lacking kept_not_possible (conditions nums s (Propagate c l τ)) tt t
      go (Decide c l g τ zs) t = not_lacking kept_not_possible (conditions nums s (Decide c l g τ zs)) tt t
      go (Conflict c τ) t = not_lacking kept_not_possible (conditions nums s (Conflict c τ)) tt t
      go (Resolve l) t = not_lacking kept_not_possible (conditions nums s (Resolve l)) tt t
      go (Factorize i k) t = not_lacking kept_not_possible (conditions nums s (Factorize i k)) tt t
      go Skip t = not_lacking kept_not_possible (conditions nums s Skip) tt t
      go (Backtrack l) (inl (lacks, e)) = absurd (omega arith)
      go (Backtrack l) (inr (h1, inl (lacks, e))) = absurd (omega arith)
      go (Backtrack l) (inr (h1, inr (h2, inl (lacks, e)))) = absurd (omega arith)
      go (Backtrack l) (inr (h1, inr (h2, inr (h3, inl (lacks, e))))) = absurd (omega arith)
      go (Backtrack l) (inr (h1, inr (h2, inr (h3, inr (h4, inl (lacks, e)))))) = lacks (kept s.conflict v.now l)
      go (Backtrack l) (inr (h1, inr (h2, inr (h3, inr (h4, inr (h5, inl (lacks, e))))))) = absurd (omega arith)
      go (Backtrack l) (inr (h1, inr (h2, inr (h3, inr (h4, inr (h5, inr (h6, e))))))) = absurd (omega arith)
      go (Grow n) t = not_lacking kept_not_possible (conditions nums s (Grow n)) tt t
      go (Unknown q) t = not_lacking kept_not_possible (conditions nums s (Unknown q)) tt t
