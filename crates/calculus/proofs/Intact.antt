-- Behind each decision on the trail of a state without a conflict stand exactly the atoms that its Decide named.
use mathlib.Core.Path.{◌∙◌, ◌≡◌, ap, refl, subst, sym}
use mathlib.Core.Logic.{◌⊎◌, inl, inr}
use mathlib.Core.List.{List, [], ◌++◌, ◌∷◌, append_assoc}
use mathlib.Core.Option.{Option, none, some}
use mathlib.Core.Bool.{Bool}
use Prim.Native.Nat.{◌-◌, ◌<◌, suc, ℕ}
use native.Mathlib.Decide.{ℕ_discrete}
use native.Mathlib.Omega.{arith}
use lib.Dec.{T}
use lib.ListN.{get_or, length}
use Rattle.basis.specs.Numbers.{Numbers}
use Rattle.basis.specs.Refusals.{accepted}
use Rattle.basis.specs.declared.Atom.{Atom}
use Rattle.basis.specs.declared.Literal.{Literal}
use Rattle.calculus.specs.Clauses.{Clause, Instanced, ground, ground_atoms, no_literal}
use Rattle.calculus.specs.Conditions.{Allowed, Judged}
use Rattle.calculus.specs.Rules.{Answer, back_level, bring, brought_at, decided_literal, decided_trail, is_one, literal_instance, next}
use Rattle.calculus.specs.Runs.{Run, plain}
use Rattle.calculus.specs.Sound.{DecisionIntact, DecisionsIntact, NextForeground, entry, nothing}
use Rattle.calculus.specs.States.{Backtrack, Conflict, Decide, Factorize, Grow, Propagate, Resolve, Skip, State, Step, Unknown, clause_at, clauses, conflict_of}
use Rattle.calculus.specs.Trails.{Entry, Origin, Source, Trail, append_atoms, background, cut, decided, decisions, foreground, is_decision, propagated}
use Rattle.calculus.proofs.Answers.{accepted_exactly_if_allowed}
use Rattle.calculus.proofs.Levels.{cut_at, level_le, tail_shorter, tail_trans}
use Rattle.calculus.proofs.Runs.{run_more}
use Rattle.calculus.proofs.Trails.{Tail, bring_ind, here, push_ind, tail_cases}

-- ---- what stands behind a foreground entry

-- Background entries only
abbrev Backs : Trail → Type 0
Backs [] = Unit {0}
Backs (foreground l o ∷ t) = ⊥
Backs (background a o ∷ t) = Backs t

-- A trail, and behind it background entries
record Ahead (u t : Trail) : Type 0 where
  entries : Trail
  backs : Backs entries
  is : u ≡ entries ++ t

ahead_none : (t : Trail) → Ahead t t
ahead_none t = record { entries = []; backs = tt; is = refl }

ahead_more : {t : Trail} (a : Atom) (o : Option Source) (u : Trail) → Ahead u t → Ahead (background a o ∷ u) t
ahead_more a o u h = record { entries = background a o ∷ h.entries; backs = h.backs; is = ap {B = Trail} (λ w. background a o ∷ w) h.is }

ahead_push : (az : List Atom) (t : Trail) → Ahead (append_atoms az t) t
ahead_push az t = push_ind (λ u. Ahead u t) (λ a. ahead_more a none) az t (ahead_none t)

ahead_bring : (cs : List Clause) (zs : List Source) (t : Trail) → Ahead (bring cs zs t) t
ahead_bring cs zs t = bring_ind (λ u. Ahead u t) ahead_more cs zs t (ahead_none t)

-- A foreground entry stands where the one does with background entries behind it, or lower.
data Split (later : Trail) (l : Literal) (o : Origin) (earlier : Trail) (ahead : Trail) (m : Literal) (p : Origin) (t : Trail) : Type 0 where
  own : later ≡ ahead → l ≡ m → o ≡ p → earlier ≡ t → Split later l o earlier ahead m p t
  lower : (rest : Trail) → later ≡ ahead ++ (foreground m p ∷ rest) → t ≡ rest ++ (foreground l o ∷ earlier) → Split later l o earlier ahead m p t

split : (later ahead : Trail) {l m : Literal} {o p : Origin} {earlier t : Trail} → Backs ahead → later ++ (foreground l o ∷ earlier) ≡ ahead ++ (foreground m p ∷ t) → Split later l o earlier ahead m p t
split [] [] h e = own refl (cc) (cc) (cc)
split (x ∷ later) [] h e = lower later (cc) (cc)
split later (foreground k q ∷ ahead) h e = absurd h
split [] (background a q ∷ ahead) h e = absurd (let z : ◌≡◌ {A = ℕ} 0 1 = cc in omega arith)
split (x ∷ later) (background a q ∷ ahead) {l} {m} {o} {p} {earlier} {t} h e = go (split later ahead h w)
  where
    w : later ++ (foreground l o ∷ earlier) ≡ ahead ++ (foreground m p ∷ t)
    w = cc

    go : Split later l o earlier ahead m p t → Split (x ∷ later) l o earlier (background a q ∷ ahead) m p t
    go (own e₁ e₂ e₃ e₄) = own (cc) e₂ e₃ e₄
    go (lower rest e₁ e₂) = lower rest (cc) e₂

tail_behind : {l : Literal} {o : Origin} {u : Trail} (ahead : Trail) (m : Literal) (p : Origin) (t : Trail) → Backs ahead → Tail (foreground l o ∷ u) (ahead ++ (foreground m p ∷ t)) → (u ≡ t) ⊎ Tail (foreground l o ∷ u) t
tail_behind {l} {o} {u} [] m p t h k = go (tail_cases k)
  where
    go : ◌≡◌ {A = Trail} (foreground l o ∷ u) (foreground m p ∷ t) ⊎ Tail (foreground l o ∷ u) t → (u ≡ t) ⊎ Tail (foreground l o ∷ u) t
    go (inl e) = inl cc
    go (inr k) = inr k
tail_behind (foreground j q ∷ ahead) m p t h k = absurd h
tail_behind {l} {o} {u} (background a q ∷ ahead) m p t h k = go (λ k. tail_behind ahead m p t h k) (tail_cases k)
  where
    go : (Tail (foreground l o ∷ u) (ahead ++ (foreground m p ∷ t)) → (u ≡ t) ⊎ Tail (foreground l o ∷ u) t)
        → ◌≡◌ {A = Trail} (foreground l o ∷ u) (background a q ∷ (ahead ++ (foreground m p ∷ t))) ⊎ Tail (foreground l o ∷ u) (ahead ++ (foreground m p ∷ t)) → (u ≡ t) ⊎ Tail (foreground l o ∷ u) t
    go ih (inl e) = absurd (let z : ◌≡◌ {A = ℕ} 0 1 = cc in omega arith)
    go ih (inr k) = ih k

next_more : (ahead : Trail) (m : Literal) (p : Origin) {w : Trail} → NextForeground w → NextForeground (ahead ++ (foreground m p ∷ w))
next_more ahead m p nothing = entry ahead m p
next_more ahead m p (entry later l o) = subst NextForeground (append_assoc ahead (foreground m p ∷ later) (foreground l o ∷ [])) (entry (ahead ++ (foreground m p ∷ later)) l o)

module _ (N : Numbers) (s₀ : State) where
  -- The same decision, with other steps after it and another trail behind it
  whole_with : {xs ys : List Step} {later earlier : Trail} {l : Literal} {c i : ℕ} {b : Bool} {τ : List ℕ} {n : ℕ} (d : DecisionIntact N s₀ xs later earlier l c i b τ n)
      → (after : List Step) → ys ≡ d.before ++ (Decide c i d.sign τ d.offered ∷ after)
      → (now next_on : Trail) → NextForeground next_on → now ++ (foreground l (decided c i b τ n) ∷ earlier) ≡ next_on ++ decided_trail (clauses d.asked) c i b τ (brought_at d.asked d.offered) earlier
      → DecisionIntact N s₀ ys now earlier l c i b τ n
  whole_with d after given now next_on next_foreground follow = record {
    before = d.before;
    after = after;
    sign = d.sign;
    offered = d.offered;
    given = given;
    asked = d.asked;
    run = d.run;
    stood = d.stood;
    allowed = d.allowed;
    with_sign = d.with_sign;
    as_many = d.as_many;
    next_on = next_on;
    next_foreground = next_foreground;
    follow = follow;
  }

  -- A further step changes nothing of a decision that was made.
  whole_later : {xs : List Step} (ys : List Step) {later earlier : Trail} {l : Literal} {c i : ℕ} {b : Bool} {τ : List ℕ} {n : ℕ} → DecisionIntact N s₀ xs later earlier l c i b τ n → DecisionIntact N s₀ (xs ++ ys) later earlier l c i b τ n
  whole_later {xs} ys {later} {c = c} {i = i} {τ = τ} d =
      whole_with d (d.after ++ ys) (ap (λ zs. zs ++ ys) d.given ∙ append_assoc d.before (Decide c i d.sign τ d.offered ∷ d.after) ys) later d.next_on d.next_foreground d.follow

  -- Nor does a further group.
  whole_more : {xs : List Step} (ahead : Trail) (m : Literal) (p : Origin) {later earlier : Trail} {l : Literal} {c i : ℕ} {b : Bool} {τ : List ℕ} {n : ℕ}
      → DecisionIntact N s₀ xs later earlier l c i b τ n → DecisionIntact N s₀ xs (ahead ++ (foreground m p ∷ later)) earlier l c i b τ n
  whole_more {xs} ahead m p {later} {earlier} {l} {c} {i} {b} {τ} {n} d =
      whole_with d d.after d.given (ahead ++ (foreground m p ∷ later)) (ahead ++ (foreground m p ∷ d.next_on)) (next_more ahead m p d.next_foreground)
      (append_assoc ahead (foreground m p ∷ later) (foreground l (decided c i b τ n) ∷ earlier)
      ∙ ap (λ w. ahead ++ (foreground m p ∷ w)) d.follow
      ∙ sym (append_assoc ahead (foreground m p ∷ d.next_on) (decided_trail (clauses d.asked) c i b τ (brought_at d.asked d.offered) earlier)))

  -- ---- trails of whole groups

  -- What a group's step was, if it is a decision
  abbrev WholeBy : List Step → Trail → Trail → Literal → Origin → Type 0
  WholeBy xs ahead t l (propagated c i τ) = Unit {0}
  WholeBy xs ahead t l (decided c i b τ n) = DecisionIntact N s₀ xs ahead t l c i b τ n

  data Grouped (xs : List Step) : Trail → Type 0 where
    empty : {t : Trail} → t ≡ [] → Grouped xs t
    group : {t t' : Trail} (ahead : Trail) (l : Literal) (o : Origin) → Backs ahead → Grouped xs t → WholeBy xs ahead t l o → t' ≡ ahead ++ (foreground l o ∷ t) → Grouped xs t'

  grouped_later : {xs : List Step} (ys : List Step) {t : Trail} → Grouped xs t → Grouped (xs ++ ys) t
  grouped_later ys (empty e) = empty e
  grouped_later {xs} ys (group {t = t} ahead l o h g w e) = group ahead l o h (grouped_later ys g) (go o w) e
    where
      go : (o : Origin) → WholeBy xs ahead t l o → WholeBy (xs ++ ys) ahead t l o
      go (propagated c i τ) w = tt
      go (decided c i b τ n) w = whole_later ys w

  -- What lies below a foreground entry
  grouped_below : {xs : List Step} {l : Literal} {o : Origin} {u t : Trail} → Grouped xs t → Tail (foreground l o ∷ u) t → Grouped xs u
  grouped_below {xs} {l} {o} {u} (empty e) k = absurd (none_below (subst (Tail (foreground l o ∷ u)) e k))
    where
      none_below : Tail (foreground l o ∷ u) [] → ⊥
      none_below (here p) = let z : ◌≡◌ {A = ℕ} 0 1 = cc in omega arith
  grouped_below {xs} {l} {o} {u} (group {t = t} ahead m p h g w e) k = go (λ k. grouped_below g k) (tail_behind ahead m p t h (subst (Tail (foreground l o ∷ u)) e k))
    where
      go : (Tail (foreground l o ∷ u) t → Grouped xs u) → (u ≡ t) ⊎ Tail (foreground l o ∷ u) t → Grouped xs u
      go ih (inl e) = subst (Grouped xs) (sym e) g
      go ih (inr k) = ih k

  grouped_cut : {xs : List Step} {t₀ : Trail} (i : ℕ) (t : Trail) → Grouped xs t₀ → Tail t t₀ → i < decisions t → Grouped xs (cut i t)
  grouped_cut {xs} {t₀} i t g k lt = let r = cut_at i t lt in go r.entry r.dec (tail_trans r.under k)
    where
      go : (e : Entry) → T (is_decision e) → Tail (e ∷ cut i t) t₀ → Grouped xs (cut i t)
      go (foreground l o) d k = grouped_below g k
      go (background a o) d k = absurd d

  -- Each decision on a trail of whole groups is whole.
  whole_in : {xs : List Step} {t : Trail} → Grouped xs t → (later earlier : Trail) (l : Literal) (c i : ℕ) (b : Bool) (τ : List ℕ) (n : ℕ) → t ≡ later ++ (foreground l (decided c i b τ n) ∷ earlier)
      → DecisionIntact N s₀ xs later earlier l c i b τ n
  whole_in (empty d) later earlier l c i b τ n e = absurd (none-there later (sym e ∙ d))
    where
      none-there : (later : Trail) → later ++ (foreground l (decided c i b τ n) ∷ earlier) ≡ [] → ⊥
      none-there [] e = let z : ◌≡◌ {A = ℕ} 0 1 = cc in omega arith
      none-there (x ∷ later) e = let z : ◌≡◌ {A = ℕ} 0 1 = cc in omega arith
  whole_in {xs} (group {t = t} ahead m p h g w d) later earlier l c i b τ n e = go (λ rest e. whole_in g rest earlier l c i b τ n e) (split later ahead h (sym e ∙ d))
    where
      go : ((rest : Trail) → t ≡ rest ++ (foreground l (decided c i b τ n) ∷ earlier) → DecisionIntact N s₀ xs rest earlier l c i b τ n) → Split later l (decided c i b τ n) earlier ahead m p t
          → DecisionIntact N s₀ xs later earlier l c i b τ n
      go ih (own e₁ e₂ e₃ e₄) = subst (λ q. WholeBy xs q earlier l (decided c i b τ n)) (sym e₁) (subst (λ q. WholeBy xs ahead q l (decided c i b τ n)) (sym e₄) (subst (λ q. WholeBy xs ahead t q (decided c i b τ n)) (sym e₂) (subst (WholeBy xs ahead t m) (sym e₃) w)))
      go ih (lower rest e₁ e₂) = subst (λ q. DecisionIntact N s₀ xs q earlier l c i b τ n) (sym e₁) (whole_more ahead m p (ih rest e₂))

  -- ---- runs

  -- After the steps xs the trail is one of whole groups, or what is left of one while a conflict stands.
  record Past (xs : List Step) (s : State) : Type 0 where
    whole : Trail
    grouped : Grouped xs whole
    tail : Tail s.trail whole
    calm : s.conflict ≡ none → s.trail ≡ whole

  past_calm : {xs : List Step} {s : State} → Past xs s → s.conflict ≡ none → Grouped xs s.trail
  past_calm {xs} w e = subst (Grouped xs) (sym (w.calm e)) w.grouped

  past_now : {xs : List Step} {s : State} → Grouped xs s.trail → Past xs s
  past_now {s = s} g = record { whole = s.trail; grouped = g; tail = here refl; calm = λ e. refl }

  past_later : {xs : List Step} (ys : List Step) {s : State} → Past xs s → Past (xs ++ ys) s
  past_later ys w = record { whole = w.whole; grouped = grouped_later ys w.grouped; tail = w.tail; calm = w.calm }

  -- While a conflict stands, a trail may lose entries.
  past_standing : {xs : List Step} {s s' : State} (x : Step) (w : Past xs s) → Tail s'.trail w.whole → {K : Instanced} → s'.conflict ≡ some K → Past (xs ++ (x ∷ [])) s'
  past_standing x w t e = record { whole = w.whole; grouped = grouped_later (x ∷ []) w.grouped; tail = t; calm = λ c. absurd (let z : ◌≡◌ {A = ℕ} 0 1 = cc in omega arith) }

  past_next : {xs : List Step} (s : State) (x : Step) → Run (plain N) s₀ xs s → Allowed N s x → Past xs s → Past (xs ++ (x ∷ [])) (next s x)
  past_next {xs} s (Propagate c l τ) r k w =
      let C = clause_at (clauses s) c in
      let L = ground τ (get_or C.literals (l - 1) no_literal) in
      let h = ahead_push (ground_atoms τ C.atoms) (foreground L (propagated c l τ) ∷ s.trail) in
      past_now (group h.entries L (propagated c l τ) h.backs (past_calm (past_later (Propagate c l τ ∷ []) w) k.1.0) tt h.is)
  past_next {xs} s (Decide c l g τ offered) r k w =
      let zs = brought_at s offered in
      let L = decided_literal (clause_at (clauses s) c) (l - 1) (is_one g) τ in
      let h = ahead_bring (clauses s) zs (foreground L (decided c l (is_one g) τ (length zs)) ∷ s.trail) in
      past_now (group h.entries L (decided c l (is_one g) τ (length zs)) h.backs (past_calm (past_later (Decide c l g τ offered ∷ []) w) k.1.1.0)
      (record {
        before = xs;
        after = [];
        sign = g;
        offered = offered;
        given = refl;
        asked = s;
        run = r;
        stood = refl;
        allowed = k;
        with_sign = refl;
        as_many = refl;
        next_on = [];
        next_foreground = nothing;
        follow = sym h.is;
      }) h.is)
  past_next s (Conflict c τ) r k w = past_now (past_calm (past_later (Conflict c τ ∷ []) w) k.1.0)
  past_next s (Resolve l) r k w = past_standing (Resolve l) w w.tail refl
  past_next s (Factorize i j) r k w = past_standing (Factorize i j) w w.tail refl
  past_next s Skip r k w = past_standing Skip w (tail_shorter s.trail w.tail) k.0
  past_next s (Backtrack l) r k w =
      let K = conflict_of s.conflict in
      let L = literal_instance K l in
      let i = back_level K l s.trail in
      let o = propagated (suc (length (clauses s))) l K.instance in
      let v = past_later (Backtrack l ∷ []) w in
      let h = ahead_push (ground_atoms K.instance K.clause.atoms) (foreground L o ∷ cut i s.trail) in
      past_now (group h.entries L o h.backs (grouped_cut i s.trail v.grouped v.tail (omega (arith, k.1.1.1.0, level_le L s.trail))) tt h.is)
  past_next s (Grow n) r k w = past_now (empty refl)
  past_next s (Unknown q) r k w = absurd k.0

  past_judged : {xs : List Step} (s : State) (x : Step) (a : Answer) → Run (plain N) s₀ xs s → Past xs s → Judged N s x a → Past (xs ++ (x ∷ [])) a.state
  past_judged {xs} s x a r w j = elim (ℕ_discrete a.number accepted) [
    | yes e ↦ subst (Past (xs ++ (x ∷ []))) (sym (j.next_state e)) (past_next s x r ((accepted_exactly_if_allowed N s x a j).0 e) w)
    | no e ↦ subst (Past (xs ++ (x ∷ []))) (sym (j.handed_back e)) (past_later (x ∷ []) w)
  ]

  past_run : {xs ys : List Step} {s s' : State} → Run (plain N) s₀ xs s → Past xs s → Run (plain N) s ys s' → Past (xs ++ ys) s'
  past_run {xs} {s = s} {s' = s'} r w (Run.over e) = subst (Past (xs ++ [])) e (past_later [] w)
  past_run {xs} {s = s} {s' = s'} r w (Run.then {x = x} {xs = ys} a j q) =
      subst (λ zs. Past zs s') (append_assoc xs (x ∷ []) ys) (past_run (run_more (plain N) x a r j) (past_judged s x a r w j) q)

pub decisions_intact : (N : Numbers) → DecisionsIntact N
decisions_intact N s₀ s xs S r e later earlier l c i b τ n t =
    let w = past_run N s₀ (Run.over refl) (past_now N s₀ (empty (ap (λ (q : State). q.trail) S.empty))) r in
    whole_in N s₀ (past_calm N s₀ w e) later earlier l c i b τ n t
