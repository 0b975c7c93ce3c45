-- What every state reached has, kept by each rule.
use mathlib.Core.Path.{◌∙◌, ◌≡◌, ap, refl, subst, sym}
use mathlib.Core.Logic.{Lift, ◌⊎◌, inl, inr}
use mathlib.Core.List.Memᴰ
use mathlib.Core.List.{List, Memᴰ, [], ◌++◌, ◌∷◌, append_assoc, map}
use mathlib.Core.Option.{Option, none, some}
use mathlib.Core.Bool.{Bool, ◌&&◌, ◌||◌, cond, false, not, true}
use Prim.Native.Nat.{◌-◌, ◌<◌, ◌≤◌, max, min, suc, ℕ}
use native.Mathlib.Omega.{arith}
use lib.Dec.{T, T_not, eqb, eqb_refl, leb, leb→le, le→leb, ltb→lt}
use lib.ListN.{get_or, length}
use Rattle.basis.specs.Atoms.{Possible}
use Rattle.basis.specs.Limits.{most_variables}
use Rattle.basis.specs.Numbers.{Numbers}
use Rattle.basis.specs.declared.Atom.{Atom}
use Rattle.basis.specs.declared.Literal.{Literal}
use Rattle.lists.proofs.Denials.{not_or, not_or_in, or_second}
use Rattle.lists.proofs.Members.{all_of_in, all_of_out, without_cases, without_out}
use Rattle.lists.proofs.Tests.{Said, and_i, and_l, and_r, fails, holds, or_either, or_r, said}
use Rattle.lists.specs.Lists.{all_of, without}
use Rattle.calculus.specs.Checks.{between}
use Rattle.calculus.specs.Class.{InClass, Limited}
use Rattle.calculus.specs.Clauses.{Clause, Instanced, complement, ground, ground_atoms, no_literal, rename_atom, same_literal, under}
use Rattle.calculus.specs.Merging.{factored, reason, resolvent}
use Rattle.calculus.specs.Tests.{atoms_undefined, clause_exists, complement_in_conflict, counts_few, instance_fits, last_is_propagated, literal_exists, signs_fit, source_fits}
use Rattle.calculus.proofs.Computed.{asks}
use Rattle.calculus.specs.Rules.{back_level, bring, brought_at, decided_literal, is_one, last_literal, last_reason, level_after_skip, literal_instance, next, other_instances, propagated_trail, source_atoms}
use Rattle.calculus.specs.States.{Backtrack, Conflict, Decide, Factorize, Grow, Propagate, Resolve, Skip, State, Step, Unknown, clause_at, clauses, conflict_of, stands}
use Rattle.calculus.specs.Trails.{Entry, Origin, Source, Trail, atoms_of, background, cut, decided, decisions, foreground, is_decision, is_false, level_of, on_trail, propagated, undefined}
use Rattle.calculus.specs.Truth.{Follows, Reading, True}
use Rattle.calculus.proofs.Answers.{Accepted}
use Rattle.calculus.proofs.Asks.{AllOk}
use Rattle.calculus.proofs.Class.{factored_class, factored_limited, limited_of, placed, reason_class, reason_own_lt, resolvent_class}
use Rattle.calculus.proofs.Derived.{factored_atoms, factored_literals, factored_sized, reason_atoms, reason_own, reason_rest, reason_sized, reason_within, resolvent_atoms, resolvent_literals, resolvent_sized}
use Rattle.calculus.proofs.Instances.{Inside, Sized}
use Rattle.calculus.proofs.Levels.{CutAt, Found, alike_complement, bring_keep, clause_held, clause_keep, clause_new, cut_at, cut_false, cut_inside, found, instance_sized, level_at_most, level_le, min_max, number_below, off_tail, ok_more, ok_new, sized_instance, skip_false, skip_lowers_level, snoc, sources_keep, sources_more, tail_shorter, tail_trans}
use Rattle.calculus.proofs.Merged.{same_literal_refl, same_literal→eq}
use Rattle.calculus.proofs.OnTrail.{complement_twice}
use Rattle.calculus.proofs.Trails.{Below, Built, PropOk, StepOk, Tail, below, brings_at, decisions_bring, decisions_push, empty, group, grown, here, literal_by}
use Rattle.calculus.proofs.Truths.{alike, factored_true, reason_true, resolvent_true}

-- What every clause held has: it is of the class, within the limits, and true wherever the clauses `from` are.
pub record Entailed (nums : Numbers) (arities : List ℕ) (from : List Clause) (C : Clause) : Type 1 where
  pub class : InClass arities C
  pub limited : Limited C
  pub follows : Follows nums arities from C

-- A conflict N stands over the trail t: t is what is left of the trail t₀ that Conflict was accepted at.
pub record Stands (nums : Numbers) (brings : Bool) (arities : List ℕ) (cs from : List Clause) (n : ℕ) (t : Trail) (N : Instanced) : Type 1 where
  pub t₀ : Trail
  pub built : Built nums brings cs n t₀
  pub tail : Tail t t₀
  pub possible : Possible nums n (atoms_of t₀ ++ ground_atoms N.instance N.clause.atoms)
  pub held : Entailed nums arities from N.clause
  pub sized : Sized n N.clause.variables N.instance
  pub isfalse : (l : Literal) → Memᴰ l (map (ground N.instance) N.clause.literals) → T (is_false t l)

abbrev pub Now : Numbers → List Clause → State → Option Instanced → Type 1
Now nums from s none = Lift {0, 1} (Built nums (brings_at s) (clauses s) s.constants s.trail)
Now nums from s (some N) = Stands nums (brings_at s) s.arities (clauses s) from s.constants s.trail N

-- What every state reached from a start has, whose clauses were these
pub record Inv (nums : Numbers) (from : List Clause) (s : State) : Type 1 where
  pub held : (C : Clause) → Memᴰ C (clauses s) → Entailed nums s.arities from C
  pub level : s.level ≡ decisions s.trail
  pub now : Now nums from s s.conflict

-- The places of a clause are among its variables.
abbrev pub WellPlaced : Clause → Type 0
WellPlaced C = Inside C.variables C.atoms C.literals

pub possible_sub : {nums : Numbers} {n : ℕ} {az bz : List Atom} → ((a : Atom) → Memᴰ a bz → Memᴰ a az) → Possible nums n az → Possible nums n bz
possible_sub {nums} h p = record { value = p.value; at_zero = p.at_zero; rising = p.rising; every = λ a m. p.every a (h a m) }

-- A conflict without literals: no reading makes every clause of `from` true.
pub refuted : {nums : Numbers} {brings : Bool} {arities : List ℕ} {cs from : List Clause} {n : ℕ} {t : Trail} (N : Instanced) → Stands nums brings arities cs from n t N → N.clause.literals ≡ []
    → (I : Reading nums arities) → ((K : Clause) → Memᴰ K from → True nums arities I K) → ⊥
refuted {nums} N st e I h = st.held.follows I h (λ x. st.possible.value (under N.instance x)) st.possible.at_zero
    (λ a m. st.possible.every (rename_atom (under N.instance) a) (Memᴰ.append_right (atoms_of st.t₀) (Memᴰ.map (rename_atom (under N.instance)) m)))
    (λ l m. absurd (Memᴰ.not-nil (subst (Memᴰ l) e m)))

free : {nums : Numbers} (from : List Clause) (s : State) (o : Option Instanced) → Now nums from s o → T (not (stands o)) → Built nums (brings_at s) (clauses s) s.constants s.trail
free from s none w t = w.lower
free from s (some N) w t = absurd t

stood : {nums : Numbers} {from : List Clause} (s : State) (o : Option Instanced) → Now nums from s o → T (stands o) → Stands nums (brings_at s) s.arities (clauses s) from s.constants s.trail (conflict_of o)
stood {nums} {from} s none w t = absurd t
stood {nums} {from} s (some N) w t = w

-- ---- Propagate, Decide, Conflict, Grow
propagate_keeps : {nums : Numbers} {from : List Clause} (s : State) (c l : ℕ) (τ : List ℕ) → Inv nums from s → Accepted nums s (Propagate c l τ) (next s (Propagate c l τ)) → Inv nums from (next s (Propagate c l τ))
propagate_keeps {nums} {from} s c l τ v a = record {
  held = v.held;
  level = v.level ∙ sym (decisions_push (ground_atoms τ C.atoms) (foreground (ground τ (get_or C.literals (l - 1) no_literal)) (propagated c l τ) ∷ s.trail));
  now = record {
    lower = group (propagated c l τ) [] (free from s s.conflict v.now k.1.0) (
      and_l (clause_exists (clauses s) c) (literal_exists C l && instance_fits s.constants C τ) k.1.1.0,
      record { short = k.0; named = and_r (clause_exists (clauses s) c) (literal_exists C l && instance_fits s.constants C τ) k.1.1.0; undefined_yet = k.1.1.1.0; others = k.1.1.1.1.0; possible = a.decides.0 k.1.1.1.1.1.0; room = k.1.1.1.1.1.1.0 },
    ) refl;
  };
}
  where
    C : Clause
    C = clause_at (clauses s) c

    k : AllOk (asks a.possible s (Propagate c l τ))
    k = a.checks

-- What stands among the atoms offered is what a decision brings, and of that, all.
brought_again : (b : Bool) (zs : List Source) → cond b (cond b zs []) [] ≡ cond b zs []
brought_again true zs = refl
brought_again false zs = refl

decide_keeps : {nums : Numbers} {from : List Clause} (s : State) (c l g : ℕ) (τ : List ℕ) (offered : List Source) → Inv nums from s → Accepted nums s (Decide c l g τ offered) (next s (Decide c l g τ offered)) → Inv nums from (next s (Decide c l g τ offered))
decide_keeps {nums} {from} s c l g τ offered v a = record {
  held = v.held;
  level = ap suc v.level ∙ sym (decisions_bring (clauses s) zs (foreground (decided_literal C (l - 1) (is_one g) τ) (decided c l (is_one g) τ (length zs)) ∷ s.trail));
  now = record {
    lower = group (decided c l (is_one g) τ (length zs)) zs (free from s s.conflict v.now k.1.1.0) (
      and_l (clause_exists (clauses s) c) (literal_exists C l && instance_fits s.constants C τ) named,
      (
        record {
          short = and_l (leb (length τ) most_variables) (counts_few zs) k.0;
          counts = and_r (leb (length τ) most_variables) (counts_few zs) k.0;
          signs = and_r (leb g 1) (signs_fit zs) k.1.0;
          named = and_r (clause_exists (clauses s) c) (literal_exists C l && instance_fits s.constants C τ) named;
          sources = and_r (clause_exists (clauses s) c && (literal_exists C l && instance_fits s.constants C τ)) (all_of (source_fits (clauses s) s.constants) zs) k.1.1.1.0;
          undefined_yet = and_l (undefined s.trail (decided_literal C (l - 1) (is_one g) τ)) (atoms_undefined (atoms_of s.trail) (source_atoms (clauses s) zs)) k.1.1.1.1.0;
          free = and_r (undefined s.trail (decided_literal C (l - 1) (is_one g) τ)) (atoms_undefined (atoms_of s.trail) (source_atoms (clauses s) zs)) k.1.1.1.1.0;
          possible = a.decides.0 k.1.1.1.1.1.0;
          room = k.1.1.1.1.1.1.0;
          may = brought_again (brings_at s) offered;
        },
        refl,
      ),
    ) refl;
  };
}
  where
    C : Clause
    C = clause_at (clauses s) c

    zs : List Source
    zs = brought_at s offered

    k : AllOk (asks a.possible s (Decide c l g τ offered))
    k = a.checks

    named : T (clause_exists (clauses s) c && (literal_exists C l && instance_fits s.constants C τ))
    named = and_l (clause_exists (clauses s) c && (literal_exists C l && instance_fits s.constants C τ)) (all_of (source_fits (clauses s) s.constants) zs) k.1.1.1.0

conflict_keeps : {nums : Numbers} {from : List Clause} (s : State) (c : ℕ) (τ : List ℕ) → Inv nums from s → Accepted nums s (Conflict c τ) (next s (Conflict c τ)) → Inv nums from (next s (Conflict c τ))
conflict_keeps {nums} {from} s c τ v a = record {
  held = v.held;
  level = v.level;
  now = record {
    t₀ = s.trail;
    built = free from s s.conflict v.now k.1.0;
    tail = here refl;
    possible = a.decides.0 k.1.1.1.1.0;
    held = v.held C m;
    sized = instance_sized s.constants C τ (and_r (clause_exists (clauses s) c) (instance_fits s.constants C τ) k.1.1.0);
    isfalse = λ l h. let (b, d, e) = Memᴰ.of_map (ground τ) C.literals h in subst (λ q. T (is_false s.trail q)) e (all_of_out (λ m. is_false s.trail (ground τ m)) C.literals k.1.1.1.0 d);
  };
}
  where
    C : Clause
    C = clause_at (clauses s) c

    k : AllOk (asks a.possible s (Conflict c τ))
    k = a.checks

    m : Memᴰ C (clauses s)
    m = clause_held (clauses s) c (and_l (clause_exists (clauses s) c) (instance_fits s.constants C τ) k.1.1.0)

grow_keeps : {nums : Numbers} {from : List Clause} (s : State) (n : ℕ) → Inv nums from s → Inv nums from (next s (Grow n))
grow_keeps {nums} {from} s n v = record { held = v.held; level = refl; now = record { lower = empty refl } }

skip_keeps : {nums : Numbers} {from : List Clause} (s : State) → Inv nums from s → Accepted nums s Skip (next s Skip) → Inv nums from (next s Skip)
skip_keeps {nums} {from} s v a = record { held = v.held; level = ap (level_after_skip s.trail) v.level ∙ skip_lowers_level s.trail; now = go s.conflict v.now k.0 k.1.1.0 }
  where
    k : AllOk (asks a.possible s Skip)
    k = a.checks

    go : (o : Option Instanced) → Now nums from s o → T (stands o) → T (not (complement_in_conflict (conflict_of o) s.trail)) → Now nums from (next s Skip) o
    go none w h b = absurd h
    go (some N) w h b = record { t₀ = w.t₀; built = w.built; tail = tail_shorter s.trail w.tail; possible = w.possible; held = w.held; sized = w.sized; isfalse = λ l m. skip_false N s.trail b l m (w.isfalse l m) }

factorize_keeps_conflict : {nums : Numbers} {brings : Bool} {arities : List ℕ} {cs from : List Clause} {n : ℕ} {t : Trail} (N : Instanced) (i j : ℕ) → T (literal_exists N.clause i && (literal_exists N.clause j && not (eqb i j))) → T (same_literal (literal_instance N i) (literal_instance N j)) → Stands nums brings arities cs from n t N → Stands nums brings arities cs from n t (factored N (i - 1) (j - 1))
factorize_keeps_conflict {nums} {brings} {arities} {cs} {from} {n} {t} N i j k e w = record {
  t₀ = w.t₀;
  built = w.built;
  tail = w.tail;
  possible = possible_sub (λ a m. sub a (Memᴰ.append_cases (atoms_of w.t₀) m)) w.possible;
  held = record {
    class = factored_class N (i - 1) (j - 1) lt w.held.class meet;
    limited = factored_limited N (i - 1) (j - 1) w.held.limited;
    follows = λ I h. factored_true nums arities I N (i - 1) (j - 1) (alike N.instance (get_or N.clause.literals (max (i - 1) (j - 1)) no_literal) (get_or N.clause.literals (min (i - 1) (j - 1)) no_literal) (sym meet)) (omega (arith, i≥, j≥, ne)) lt (w.held.follows I h);
  };
  sized = factored_sized N (i - 1) (j - 1) n (placed w.held.class) w.sized meet;
  isfalse = λ l m. w.isfalse l (keep l (subst (Memᴰ l) (factored_literals N (i - 1) (j - 1) n (placed w.held.class) w.sized meet) m));
}
  where
    len : ℕ
    len = length N.clause.literals

    k₂ : T (literal_exists N.clause j && not (eqb i j))
    k₂ = and_r (literal_exists N.clause i) (literal_exists N.clause j && not (eqb i j)) k

    hi : T (between 1 len i)
    hi = and_l (literal_exists N.clause i) (literal_exists N.clause j && not (eqb i j)) k

    hj : T (between 1 len j)
    hj = and_l (literal_exists N.clause j) (not (eqb i j)) k₂

    i≥ : 1 ≤ i
    i≥ = leb→le 1 i (and_l (leb 1 i) (leb i len) hi)

    j≥ : 1 ≤ j
    j≥ = leb→le 1 j (and_l (leb 1 j) (leb j len) hj)

    i< : i - 1 < len
    i< = number_below i len hi

    j< : j - 1 < len
    j< = number_below j len hj

    lt : max (i - 1) (j - 1) < len
    lt = omega (arith, i<, j<)

    ne : ¬ (i ≡ j)
    ne p = T_not (eqb i j) (and_r (literal_exists N.clause j) (not (eqb i j)) k₂) (subst (λ q. T (eqb i q)) p (eqb_refl i))

    meet : ground N.instance (get_or N.clause.literals (min (i - 1) (j - 1)) no_literal) ≡ ground N.instance (get_or N.clause.literals (max (i - 1) (j - 1)) no_literal)
    meet = min_max (λ q. ground N.instance (get_or N.clause.literals q no_literal)) (i - 1) (j - 1) (same_literal→eq (literal_instance N i) (literal_instance N j) e)

    sub : (a : Atom) → Memᴰ a (atoms_of w.t₀) ⊎ Memᴰ a (ground_atoms (factored N (i - 1) (j - 1)).instance (factored N (i - 1) (j - 1)).clause.atoms) → Memᴰ a (atoms_of w.t₀ ++ ground_atoms N.instance N.clause.atoms)
    sub a (inl m) = Memᴰ.append_left (ground_atoms N.instance N.clause.atoms) m
    sub a (inr m) = Memᴰ.append_right (atoms_of w.t₀) (factored_atoms N (i - 1) (j - 1) n (placed w.held.class) w.sized meet m)

    keep : (l : Literal) → Memᴰ l (map (ground N.instance) (without (max (i - 1) (j - 1)) N.clause.literals)) → Memᴰ l (map (ground N.instance) N.clause.literals)
    keep l m = let (x, y, z) = Memᴰ.of_map (ground N.instance) (without (max (i - 1) (j - 1)) N.clause.literals) m in Memᴰ.cast (sym z) (Memᴰ.map (ground N.instance) (without_out (max (i - 1) (j - 1)) N.clause.literals y))

factorize_keeps : {nums : Numbers} {from : List Clause} (s : State) (i j : ℕ) → Inv nums from s → Accepted nums s (Factorize i j) (next s (Factorize i j)) → Inv nums from (next s (Factorize i j))
factorize_keeps {nums} {from} s i j v a = record { held = v.held; level = v.level; now = factorize_keeps_conflict (conflict_of s.conflict) i j k.1.0 k.1.1.0 (stood s s.conflict v.now k.0) }
  where
    k : AllOk (asks a.possible s (Factorize i j))
    k = a.checks

resolve_keeps_conflict : {nums : Numbers} {brings : Bool} (arities : List ℕ) (cs from : List Clause) (n : ℕ) → ((C : Clause) → Memᴰ C cs → Entailed nums arities from C)
    → (N : Instanced) (j : ℕ) (t : Trail) → T (literal_exists N.clause j) → Limited (resolvent N (j - 1) (last_reason cs t).of (last_reason cs t).own).clause → T (last_is_propagated t) → T (same_literal (complement (last_literal t)) (literal_instance N j)) → Stands nums brings arities cs from n t N
    → Stands nums brings arities cs from n t (resolvent N (j - 1) (last_reason cs t).of (last_reason cs t).own)
resolve_keeps_conflict {nums} {brings} arities cs from n helds N j [] okj few p e w = absurd p
resolve_keeps_conflict {nums} {brings} arities cs from n helds N j (background a o ∷ t) okj few p e w = absurd p
resolve_keeps_conflict {nums} {brings} arities cs from n helds N j (foreground l (decided c i b τ q) ∷ t) okj few p e w = absurd p
resolve_keeps_conflict {nums} {brings} arities cs from n helds N j (foreground l (propagated c i τ) ∷ t) okj few p e w = record {
  t₀ = w.t₀;
  built = w.built;
  tail = w.tail;
  possible = possible_sub (λ a m. sub a (Memᴰ.append_cases (atoms_of w.t₀) m)) w.possible;
  held = record {
    class = resolvent_class N (j - 1) R o (number_below j (length N.clause.literals) okj) own_lt w.held.class (reason_class C (i - 1) τ lt (helds C mem_c).class) (alike_complement N.instance R.instance (get_or N.clause.literals (j - 1) no_literal) (get_or R.clause.literals o no_literal) meet);
    limited = few;
    follows = λ I h. resolvent_true nums arities I N (j - 1) R o (alike_complement N.instance R.instance (get_or N.clause.literals (j - 1) no_literal) (get_or R.clause.literals o no_literal) meet) (w.held.follows I h) (reason_true nums arities I C (i - 1) τ lt ((helds C mem_c).follows I h));
  };
  sized = resolvent_sized N (j - 1) R o n (placed w.held.class) w.sized w_r s_r meet;
  isfalse = λ k m. fal k (Memᴰ.append_cases (map (ground N.instance) (without (j - 1) N.clause.literals)) (subst (Memᴰ k) (resolvent_literals N (j - 1) R o n (placed w.held.class) w.sized w_r s_r meet) m));
}
  where
    C : Clause
    C = clause_at cs c

    B : Below nums brings cs n t l (propagated c i τ) w.t₀
    B = below nums brings cs n w.built w.tail

    okc : T (clause_exists cs c)
    okc = B.ok.0

    P : PropOk nums n t C c i τ
    P = B.ok.1

    mem_c : Memᴰ C cs
    mem_c = clause_held cs c okc

    lt : i - 1 < length C.literals
    lt = number_below i (length C.literals) (and_l (literal_exists C i) (instance_fits n C τ) P.named)

    sz_c : Sized n C.variables τ
    sz_c = instance_sized n C τ (and_r (literal_exists C i) (instance_fits n C τ) P.named)

    R : Instanced
    R = (reason C (i - 1) τ).of

    o : ℕ
    o = (reason C (i - 1) τ).own

    own_lt : o < length R.clause.literals
    own_lt = reason_own_lt C (i - 1) τ lt

    w_r : WellPlaced R.clause
    w_r = reason_within C (i - 1) τ n lt (placed (helds C mem_c).class) sz_c

    s_r : Sized n R.clause.variables R.instance
    s_r = reason_sized C (i - 1) τ n lt (placed (helds C mem_c).class) sz_c

    g : Literal
    g = ground τ (get_or C.literals (i - 1) no_literal)

    own : ground R.instance (get_or R.clause.literals o no_literal) ≡ g
    own = reason_own C (i - 1) τ n lt (placed (helds C mem_c).class) sz_c

    meet : ground N.instance (get_or N.clause.literals (j - 1) no_literal) ≡ complement (ground R.instance (get_or R.clause.literals o no_literal))
    meet = sym (same_literal→eq (complement l) (literal_instance N j) e) ∙ ap complement (B.lit ∙ sym own)

    sub : (a : Atom) → Memᴰ a (atoms_of w.t₀) ⊎ Memᴰ a (ground_atoms (resolvent N (j - 1) R o).instance (resolvent N (j - 1) R o).clause.atoms) → Memᴰ a (atoms_of w.t₀ ++ ground_atoms N.instance N.clause.atoms)
    sub a (inl m) = Memᴰ.append_left (ground_atoms N.instance N.clause.atoms) m
    sub a (inr m) = go (resolvent_atoms N (j - 1) R o n (placed w.held.class) w.sized w_r s_r meet m)
      where
        go : Memᴰ a (ground_atoms N.instance N.clause.atoms) ⊎ Memᴰ a (ground_atoms R.instance R.clause.atoms) → Memᴰ a (atoms_of w.t₀ ++ ground_atoms N.instance N.clause.atoms)
        go (inl m) = Memᴰ.append_right (atoms_of w.t₀) m
        go (inr m) = Memᴰ.append_left (ground_atoms N.instance N.clause.atoms) (B.has a (reason_atoms C (i - 1) τ n lt (placed (helds C mem_c).class) sz_c m))

    fal : (k : Literal) → Memᴰ k (map (ground N.instance) (without (j - 1) N.clause.literals)) ⊎ Memᴰ k (map (ground R.instance) (without o R.clause.literals)) → T (is_false (foreground l (propagated c i τ) ∷ t) k)
    fal k (inl m) = let (x, y, z) = Memᴰ.of_map (ground N.instance) (without (j - 1) N.clause.literals) m in w.isfalse k (Memᴰ.cast (sym z) (Memᴰ.map (ground N.instance) (without_out (j - 1) N.clause.literals y)))
    fal k (inr m) =
        let (x, y, z, q) = reason_rest C (i - 1) τ n lt (placed (helds C mem_c).class) sz_c m in
        subst (λ u. T (is_false (foreground l (propagated c i τ) ∷ t) u)) q
        (or_r (same_literal (complement (ground τ x)) l) (is_false t (ground τ x)) (or_second (same_literal (ground τ x) g) (is_false t (ground τ x)) (all_of_out (λ m. same_literal (ground τ m) g || is_false t (ground τ m)) C.literals P.others y) z))

resolve_keeps : {nums : Numbers} {from : List Clause} (s : State) (j : ℕ) → Inv nums from s → Accepted nums s (Resolve j) (next s (Resolve j)) → Inv nums from (next s (Resolve j))
resolve_keeps {nums} {from} s j v a = record { held = v.held; level = v.level; now = resolve_keeps_conflict s.arities (clauses s) from s.constants v.held (conflict_of s.conflict) j s.trail k.1.0 (limited_of (resolvent (conflict_of s.conflict) (j - 1) (last_reason (clauses s) s.trail).of (last_reason (clauses s) s.trail).own).clause k.1.1.1.1.0) k.1.1.0 k.1.1.1.0 (stood s s.conflict v.now k.0) }
  where
    k : AllOk (asks a.possible s (Resolve j))
    k = a.checks

built_more : {nums : Numbers} {brings : Bool} (cs : List Clause) (D : Clause) (n : ℕ) {t : Trail} → Built nums brings cs n t → Built nums brings (snoc cs D) n t
built_more {nums} {brings} cs D n (empty e) = empty e
built_more {nums} {brings} cs D n {t} (group {t = u} m zs b k e) = go m k e (built_more cs D n b)
  where
    go : (m : Origin) → StepOk nums brings cs n u m zs → t ≡ grown cs m zs u → Built nums brings (snoc cs D) n u → Built nums brings (snoc cs D) n t
    go (propagated c l τ) k e b = let q = sym (clause_keep cs D c k.0) in
        group (propagated c l τ) zs b (ok_more cs D c k.0, subst (λ K. PropOk nums n u K c l τ) q k.1) (e ∙ ap (λ K. propagated_trail K (l - 1) τ (propagated c l τ) u) q)
    go (decided c l s τ j) (h, (k, i)) e b =
        let q = sym (clause_keep cs D c h) in
        let z = sym (sources_keep cs D n zs k.sources) in
        let w : (j : ℕ) → grown cs (decided c l s τ j) zs u ≡ grown (snoc cs D) (decided c l s τ j) zs u =
        λ j. ap {B = Trail} (λ K. bring cs zs (foreground (decided_literal K (l - 1) s τ) (decided c l s τ j) ∷ u)) q ∙ sym (bring_keep cs D n zs k.sources (foreground (literal_by (snoc cs D) (decided c l s τ j)) (decided c l s τ j) ∷ u)) in
        group (decided c l s τ j) zs b (
          ok_more cs D c h,
          (
            record {
              short = k.short;
              counts = k.counts;
              signs = k.signs;
              named = subst (λ K. T (literal_exists K l && instance_fits n K τ)) q k.named;
              sources = sources_more cs D n zs k.sources;
              undefined_yet = subst (λ K. T (undefined u (decided_literal K (l - 1) s τ))) q k.undefined_yet;
              free = subst (λ az. T (atoms_undefined (atoms_of u) az)) z k.free;
              possible = subst (λ az. Possible nums n (atoms_of u ++ az)) z k.possible;
              room = subst (λ w. T (leb (length w) 160)) (w (length zs)) k.room;
              may = k.may;
            },
            i,
          ),
        ) (e ∙ w j)

cut_built : {nums : Numbers} {brings : Bool} (cs : List Clause) (n : ℕ) {t₀ : Trail} (t : Trail) (i : ℕ) → Built nums brings cs n t₀ → Tail t t₀ → CutAt i t → Built nums brings cs n (cut i t)
cut_built {nums} {brings} cs n {t₀} t i b h r = go r.entry r.dec (tail_trans r.under h)
  where
    go : (e : Entry) → T (is_decision e) → Tail (e ∷ cut i t) t₀ → Built nums brings cs n (cut i t)
    go (foreground l m) d k = (below nums brings cs n b k).built
    go (background a o) d k = absurd d

step_undefined : (nums : Numbers) (brings : Bool) (cs : List Clause) (n : ℕ) (t : Trail) (m : Origin) (zs : List Source) → StepOk nums brings cs n t m zs → T (undefined t (literal_by cs m))
step_undefined nums brings cs n t (propagated c l τ) zs k = k.1.undefined_yet
step_undefined nums brings cs n t (decided c l b τ q) zs k = k.1.0.undefined_yet

cut_undefined : {nums : Numbers} {brings : Bool} (cs : List Clause) (n : ℕ) {t₀ : Trail} (t : Trail) (i : ℕ) (k : Literal) → Built nums brings cs n t₀ → Tail t t₀ → i < level_of k t → T (undefined (cut i t) k)
cut_undefined {nums} {brings} cs n {t₀} t i k b h lt = go (said (same_literal k F.lit))
  where
    F : Found k t
    F = found k t (omega arith)

    B : Below nums brings cs n F.rest F.lit F.made t₀
    B = below nums brings cs n b (tail_trans F.at h)

    U : T (undefined F.rest F.lit)
    U = subst (λ q. T (undefined F.rest q)) (sym B.lit) (step_undefined nums brings cs n F.rest F.made B.sources B.ok)

    In : Tail (cut i t) F.rest
    In = cut_inside i F.at (omega (arith, F.lev))

    off : (q : Literal) → T (not (on_trail q F.rest)) → T (not (on_trail q (cut i t)))
    off q = off_tail q In

    U₁ : T (not (on_trail F.lit F.rest))
    U₁ = (not_or (on_trail F.lit F.rest) (on_trail (complement F.lit) F.rest) U).0

    U₂ : T (not (on_trail (complement F.lit) F.rest))
    U₂ = (not_or (on_trail F.lit F.rest) (on_trail (complement F.lit) F.rest) U).1

    go : Said (same_literal k F.lit) → T (undefined (cut i t) k)
    go (holds e) = let p = sym (same_literal→eq k F.lit e) in
        not_or_in (on_trail k (cut i t)) (on_trail (complement k) (cut i t)) (subst (λ q. T (not (on_trail q (cut i t)))) p (off F.lit U₁)) (subst (λ q. T (not (on_trail (complement q) (cut i t)))) p (off (complement F.lit) U₂))
    go (fails e) = let p = sym (same_literal→eq (complement k) F.lit (or_second (same_literal k F.lit) (same_literal (complement k) F.lit) F.hit e)) in
        not_or_in (on_trail k (cut i t)) (on_trail (complement k) (cut i t)) (subst (λ q. T (not (on_trail q (cut i t)))) (ap complement p ∙ complement_twice k) (off (complement F.lit) U₂)) (subst (λ q. T (not (on_trail q (cut i t)))) p (off F.lit U₁))

backtracked : {nums : Numbers} {brings : Bool} {arities : List ℕ} {cs from : List Clause} {n : ℕ} {t : Trail} (N : Instanced) (l : ℕ) → Stands nums brings arities cs from n t N
    → T (literal_exists N.clause l) → back_level N l t < level_of (literal_instance N l) t
    → Possible nums n (atoms_of (cut (back_level N l t) t) ++ ground_atoms N.instance N.clause.atoms)
    → T (leb (length (propagated_trail N.clause (l - 1) N.instance (propagated (suc (length cs)) l N.instance) (cut (back_level N l t) t))) 160)
    → Built nums brings (snoc cs N.clause) n (propagated_trail N.clause (l - 1) N.instance (propagated (suc (length cs)) l N.instance) (cut (back_level N l t) t))
backtracked {nums} {brings} {arities} {cs} {from} {n} {t} N l w okl lt possible room =
    group (propagated (suc (length cs)) l N.instance) [] (built_more cs N.clause n (cut_built cs n t i w.built w.tail (cut_at i t (omega (arith, level_le (literal_instance N l) t))))) (
      ok_new cs N.clause,
      subst (λ K. PropOk nums n (cut i t) K (suc (length cs)) l N.instance) q
          (record { short = le→leb (length N.instance) most_variables (omega (arith, w.sized.size, w.held.limited.few_variables)); named = and_i (literal_exists N.clause l) (instance_fits n N.clause N.instance) okl (sized_instance n N.clause N.instance w.sized); undefined_yet = cut_undefined cs n t i (literal_instance N l) w.built w.tail lt; others = all_of_in (λ m. same_literal (ground N.instance m) (literal_instance N l) || is_false (cut i t) (ground N.instance m)) N.clause.literals (λ m h. each m h (without_cases (l - 1) N.clause.literals no_literal h)); possible = possible; room = room }),
    )
    (ap (λ K. propagated_trail K (l - 1) N.instance (propagated (suc (length cs)) l N.instance) (cut i t)) q)
  where
    i : ℕ
    i = back_level N l t

    q : N.clause ≡ clause_at (snoc cs N.clause) (suc (length cs))
    q = sym (clause_new cs N.clause)

    each : (m : Literal) → Memᴰ m N.clause.literals → (m ≡ get_or N.clause.literals (l - 1) no_literal) ⊎ Memᴰ m (without (l - 1) N.clause.literals) → T (same_literal (ground N.instance m) (literal_instance N l) || is_false (cut i t) (ground N.instance m))
    each m h (inl e) = or_either (same_literal (ground N.instance m) (literal_instance N l)) (is_false (cut i t) (ground N.instance m)) (inl (subst (λ u. T (same_literal (ground N.instance m) (ground N.instance u))) e (same_literal_refl (ground N.instance m))))
    each m h (inr k) = or_either (same_literal (ground N.instance m) (literal_instance N l)) (is_false (cut i t) (ground N.instance m)) (inr (cut_false i (ground N.instance m) t (w.isfalse (ground N.instance m) (Memᴰ.map (ground N.instance) h)) (level_at_most (ground N.instance m) t (other_instances N l) (Memᴰ.map (ground N.instance) k))))

backtrack_keeps : {nums : Numbers} {from : List Clause} (s : State) (l : ℕ) → Inv nums from s → Accepted nums s (Backtrack l) (next s (Backtrack l)) → Inv nums from (next s (Backtrack l))
backtrack_keeps {nums} {from} s l v a = record {
  held = λ C m. helds C (Memᴰ.append_cases (clauses s) (subst (Memᴰ C) (sym asc) m));
  level = sym (decisions_push (ground_atoms N.instance N.clause.atoms) (foreground (literal_instance N l) (propagated (suc (length (clauses s))) l N.instance) ∷ cut i s.trail) ∙ (cut_at i s.trail (omega (arith, lt, level_le (literal_instance N l) s.trail))).depth);
  now = record { lower = subst (λ cs. Built nums (brings_at s) cs s.constants (next s (Backtrack l)).trail) asc (backtracked N l w k.1.0 lt (a.decides.0 k.1.1.1.1.0) (and_l (leb (length (next s (Backtrack l)).trail) 160) (leb (suc (length s.learned)) 48) k.1.1.1.1.1.0)) };
}
  where
    k : AllOk (asks a.possible s (Backtrack l))
    k = a.checks

    N : Instanced
    N = conflict_of s.conflict

    w : Stands nums (brings_at s) s.arities (clauses s) from s.constants s.trail N
    w = stood s s.conflict v.now k.0

    i : ℕ
    i = back_level N l s.trail

    lt : i < level_of (literal_instance N l) s.trail
    lt = ltb→lt i (level_of (literal_instance N l) s.trail) k.1.1.1.0

    asc : snoc (clauses s) N.clause ≡ s.input ++ (s.learned ++ (N.clause ∷ []))
    asc = append_assoc s.input s.learned (N.clause ∷ [])

    helds : (C : Clause) → Memᴰ C (clauses s) ⊎ Memᴰ C (N.clause ∷ []) → Entailed nums s.arities from C
    helds C (inl m) = v.held C m
    helds C (inr m) = subst (Entailed nums s.arities from) (sym (Memᴰ.eq_of_singleton m)) w.held

-- ---- every rule
pub inv_step : {nums : Numbers} {from : List Clause} (s : State) (x : Step) (s' : State) → Inv nums from s → Accepted nums s x s' → Inv nums from s'
inv_step {nums} {from} s x s' v a = subst (Inv nums from) (sym a.is) (go x (record { possible = a.possible; decides = a.decides; checks = a.checks; is = refl }))
  where
    go : (x : Step) → Accepted nums s x (next s x) → Inv nums from (next s x)
    go (Propagate c l τ) a = propagate_keeps s c l τ v a
    go (Decide c l g τ zs) a = decide_keeps s c l g τ zs v a
    go (Conflict c τ) a = conflict_keeps s c τ v a
    go (Resolve l) a = resolve_keeps s l v a
    go (Factorize i j) a = factorize_keeps s i j v a
    go Skip a = skip_keeps s v a
    go (Backtrack l) a = backtrack_keeps s l v a
    go (Grow n) a = grow_keeps s n v
    go (Unknown r) a = absurd a.checks.0
