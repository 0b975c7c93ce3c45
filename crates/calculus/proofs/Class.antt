-- Merging keeps clauses within the clause class: reasons, resolvents and factored conflicts of clauses of the class are of the class.
use mathlib.Core.Path.{◌∙◌, ◌≡◌, ap, refl, subst, sym}
use mathlib.Core.Logic.{◌⊎◌, inl, inr}
use mathlib.Core.List.Memᴰ
use mathlib.Core.List.{List, Memᴰ, [], ◌++◌, ◌∷◌, map}
use mathlib.Core.Bool.{Bool, ◌&&◌, ◌||◌, cond, false, true}
use Prim.Native.Nat.{◌+◌, ◌<◌, ◌≤◌, max, min, suc, zero, ℕ}
use native.Mathlib.Omega.{arith}
use lib.Dec.{T, eqb, eqb_refl, eqb-suc-zero, eqb→eq, leb, leb→le}
use lib.ListN.{drop, get_or, length, length-map, take, take-append-drop}
use Rattle.basis.specs.Atoms.{InRange, Proper}
use Rattle.basis.specs.Limits.{most_atoms, most_literals, most_variables}
use Rattle.basis.specs.declared.Atom.{Atom}
use Rattle.basis.specs.declared.Literal.{Literal}
use Rattle.lists.proofs.Counting.{index_of_keep_if, index_of_lt, up_from_mem, up_from_out}
use Rattle.lists.proofs.Members.{any_of_in, any_of_out, get_d_mem, keep_if_in, keep_if_out, keep_if_sat, keep_if_short, map_drop, map_take, pair_up_mem, pair_up_parts, without_out, without_short}
use Rattle.lists.proofs.Tests.{F→eq, Said, T→eq, and_l, and_r, fails, holds, or_l, or_r, said}
use Rattle.lists.proofs.Walks.{up_from_length}
use Rattle.lists.specs.Lists.{any_of, index_of, keep_if, pair_up, up_from, without}
use Rattle.calculus.specs.Class.{Bounded, DifferencesBounded, InClass, Limited, Occurs, ProperLiteral, arity_of, within_limits}
use Rattle.calculus.specs.Clauses.{Clause, Instanced, arguments, complement, ground, no_literal, rename_atom, rename_literal, same_literal, under}
use Rattle.calculus.specs.Merging.{apart, close_up, distinct, factored, join, joins, merge, occurs_in, own_index, own_pairs, reason, reason_literals, resolvent}
use Rattle.calculus.proofs.Derived.{own_pairs_out, reason_literals_out}
use Rattle.calculus.proofs.Instances.{Inside, joins_le, up_from_under}
use Rattle.calculus.proofs.Merged.{distinct_in, distinct_out, distinct_short, same_literal→eq, swap, under_join}
use Rattle.calculus.proofs.Truths.{Alike}

-- ---- what has the class's shape: places in range, differences bounded. Not yet: that each variable occurs

record Shaped (arities : List ℕ) (v : ℕ) (az : List Atom) (ls : List Literal) : Type 0 where
  pub atoms : (a : Atom) → Memᴰ a az → Proper InRange v a
  pub literals : (l : Literal) → Memᴰ l ls → ProperLiteral arities v l
  pub differences : DifferencesBounded az

shaped : {arities : List ℕ} {C : Clause} → InClass arities C → Shaped arities C.variables C.atoms C.literals
shaped c = record { atoms = c.atoms_proper; literals = c.literals_proper; differences = c.differences_bounded }

-- An argument is a variable, or 0 past the arity.
argument_cases : {arities : List ℕ} {v : ℕ} {l : Literal} → ProperLiteral arities v l → (x : ℕ) → Memᴰ x (arguments l) → (x ≡ zero) ⊎ ((1 ≤ x) × (x ≤ v))
argument_cases {arities} {v} {l} h x m = go (Memᴰ.append_cases (take n (arguments l)) (subst (Memᴰ x) (sym (take-append-drop n (arguments l))) m))
  where
    n : ℕ
    n = arity_of arities l.predicate

    go : Memᴰ x (take n (arguments l)) ⊎ Memᴰ x (drop n (arguments l)) → (x ≡ zero) ⊎ ((1 ≤ x) × (x ≤ v))
    go (inl k) = inr (h.its_arguments x k)
    go (inr k) = inl (h.no_others x k)

argument_le : {arities : List ℕ} {v : ℕ} {l : Literal} → ProperLiteral arities v l → (x : ℕ) → Memᴰ x (arguments l) → x ≤ v
argument_le {v = v} h x m = go (argument_cases h x m)
  where
    go : (x ≡ zero) ⊎ ((1 ≤ x) × (x ≤ v)) → x ≤ v
    go (inl e) = omega arith
    go (inr k) = k.1

pub placed : {arities : List ℕ} {C : Clause} → InClass arities C → Inside C.variables C.atoms C.literals
placed c = record { p_in = λ a m. (c.atoms_proper a m).p_place; q_in = λ a m. (c.atoms_proper a m).q_place; arguments_in = λ l m. argument_le (c.literals_proper l m) }

pub limited_of : (C : Clause) → T (within_limits C) → Limited C
limited_of C t =
    let u = and_r (leb C.variables most_variables) (leb (length C.atoms) most_atoms && leb (length C.literals) most_literals) t in
    record {
      few_variables = leb→le C.variables most_variables (and_l (leb C.variables most_variables) (leb (length C.atoms) most_atoms && leb (length C.literals) most_literals) t);
      few_atoms = leb→le (length C.atoms) most_atoms (and_l (leb (length C.atoms) most_atoms) (leb (length C.literals) most_literals) u);
      few_literals = leb→le (length C.literals) most_literals (and_r (leb (length C.atoms) most_atoms) (leb (length C.literals) most_literals) u);
    }

-- ---- bounds under renaming, without repetition, and joined

bounded_map : (f : ℕ → ℕ) → f zero ≡ zero → {az : List Atom} {x : ℕ} → Bounded az x → Bounded (map (rename_atom f) az) (f x)
bounded_map f e {az} {x} h = record {
  upper = h.upper;
  above = Memᴰ.cast (λ i. record { p = f x; q = sym e i; c = h.upper }) (Memᴰ.map (rename_atom f) h.above);
  lower = h.lower;
  below = Memᴰ.cast (λ i. record { p = sym e i; q = f x; c = h.lower }) (Memᴰ.map (rename_atom f) h.below);
}

differences_map : (f : ℕ → ℕ) → f zero ≡ zero → (az : List Atom) → DifferencesBounded az → DifferencesBounded (map (rename_atom f) az)
differences_map f e az h a m np nq = let (b, n, q) = Memᴰ.of_map (rename_atom f) az m in go b n q
  where
    go : (b : Atom) → Memᴰ b az → rename_atom f b ≡ a → Bounded (map (rename_atom f) az) a.p × Bounded (map (rename_atom f) az) a.q
    go b n q =
        let r = h b n (λ z. np (sym (ap (λ (k : Atom). k.p) q) ∙ ap f z ∙ e)) (λ z. nq (sym (ap (λ (k : Atom). k.q) q) ∙ ap f z ∙ e)) in
        (subst (Bounded (map (rename_atom f) az)) (ap (λ (k : Atom). k.p) q) (bounded_map f e r.0), subst (Bounded (map (rename_atom f) az)) (ap (λ (k : Atom). k.q) q) (bounded_map f e r.1))

bounded_among : {az bz : List Atom} {x : ℕ} → ((a : Atom) → Memᴰ a az → Memᴰ a bz) → Bounded az x → Bounded bz x
bounded_among f h = record { upper = h.upper; above = f _ h.above; lower = h.lower; below = f _ h.below }

differences_distinct : (az : List Atom) → DifferencesBounded az → DifferencesBounded (distinct az)
differences_distinct az h a m np nq = let r = h a (distinct_out az m) np nq in (bounded_among (λ b k. distinct_in az k) r.0, bounded_among (λ b k. distinct_in az k) r.1)

differences_append : (az bz : List Atom) → DifferencesBounded az → DifferencesBounded bz → DifferencesBounded (az ++ bz)
differences_append az bz h k a m np nq = go (Memᴰ.append_cases az m)
  where
    go : Memᴰ a az ⊎ Memᴰ a bz → Bounded (az ++ bz) a.p × Bounded (az ++ bz) a.q
    go (inl m) = let r = h a m np nq in (bounded_among (λ b k. Memᴰ.append_left bz k) r.0, bounded_among (λ b k. Memᴰ.append_left bz k) r.1)
    go (inr m) = let r = k a m np nq in (bounded_among (λ b k. Memᴰ.append_right az k) r.0, bounded_among (λ b k. Memᴰ.append_right az k) r.1)

-- ---- renaming by f, which keeps 0 and sends each variable that occurs to one up to w

pub record Renames (az : List Atom) (ls : List Literal) (v w : ℕ) (f : ℕ → ℕ) : Type 0 where
  pub zero_stays : f zero ≡ zero
  pub stays_in : (x : ℕ) → T (occurs_in az ls x) → 1 ≤ x → x ≤ v → (1 ≤ f x) × (f x ≤ w)

occurs_p : {az : List Atom} (ls : List Literal) {a : Atom} → Memᴰ a az → T (occurs_in az ls a.p)
occurs_p {az} ls {a} m = or_l (any_of (λ b. eqb a.p b.p || eqb a.p b.q) az) (any_of (λ l. any_of (eqb a.p) (arguments l)) ls)
    (any_of_in (λ b. eqb a.p b.p || eqb a.p b.q) az m (or_l (eqb a.p a.p) (eqb a.p a.q) (eqb_refl a.p)))

occurs_q : {az : List Atom} (ls : List Literal) {a : Atom} → Memᴰ a az → T (occurs_in az ls a.q)
occurs_q {az} ls {a} m = or_l (any_of (λ b. eqb a.q b.p || eqb a.q b.q) az) (any_of (λ l. any_of (eqb a.q) (arguments l)) ls)
    (any_of_in (λ b. eqb a.q b.p || eqb a.q b.q) az m (or_r (eqb a.q a.p) (eqb a.q a.q) (eqb_refl a.q)))

occurs_argument : (az : List Atom) {ls : List Literal} {l : Literal} → Memᴰ l ls → (x : ℕ) → Memᴰ x (arguments l) → T (occurs_in az ls x)
occurs_argument az {ls} {l} m x n = or_r (any_of (λ b. eqb x b.p || eqb x b.q) az) (any_of (λ k. any_of (eqb x) (arguments k)) ls)
    (any_of_in (λ k. any_of (eqb x) (arguments k)) ls m (any_of_in (eqb x) (arguments l) n (eqb_refl x)))

module _ {arities : List ℕ} {v w : ℕ} {f : ℕ → ℕ} {az : List Atom} {ls : List Literal} (g : Renames az ls v w f) (s : Shaped arities v az ls) where
  place_in : (x : ℕ) → T (occurs_in az ls x) → x ≤ v → (f x ≤ w) × (1 ≤ x → 1 ≤ f x)
  place_in zero o h = (omega (arith, g.zero_stays), λ k. absurd (omega arith))
  place_in (suc x) o h = let r = g.stays_in (suc x) o (omega arith) h in (r.1, λ k. r.0)

  renamed_proper : (a : Atom) → Memᴰ a az → Proper InRange w (rename_atom f a)
  renamed_proper a m =
      let h = s.atoms a m in
      let p = place_in a.p (occurs_p ls m) h.p_place in
      let q = place_in a.q (occurs_q ls m) h.q_place in
      record { p_place = p.0; q_place = q.0; some_place = either a.p a.q (f a.p) (f a.q) h.some_place p.1 q.1; c_range = h.c_range }
    where
      either : (x y fx fy : ℕ) → 0 < x + y → (1 ≤ x → 1 ≤ fx) → (1 ≤ y → 1 ≤ fy) → 0 < fx + fy
      either zero y fx fy h k l = omega (arith, l (omega arith))
      either (suc x) y fx fy h k l = omega (arith, k (omega arith))

  renamed_literal : (l : Literal) → Memᴰ l ls → ProperLiteral arities w (rename_literal f l)
  renamed_literal l m = record {
    from_one = h.from_one;
    known = h.known;
    its_arguments = λ x k. let (y, n, e) = Memᴰ.of_map f (take a (arguments l)) (subst (Memᴰ x) (sym (map_take f a (arguments l))) k) in own x y n e;
    no_others = λ x k. let (y, n, e) = Memᴰ.of_map f (drop a (arguments l)) (subst (Memᴰ x) (sym (map_drop f a (arguments l))) k) in sym e ∙ ap f (h.no_others y n) ∙ g.zero_stays;
  }
    where
      h : ProperLiteral arities v l
      h = s.literals l m

      a : ℕ
      a = arity_of arities l.predicate

      own : (x y : ℕ) → Memᴰ y (take a (arguments l)) → f y ≡ x → (1 ≤ x) × (x ≤ w)
      own x y n e =
          let r = h.its_arguments y n in
          let q = g.stays_in y (occurs_argument az m y (subst (Memᴰ y) (take-append-drop a (arguments l)) (Memᴰ.append_left (drop a (arguments l)) n))) r.0 r.1 in
          (omega (arith, q.0), omega (arith, q.1))

  renamed_shaped : Shaped arities w (map (rename_atom f) az) (map (rename_literal f) ls)
  renamed_shaped = record {
    atoms = λ a m. let (b, n, e) = Memᴰ.of_map (rename_atom f) az m in subst (Proper InRange w) e (renamed_proper b n);
    literals = λ l m. let (b, n, e) = Memᴰ.of_map (rename_literal f) ls m in subst (ProperLiteral arities w) e (renamed_literal b n);
    differences = differences_map f g.zero_stays az s.differences;
  }

shaped_distinct : {arities : List ℕ} {v : ℕ} {az : List Atom} {ls : List Literal} → Shaped arities v az ls → Shaped arities v (distinct az) ls
shaped_distinct {az = az} s = record { atoms = λ a m. s.atoms a (distinct_out az m); literals = s.literals; differences = differences_distinct az s.differences }

shaped_fewer : {arities : List ℕ} {v : ℕ} {az : List Atom} {ls ms : List Literal} → ((l : Literal) → Memᴰ l ms → Memᴰ l ls) → Shaped arities v az ls → Shaped arities v az ms
shaped_fewer f s = record { atoms = s.atoms; literals = λ l m. s.literals l (f l m); differences = s.differences }

shaped_append : {arities : List ℕ} {v : ℕ} {az bz : List Atom} {ls ms : List Literal} → Shaped arities v az ls → Shaped arities v bz ms → Shaped arities v (az ++ bz) (ls ++ ms)
shaped_append {arities} {v} {az} {bz} {ls} {ms} s u = record {
  atoms = λ a m. p a (Memᴰ.append_cases az m);
  literals = λ l m. q l (Memᴰ.append_cases ls m);
  differences = differences_append az bz s.differences u.differences;
}
  where
    p : (a : Atom) → Memᴰ a az ⊎ Memᴰ a bz → Proper InRange v a
    p a (inl m) = s.atoms a m
    p a (inr m) = u.atoms a m

    q : (l : Literal) → Memᴰ l ls ⊎ Memᴰ l ms → ProperLiteral arities v l
    q l (inl m) = s.literals l m
    q l (inr m) = u.literals l m

-- ---- the table of merged groups

-- The pairs are of two variables or of two zeros.
abbrev Paired : ℕ → List (ℕ × ℕ) → Type 0
Paired v es = (x y : ℕ) → Memᴰ (x, y) es → ((x ≡ zero) × (y ≡ zero)) ⊎ ((1 ≤ x) × (x ≤ v) × (1 ≤ y) × (y ≤ v))

joins_above : (v : ℕ) (es : List (ℕ × ℕ)) (σ : List ℕ) → Paired v es → ((x : ℕ) → 1 ≤ x → x ≤ v → 1 ≤ under σ x) → (x : ℕ) → 1 ≤ x → x ≤ v → 1 ≤ under (joins es σ) x
joins_above v [] σ f h x a b = h x a b
joins_above v (p ∷ es) σ f h x a b = joins_above v es (join p.0 p.1 σ) (λ y z m. f y z (Memᴰ.tail m)) (λ z c d. one z c d (f p.0 p.1 (Memᴰ.head refl))) x a b
  where
    least : (a b z : ℕ) → ((a ≡ zero) × (b ≡ zero)) ⊎ ((1 ≤ a) × (1 ≤ b)) → 1 ≤ z → 1 ≤ swap a b z
    least a b z c l = pick (said (eqb z (max a b))) c
      where
        pick : Said (eqb z (max a b)) → ((a ≡ zero) × (b ≡ zero)) ⊎ ((1 ≤ a) × (1 ≤ b)) → 1 ≤ swap a b z
        pick (fails t) c = rw (F→eq (eqb z (max a b)) t) l
        pick (holds t) (inl e) = absurd (omega (arith, e.0, e.1, eqb→eq z (max a b) t))
        pick (holds t) (inr e) = rw (T→eq (eqb z (max a b)) t) (omega (arith, e.0, e.1))

    one : (z : ℕ) → 1 ≤ z → z ≤ v → ((p.0 ≡ zero) × (p.1 ≡ zero)) ⊎ ((1 ≤ p.0) × (p.0 ≤ v) × (1 ≤ p.1) × (p.1 ≤ v)) → 1 ≤ under (join p.0 p.1 σ) z
    one z c d (inl e) = subst (λ q. 1 ≤ q) (sym (under_join p.0 p.1 σ z)) (least (under σ p.0) (under σ p.1) (under σ z) (inl (ap (under σ) e.0, ap (under σ) e.1)) (h z c d))
    one z c d (inr e) = subst (λ q. 1 ≤ q) (sym (under_join p.0 p.1 σ z)) (least (under σ p.0) (under σ p.1) (under σ z) (inr (h p.0 e.0 e.1, h p.1 e.2 e.3)) (h z c d))

module _ {arities : List ℕ} (es : List (ℕ × ℕ)) (v : ℕ) (az : List Atom) (ls : List Literal) (pairs : Paired v es) (s : Shaped arities v az ls) where
  joined_renames : Renames az ls v v (under (joins es (up_from 1 v)))
  joined_renames = record {
    zero_stays = refl;
    stays_in = λ x o a b. (joins_above v es (up_from 1 v) pairs (λ y c d. subst (λ q. 1 ≤ q) (sym (up_from_under v y d)) c) x a b, omega (arith, joins_le es (up_from 1 v) x, up_from_under v x b));
  }

pub closed_renames : (v : ℕ) (az : List Atom) (ls : List Literal) → Renames az ls v (length (keep_if (occurs_in az ls) (up_from 1 v))) (λ x. index_of x (zero ∷ keep_if (occurs_in az ls) (up_from 1 v)))
closed_renames v az ls = record { zero_stays = refl; stays_in = λ x o a b. at x a (keep_if_in (occurs_in az ls) (up_from 1 v) (up_from_mem 1 v x a (omega arith)) o) }
  where
    at : (x : ℕ) → 1 ≤ x → Memᴰ x (keep_if (occurs_in az ls) (up_from 1 v)) → (1 ≤ index_of x (zero ∷ keep_if (occurs_in az ls) (up_from 1 v))) × (index_of x (zero ∷ keep_if (occurs_in az ls) (up_from 1 v)) ≤ length (keep_if (occurs_in az ls) (up_from 1 v)))
    at zero a m = absurd (omega arith)
    at (suc x) a m = rw (eqb-suc-zero x) (omega arith, index_of_lt (suc x) (keep_if (occurs_in az ls) (up_from 1 v)) m)

used_map : (f : ℕ → ℕ) (az : List Atom) (ls : List Literal) (k : ℕ) → T (occurs_in az ls k) → T (occurs_in (map (rename_atom f) az) (map (rename_literal f) ls) (f k))
used_map f az ls k t = go (said (any_of in_a az))
  where
    in_a : Atom → Bool
    in_a a = eqb k a.p || eqb k a.q

    in_l : Literal → Bool
    in_l l = any_of (eqb k) (arguments l)

    out_a : Atom → Bool
    out_a a = eqb (f k) a.p || eqb (f k) a.q

    out_l : Literal → Bool
    out_l l = any_of (eqb (f k)) (arguments l)

    same : (x : ℕ) → T (eqb k x) → T (eqb (f k) (f x))
    same x h = subst (λ y. T (eqb (f k) (f y))) (eqb→eq k x h) (eqb_refl (f k))

    atom_ok : (a : Atom) → T (in_a a) → T (out_a (rename_atom f a))
    atom_ok a h = pick (said (eqb k a.p))
      where
        pick : Said (eqb k a.p) → T (out_a (rename_atom f a))
        pick (holds t) = or_l (eqb (f k) (f a.p)) (eqb (f k) (f a.q)) (same a.p t)
        pick (fails t) = or_r (eqb (f k) (f a.p)) (eqb (f k) (f a.q)) (same a.q (subst (λ b. T (b || eqb k a.q)) (F→eq (eqb k a.p) t) h))

    go : Said (any_of in_a az) → T (any_of out_a (map (rename_atom f) az) || any_of out_l (map (rename_literal f) ls))
    go (holds h) = let (a, m, u) = any_of_out in_a az h in or_l (any_of out_a (map (rename_atom f) az)) (any_of out_l (map (rename_literal f) ls)) (any_of_in out_a (map (rename_atom f) az) (Memᴰ.map (rename_atom f) m) (atom_ok a u))
    go (fails h) =
        let (l, m, u) = any_of_out in_l ls (subst (λ b. T (b || any_of in_l ls)) (F→eq (any_of in_a az) h) t) in
        let (x, n, w) = any_of_out (eqb k) (arguments l) u in
        or_r (any_of out_a (map (rename_atom f) az)) (any_of out_l (map (rename_literal f) ls)) (any_of_in out_l (map (rename_literal f) ls) (Memᴰ.map (rename_literal f) m) (any_of_in (eqb (f k)) (map f (arguments l)) (Memᴰ.map f n) (same x w)))

-- Each number after closing up is that of a variable that was kept.
pub closed_from : (v : ℕ) (az : List Atom) (ls : List Literal) (j : ℕ) → j < length (keep_if (occurs_in az ls) (up_from 1 v))
    → (y : ℕ) × Memᴰ y (keep_if (occurs_in az ls) (up_from 1 v)) × (index_of y (zero ∷ keep_if (occurs_in az ls) (up_from 1 v)) ≡ suc j)
closed_from v az ls j lt =
    let m = get_d_mem ks j zero lt in
    (get_or ks j zero, m, step (get_or ks j zero) (up_from_out 1 v (get_or ks j zero) (keep_if_out (occurs_in az ls) (up_from 1 v) m)).0 (index_of_keep_if (occurs_in az ls) 1 v j lt))
  where
    ks : List ℕ
    ks = keep_if (occurs_in az ls) (up_from 1 v)

    step : (y : ℕ) → 1 ≤ y → index_of y ks ≡ j → index_of y (zero ∷ ks) ≡ suc j
    step zero h e = absurd (omega arith)
    step (suc y) h e = rw (eqb-suc-zero y) (ap suc e)

-- After closing up every variable occurs.
close_occurs : (v : ℕ) (az : List Atom) (ls : List Literal) (τ : List ℕ) (x : ℕ) → 1 ≤ x → x ≤ (close_up v az ls τ).clause.variables → T (occurs_in (close_up v az ls τ).clause.atoms (close_up v az ls τ).clause.literals x)
unfolding close_up
close_occurs v az ls τ zero h k = absurd (omega arith)
close_occurs v az ls τ (suc j) h k =
    let (y, m, e) = closed_from v az ls j k in
    let r : ℕ → ℕ = λ x. index_of x (zero ∷ keep_if (occurs_in az ls) (up_from 1 v)) in
    subst (λ q. T (occurs_in (map (rename_atom r) az) (map (rename_literal r) ls) q)) e (used_map r az ls y (keep_if_sat (occurs_in az ls) (up_from 1 v) m))

-- ---- a merged clause is of the class

occurs_of : {C : Clause} {x : ℕ} → T (occurs_in C.atoms C.literals x) → Occurs C x
occurs_of {C} {x} t = go (said (any_of (λ a. eqb x a.p || eqb x a.q) C.atoms))
  where
    atom : (a : Atom) → Memᴰ a C.atoms → Said (eqb x a.p) → T (eqb x a.p || eqb x a.q) → Occurs C x
    atom a m (holds e) k = Occurs.in_atom a m (inl (eqb→eq x a.p e))
    atom a m (fails e) k = Occurs.in_atom a m (inr (eqb→eq x a.q (subst (λ b. T (b || eqb x a.q)) (F→eq (eqb x a.p) e) k)))

    go : Said (any_of (λ a. eqb x a.p || eqb x a.q) C.atoms) → Occurs C x
    go (holds k) = let (a, m, u) = any_of_out (λ a. eqb x a.p || eqb x a.q) C.atoms k in atom a m (said (eqb x a.p)) u
    go (fails k) =
        let (l, m, u) = any_of_out (λ l. any_of (eqb x) (arguments l)) C.literals (subst (λ b. T (b || any_of (λ l. any_of (eqb x) (arguments l)) C.literals)) (F→eq (any_of (λ a. eqb x a.p || eqb x a.q) C.atoms) k) t) in
        let (y, n, w) = any_of_out (eqb x) (arguments l) u in
        Occurs.in_literal l m (Memᴰ.cast (eqb→eq x y w) n)

merge_class : {arities : List ℕ} (es : List (ℕ × ℕ)) (v : ℕ) (az : List Atom) (ls : List Literal) (τ : List ℕ) → Paired v es → Shaped arities v az ls → InClass arities (merge es v az ls τ).clause
unfolding merge close_up
merge_class {arities} es v az ls τ pairs s =
    record { atoms_proper = r.atoms; literals_proper = r.literals; each_occurs = λ x a b. occurs_of (close_occurs v (distinct (map (rename_atom (under σ)) az)) (map (rename_literal (under σ)) ls) τ x a b); differences_bounded = r.differences }
  where
    σ : List ℕ
    σ = joins es (up_from 1 v)

    s₁ : Shaped arities v (distinct (map (rename_atom (under σ)) az)) (map (rename_literal (under σ)) ls)
    s₁ = shaped_distinct (renamed_shaped (joined_renames es v az ls pairs s) s)

    r : Shaped arities (merge es v az ls τ).clause.variables (merge es v az ls τ).clause.atoms (merge es v az ls τ).clause.literals
    r = renamed_shaped (closed_renames v (distinct (map (rename_atom (under σ)) az)) (map (rename_literal (under σ)) ls)) s₁

-- Two literals with one predicate pair variables with variables and zeros with zeros.
paired_arguments : {arities : List ℕ} {v : ℕ} {l m : Literal} → ProperLiteral arities v l → ProperLiteral arities v m → l.predicate ≡ m.predicate → Paired v (pair_up (arguments l) (arguments m))
paired_arguments {arities} {v} {l} {m} h k e x y p = go (pair_up_parts n (arguments l) (arguments m) p)
  where
    n : ℕ
    n = arity_of arities l.predicate

    k' : (P : ℕ → Type 0) → P (arity_of arities m.predicate) → P n
    k' P q = subst (λ r. P (arity_of arities r)) (sym e) q

    go : Memᴰ (x, y) (pair_up (take n (arguments l)) (take n (arguments m))) ⊎ Memᴰ (x, y) (pair_up (drop n (arguments l)) (drop n (arguments m)))
        → ((x ≡ zero) × (y ≡ zero)) ⊎ ((1 ≤ x) × (x ≤ v) × (1 ≤ y) × (y ≤ v))
    go (inl q) =
        let r = pair_up_mem (take n (arguments l)) (take n (arguments m)) x y q in
        let a = h.its_arguments x r.0 in
        let b = k' (λ i. Memᴰ y (take i (arguments m)) → (1 ≤ y) × (y ≤ v)) (k.its_arguments y) r.1 in
        inr (a.0, a.1, b.0, b.1)
    go (inr q) =
        let r = pair_up_mem (drop n (arguments l)) (drop n (arguments m)) x y q in
        inl (h.no_others x r.0, k' (λ i. Memᴰ y (drop i (arguments m)) → y ≡ zero) (k.no_others y) r.1)

own_lt : (τ : List ℕ) (g : Literal) (i : ℕ) (ls : List Literal) → i < length ls → own_index τ g i ls < length (reason_literals τ g i ls)
own_lt τ g i [] h = absurd (omega arith)
own_lt τ g zero (l ∷ ls) h = omega arith
own_lt τ g (suc i) (l ∷ ls) h = go (same_literal (ground τ l) g) (own_lt τ g i ls (omega arith))
  where
    go : (b : Bool) → own_index τ g i ls < length (reason_literals τ g i ls) → cond b (own_index τ g i ls) (suc (own_index τ g i ls)) < length (cond b (reason_literals τ g i ls) (l ∷ reason_literals τ g i ls))
    go true k = k
    go false k = omega arith

-- The variables of the reason follow those of the conflict.
apart_renames : (v w : ℕ) (az : List Atom) (ls : List Literal) → Renames az ls w (v + w) (apart v)
apart_renames v w az ls = record { zero_stays = refl; stays_in = λ x o a b. at x a b }
  where
    at : (x : ℕ) → 1 ≤ x → x ≤ w → (1 ≤ apart v x) × (apart v x ≤ v + w)
    at zero a b = absurd (omega arith)
    at (suc x) a b = rw (eqb-suc-zero x) (omega arith, omega arith)

shaped_wider : {arities : List ℕ} {v : ℕ} {az : List Atom} {ls : List Literal} (w : ℕ) → Shaped arities v az ls → Shaped arities (v + w) az ls
shaped_wider {v = v} w s = record {
  atoms = λ a m. let h = s.atoms a m in record { p_place = omega (arith, h.p_place); q_place = omega (arith, h.q_place); some_place = h.some_place; c_range = h.c_range };
  literals = λ l m. let h = s.literals l m in record { from_one = h.from_one; known = h.known; its_arguments = λ x n. let r = h.its_arguments x n in (r.0, omega (arith, r.1)); no_others = h.no_others };
  differences = s.differences;
}

pub reason_own_lt : (C : Clause) (i : ℕ) (τ : List ℕ) → i < length C.literals → (reason C i τ).own < length (reason C i τ).of.clause.literals
unfolding reason merge close_up
reason_own_lt C i τ lt = simp length-map (own_lt τ (ground τ (get_or C.literals i no_literal)) i C.literals lt)

pub reason_class : {arities : List ℕ} (C : Clause) (i : ℕ) (τ : List ℕ) → i < length C.literals → InClass arities C → InClass arities (reason C i τ).of.clause
unfolding reason
reason_class C i τ lt c = merge_class (own_pairs τ g L C.literals) C.variables C.atoms (reason_literals τ g i C.literals) τ pairs (shaped_fewer (λ l m. reason_literals_out τ g i C.literals m) (shaped c))
  where
    L : Literal
    L = get_or C.literals i no_literal

    g : Literal
    g = ground τ L

    pairs : Paired C.variables (own_pairs τ g L C.literals)
    pairs x y m =
        let (q, n, e, k) = own_pairs_out τ g L C.literals m in
        paired_arguments (c.literals_proper L (get_d_mem C.literals i no_literal lt)) (c.literals_proper q n) (sym (ap (λ (l : Literal). l.predicate) (same_literal→eq (ground τ q) g e))) x y k

pub resolvent_class : {arities : List ℕ} (N : Instanced) (j : ℕ) (R : Instanced) (i : ℕ) → j < length N.clause.literals → i < length R.clause.literals → InClass arities N.clause → InClass arities R.clause
    → Alike (get_or N.clause.literals j no_literal) (complement (get_or R.clause.literals i no_literal)) → InClass arities (resolvent N j R i).clause
unfolding resolvent
resolvent_class {arities} N j R i hj hi c d k = merge_class _ (v + w) (N.clause.atoms ++ map (rename_atom (apart v)) R.clause.atoms) (without j N.clause.literals ++ map (rename_literal (apart v)) (without i R.clause.literals)) (N.instance ++ R.instance)
    (paired_arguments (wide.literals L (get_d_mem N.clause.literals j no_literal hj)) (moved.literals (rename_literal (apart v) M) (Memᴰ.map (rename_literal (apart v)) (get_d_mem R.clause.literals i no_literal hi))) k.predicates)
    (shaped_append (shaped_fewer (λ l m. without_out j N.clause.literals m) wide) (shaped_fewer fewer moved))
  where
    v : ℕ
    v = N.clause.variables

    w : ℕ
    w = R.clause.variables

    L : Literal
    L = get_or N.clause.literals j no_literal

    M : Literal
    M = get_or R.clause.literals i no_literal

    wide : Shaped arities (v + w) N.clause.atoms N.clause.literals
    wide = shaped_wider w (shaped c)

    moved : Shaped arities (v + w) (map (rename_atom (apart v)) R.clause.atoms) (map (rename_literal (apart v)) R.clause.literals)
    moved = renamed_shaped (apart_renames v w R.clause.atoms R.clause.literals) (shaped d)

    fewer : (l : Literal) → Memᴰ l (map (rename_literal (apart v)) (without i R.clause.literals)) → Memᴰ l (map (rename_literal (apart v)) R.clause.literals)
    fewer l m = let (b, n, e) = Memᴰ.of_map (rename_literal (apart v)) (without i R.clause.literals) m in Memᴰ.cast (sym e) (Memᴰ.map (rename_literal (apart v)) (without_out i R.clause.literals n))

pub factored_class : {arities : List ℕ} (N : Instanced) (i j : ℕ) → max i j < length N.clause.literals → InClass arities N.clause
    → ground N.instance (get_or N.clause.literals (min i j) no_literal) ≡ ground N.instance (get_or N.clause.literals (max i j) no_literal) → InClass arities (factored N i j).clause
unfolding factored
factored_class N i j h c e = merge_class _ N.clause.variables N.clause.atoms (without (max i j) N.clause.literals) N.instance
    (paired_arguments (c.literals_proper _ (get_d_mem N.clause.literals (min i j) no_literal (omega arith))) (c.literals_proper _ (get_d_mem N.clause.literals (max i j) no_literal h)) (ap (λ (l : Literal). l.predicate) e))
    (shaped_fewer (λ l m. without_out (max i j) N.clause.literals m) (shaped c))

pub factored_limited : (N : Instanced) (i j : ℕ) → Limited N.clause → Limited (factored N i j).clause
unfolding factored merge close_up
factored_limited N i j l = record {
  few_variables = omega (arith, keep_if_short (occurs_in az ls) (up_from 1 v), up_from_length 1 v, l.few_variables);
  few_atoms = simp length-map (omega (arith, distinct_short (map (rename_atom (under σ)) N.clause.atoms), length-map N.clause.atoms (rename_atom (under σ)), l.few_atoms));
  few_literals = simp length-map (omega (arith, without_short (max i j) N.clause.literals, l.few_literals));
}
  where
    v : ℕ
    v = N.clause.variables

    σ : List ℕ
    σ = joins (pair_up (arguments (get_or N.clause.literals (min i j) no_literal)) (arguments (get_or N.clause.literals (max i j) no_literal))) (up_from 1 v)

    az : List Atom
    az = distinct (map (rename_atom (under σ)) N.clause.atoms)

    ls : List Literal
    ls = map (rename_literal (under σ)) (without (max i j) N.clause.literals)
