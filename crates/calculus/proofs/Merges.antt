-- Merging makes the groups that the pairs ask for, keeps each atom once and the literals that are named.
use mathlib.Core.Path.{◌∙◌, ◌≡◌, ap, ap₂, refl, sym}
use mathlib.Core.Logic.{◌⊎◌, inl, inr}
use mathlib.Core.List.{List, Memᴰ, [], ◌++◌, ◌∷◌, map}
use mathlib.Core.Bool.{Bool, cond, false, not, true}
use Prim.Native.Nat.{◌-◌, ◌≤◌, max, min, suc, ℕ}
use native.Mathlib.Omega.{arith}
use lib.Dec.{T_not, eqb, eqb→eq, leb, leb→le, nleb→lt}
use lib.ListN.{get_or, length, length-append}
use lib.Seq.{get_or-append_seam}
use Rattle.basis.specs.declared.Atom.{Atom}
use Rattle.basis.specs.declared.Literal.{Literal}
use Rattle.lists.proofs.Members.{keep_if_out, keep_if_sat, map_keep_if}
use Rattle.lists.proofs.Tests.{F→eq, Said, T→eq, fails, holds, not_eqb, said}
use Rattle.lists.specs.Lists.{keep_if, up_from}
use Rattle.calculus.specs.Clauses.{Instanced, ground, no_literal, same_atom, same_literal, under}
use Rattle.calculus.specs.Merges.{AtomsOnce, Instance, LargerGoes, MergedInGroups, NoneTwice, OldThenReasons, OthersGo, other_than}
use Rattle.calculus.specs.Merging.{distinct, join, joins, own_index, reason, reason_literals}
use Rattle.calculus.proofs.Class.{placed}
use Rattle.calculus.proofs.Derived.{factored_literals, reason_literals_lem, resolvent_literals}
use Rattle.calculus.proofs.Instances.{Sized, swap_fix, up_from_under}
use Rattle.calculus.proofs.Merged.{distinct_in, distinct_out, joins_meet, same_atom_refl, swap, under_join}
use Rattle.calculus.proofs.Asks.{between_says}

-- ---- groups

swap_cases : (a b w : ℕ) → (swap a b w ≡ min a b) ⊎ ((swap a b w ≡ w) × (¬ (w ≡ max a b)))
swap_cases a b w = go (said (eqb w (max a b)))
  where
    go : Said (eqb w (max a b)) → (swap a b w ≡ min a b) ⊎ ((swap a b w ≡ w) × (¬ (w ≡ max a b)))
    go (holds t) = inl (rw (T→eq (eqb w (max a b)) t))
    go (fails t) = inr (rw (F→eq (eqb w (max a b)) t), not_eqb w (max a b) t)

-- σ's numbers up to v are their own groups' numbers, and at most v.
record Settled (v : ℕ) (σ : List ℕ) : Type 0 where
  low : (x : ℕ) → x ≤ v → under σ x ≤ x
  own : (x : ℕ) → x ≤ v → under σ (under σ x) ≡ under σ x

join_settled : (v x y : ℕ) (σ : List ℕ) → x ≤ v → y ≤ v → Settled v σ → Settled v (join x y σ)
join_settled v x y σ hx hy s = record { low = lows; own = owns }
  where
    a : ℕ
    a = under σ x

    b : ℕ
    b = under σ y

    least : (z : ℕ) → swap a b z ≤ z
    least z = go (swap_cases a b z) (said (eqb z (max a b)))
      where
        go : (swap a b z ≡ min a b) ⊎ ((swap a b z ≡ z) × (¬ (z ≡ max a b))) → Said (eqb z (max a b)) → swap a b z ≤ z
        go (inl e) (holds t) = let q = eqb→eq z (max a b) t in omega arith
        go (inl e) (fails t) = rw (F→eq (eqb z (max a b)) t) (omega arith)
        go (inr (e, n)) k = omega arith

    lows : (z : ℕ) → z ≤ v → under (join x y σ) z ≤ z
    lows z h = let e = under_join x y σ z in let k = least (under σ z) in let l = s.low z h in omega arith

    -- The smaller of two numbers of groups is its own.
    small : under σ (min a b) ≡ min a b
    small = go (said (leb a b))
      where
        go : Said (leb a b) → under σ (min a b) ≡ min a b
        go (holds t) = let k = leb→le a b t in let e : min a b ≡ a = omega arith in rw e (s.own x hx)
        go (fails t) = let k = nleb→lt a b t in let e : min a b ≡ b = omega arith in rw e (s.own y hy)

    fixed : swap a b (min a b) ≡ min a b
    fixed = go (swap_cases a b (min a b))
      where
        go : (swap a b (min a b) ≡ min a b) ⊎ ((swap a b (min a b) ≡ min a b) × (¬ (min a b ≡ max a b))) → swap a b (min a b) ≡ min a b
        go (inl e) = e
        go (inr (e, n)) = e

    owns : (z : ℕ) → z ≤ v → under (join x y σ) (under (join x y σ) z) ≡ under (join x y σ) z
    owns z h = rw (under_join x y σ z) (under_join x y σ (swap a b (under σ z)) ∙ go (swap_cases a b (under σ z)))
      where
        go : (swap a b (under σ z) ≡ min a b) ⊎ ((swap a b (under σ z) ≡ under σ z) × (¬ (under σ z ≡ max a b))) → swap a b (under σ (swap a b (under σ z))) ≡ swap a b (under σ z)
        go (inl e) = rw e (ap (swap a b) small ∙ fixed)
        go (inr (e, n)) = ap (λ w. swap a b (under σ w)) e ∙ ap (swap a b) (s.own z h)

joins_settled : (v : ℕ) (es : List (ℕ × ℕ)) (σ : List ℕ) → ((x y : ℕ) → Memᴰ (x, y) es → (x ≤ v) × (y ≤ v)) → Settled v σ → Settled v (joins es σ)
joins_settled v [] σ f s = s
joins_settled v (p ∷ es) σ f s =
    let (a, b) = f p.0 p.1 (Memᴰ.head refl) in
    joins_settled v es (join p.0 p.1 σ) (λ x y m. f x y (Memᴰ.tail m)) (join_settled v p.0 p.1 σ a b s)

-- What is the same for the two of each pair is the same throughout a group.
joins_same : (v : ℕ) (f : ℕ → ℕ) (es : List (ℕ × ℕ)) (σ : List ℕ) → ((x y : ℕ) → Memᴰ (x, y) es → (x ≤ v) × (y ≤ v)) → ((x y : ℕ) → Memᴰ (x, y) es → f x ≡ f y)
    → ((x : ℕ) → x ≤ v → f (under σ x) ≡ f x) → (x : ℕ) → x ≤ v → f (under (joins es σ) x) ≡ f x
joins_same v f [] σ r e h x k = h x k
joins_same v f (p ∷ es) σ r e h x k =
    let (a, b) = r p.0 p.1 (Memᴰ.head refl) in
    let same = h p.0 a ∙ e p.0 p.1 (Memᴰ.head refl) ∙ sym (h p.1 b) in
    joins_same v f es (join p.0 p.1 σ) (λ x y m. r x y (Memᴰ.tail m)) (λ x y m. e x y (Memᴰ.tail m))
    (λ y l. ap f (under_join p.0 p.1 σ y) ∙ swap_fix f (under σ p.0) (under σ p.1) (under σ y) same ∙ h y l) x k

pub merged_in_groups : MergedInGroups
merged_in_groups es v r =
    let at = up_from_under v in
    let start : Settled v (up_from 1 v) = record { low = λ x h. let e = at x h in omega arith; own = λ x h. ap (under (up_from 1 v)) (at x h) } in
    let s = joins_settled v es (up_from 1 v) r start in
    record {
      meet = joins_meet es (up_from 1 v);
      no_others = λ f e. joins_same v f es (up_from 1 v) r e (λ x h. ap f (at x h));
      member = s.own;
      at_most = s.low;
    }

-- ---- atoms

kept_once : (p : Atom → Bool) (az : List Atom) → NoneTwice az → NoneTwice (keep_if p az)
kept_once p [] h = h
kept_once p (a ∷ az) h = go (p a) (kept_once p az h.1)
  where
    go : (b : Bool) → NoneTwice (keep_if p az) → NoneTwice (cond b (a ∷ keep_if p az) (keep_if p az))
    go true k = (λ m. h.0 (keep_if_out p az m), k)
    go false k = k

none_twice : (az : List Atom) → NoneTwice (distinct az)
none_twice [] = tt
none_twice (a ∷ az) =
    let others : Atom → Bool = λ b. not (same_atom a b) in
    (λ m. T_not (same_atom a a) (keep_if_sat others (distinct az) m) (same_atom_refl a), kept_once others (distinct az) (none_twice az))

pub atoms_once : AtomsOnce
atoms_once az = (none_twice az, λ a. (distinct_in az, distinct_out az))

-- ---- literals

sized : {arities : List ℕ} {n : ℕ} {K : Instanced} → Instance arities n K → Sized n K.clause.variables K.instance
sized {n} h = record { size = h.by_constants.for_each_variable; range = λ c m. (between_says 1 n c).1 (h.by_constants.of_constants c m) }

pub larger_goes : LargerGoes
larger_goes arities n K h i j e = factored_literals K (i - 1) (j - 1) n (placed h.class) (sized h) (go (said (leb (i - 1) (j - 1))))
  where
    at : ℕ → Literal
    at k = ground K.instance (get_or K.clause.literals k no_literal)

    go : Said (leb (i - 1) (j - 1)) → at (min (i - 1) (j - 1)) ≡ at (max (i - 1) (j - 1))
    go (holds t) = let k = leb→le (i - 1) (j - 1) t in ap at (omega arith) ∙ e ∙ ap at (omega arith)
    go (fails t) = let k = nleb→lt (i - 1) (j - 1) t in ap at (omega arith) ∙ sym e ∙ ap at (omega arith)

pub old_then_reasons : OldThenReasons
old_then_reasons arities n K R h k l own e = resolvent_literals K (l - 1) R own n (placed h.class) (sized h) (placed k.class) (sized k) e

-- The literals of a reason, and the place of its own one, by what stands before and after L
module _ (τ : List ℕ) (g L : Literal) (after : List Literal) where
  reason_literals_split : (before : List Literal) → map (ground τ) (reason_literals τ g (length before) (before ++ (L ∷ after))) ≡ other_than g (map (ground τ) before) ++ (ground τ L ∷ other_than g (map (ground τ) after))
  reason_literals_split [] = ap {B = List Literal} (λ r. ground τ L ∷ r) (map_keep_if (ground τ) (λ h. not (same_literal h g)) after)
  reason_literals_split (x ∷ xs) = go (same_literal (ground τ x) g) (reason_literals_split xs)
    where
      r : List Literal
      r = reason_literals τ g (length xs) (xs ++ (L ∷ after))

      s : List Literal
      s = other_than g (map (ground τ) xs)

      go : (b : Bool) → map (ground τ) r ≡ s ++ (ground τ L ∷ other_than g (map (ground τ) after)) → map (ground τ) (cond b r (x ∷ r)) ≡ cond (not b) (ground τ x ∷ s) s ++ (ground τ L ∷ other_than g (map (ground τ) after))
      go true e = e
      go false e = ap {B = List Literal} (λ q. ground τ x ∷ q) e

  own_index_split : (before : List Literal) → own_index τ g (length before) (before ++ (L ∷ after)) ≡ length (other_than g (map (ground τ) before))
  own_index_split [] = refl
  own_index_split (x ∷ xs) = go (same_literal (ground τ x) g) (own_index_split xs)
    where
      go : (b : Bool) {n : ℕ} → n ≡ length (other_than g (map (ground τ) xs)) → cond b n (suc n) ≡ length (cond (not b) (ground τ x ∷ other_than g (map (ground τ) xs)) (other_than g (map (ground τ) xs)))
      go true e = e
      go false e = ap suc e

pub others_go : OthersGo
unfolding reason
others_go arities n K h before L after e = record {
  kept = reason_literals_lem K.clause (length before) τ n (omega (arith, ap length e, length-append before (L ∷ after))) (placed h.class) (sized h)
      ∙ ap₂ (λ l ls. map (ground τ) (reason_literals τ (ground τ l) (length before) ls)) at e ∙ reason_literals_split τ (ground τ L) L after before;
  its_place = ap₂ (λ l ls. own_index τ (ground τ l) (length before) ls) at e ∙ own_index_split τ (ground τ L) L after before;
}
  where
    τ : List ℕ
    τ = K.instance

    at : get_or K.clause.literals (length before) no_literal ≡ L
    at = ap (λ ls. get_or ls (length before) no_literal) e ∙ get_or-append_seam before L after no_literal
