-- Tails and cuts of trails, levels, and what is false or undefined on them; what the numbers of a step name.
use mathlib.Core.Path.{◌∙◌, ◌≡◌, ap, refl, subst, sym}
use mathlib.Core.Logic.{◌⊎◌, inl, inr}
use mathlib.Core.List.Memᴰ
use mathlib.Core.List.{List, Memᴰ, [], ◌++◌, ◌∷◌, map}
use mathlib.Core.Option.{some}
use mathlib.Core.Bool.{Bool, ◌||◌, cond, false, not, true}
use Prim.Native.Nat.{◌-◌, ◌<◌, ◌≤◌, max, min, suc, zero, ℕ}
use native.Mathlib.Omega.{arith}
use lib.Dec.{T, T_not, eqb, eqb_refl, eqb→eq, leb, leb→le, le→leb, ltb, ltb→lt, nleb→lt, nltb→le, not_T}
use lib.ListN.{get_or-append, get_or, length, length-append}
use lib.Seq.{get_or-append_seam}
use Rattle.basis.specs.declared.Literal.{Literal}
use Rattle.lists.proofs.Denials.{not_or, or_second}
use Rattle.lists.proofs.Members.{all_of_in, all_of_out, any_of_in, get_d_mem, map_same}
use Rattle.lists.proofs.Tests.{F→eq, Said, T→eq, and_i, and_l, and_r, fails, holds, or_r, said}
use Rattle.lists.specs.Lists.{all_of}
use Rattle.calculus.specs.Checks.{between}
use Rattle.calculus.specs.Clauses.{Clause, Instanced, complement, ground, no_clause, same_literal}
use Rattle.calculus.specs.Tests.{clause_exists, complement_in_conflict, fits_in, instance_fits, source_fits}
use Rattle.calculus.specs.Rules.{bring, level_after_skip, source_atom, source_atoms, source_in, without_last}
use Rattle.calculus.specs.States.{clause_at}
use Rattle.calculus.specs.Trails.{Entry, Origin, Source, Trail, background, cut, decisions, foreground, is_decision, is_false, is_literal, largest_level, level_of, on_trail}
use Rattle.calculus.proofs.Instances.{Sized}
use Rattle.calculus.proofs.Merged.{same_literal_refl, same_literal→eq}
use Rattle.calculus.proofs.OnTrail.{complement_twice}
use Rattle.calculus.proofs.Trails.{Tail, here, tail_more, there}
use Rattle.calculus.proofs.Truths.{Alike}

pub number_below : (c k : ℕ) → T (between 1 k c) → c - 1 < k
number_below c k t =
    let a = leb→le 1 c (and_l (leb 1 c) (leb c k) t) in
    let b = leb→le c k (and_r (leb 1 c) (leb c k) t) in
    omega arith

pub clause_held : (cs : List Clause) (c : ℕ) → T (clause_exists cs c) → Memᴰ (clause_at cs c) cs
clause_held cs c t = get_d_mem cs (c - 1) no_clause (number_below c (length cs) t)

pub instance_sized : (n : ℕ) (C : Clause) (τ : List ℕ) → T (instance_fits n C τ) → Sized n C.variables τ
instance_sized n C τ t = record { size = eqb→eq (length τ) C.variables (and_l (eqb (length τ) C.variables) (all_of (between 1 n) τ) t); range = λ c m. all_of_out (between 1 n) τ (and_r (eqb (length τ) C.variables) (all_of (between 1 n) τ) t) m }

pub sized_instance : (n : ℕ) (C : Clause) (τ : List ℕ) → Sized n C.variables τ → T (instance_fits n C τ)
sized_instance n C τ z = and_i (eqb (length τ) C.variables) (all_of (between 1 n) τ) (subst (λ k. T (eqb (length τ) k)) z.size (eqb_refl (length τ))) (all_of_in (between 1 n) τ z.range)

-- ---- Skip
pub skip_lowers_level : (t : Trail) → level_after_skip t (decisions t) ≡ decisions (without_last t)
skip_lowers_level [] = refl
skip_lowers_level (e ∷ t) = go (is_decision e)
  where
    go : (b : Bool) → cond b (cond b (suc (decisions t)) (decisions t) - 1) (cond b (suc (decisions t)) (decisions t)) ≡ decisions t
    go true = omega arith
    go false = refl

pub tail_shorter : (t : Trail) {t₀ : Trail} → Tail t t₀ → Tail (without_last t) t₀
tail_shorter [] h = h
tail_shorter (e ∷ t) h = tail_more h

pub skip_false : (N : Instanced) (t : Trail) → T (not (complement_in_conflict N t)) → (l : Literal) → Memᴰ l (map (ground N.instance) N.clause.literals) → T (is_false t l) → T (is_false (without_last t) l)
skip_false N [] b l m h = h
skip_false N (background a o ∷ t) b l m h = h
skip_false N (foreground k s ∷ t) b l m h = go (said (same_literal (complement l) k)) h
  where
    go : Said (same_literal (complement l) k) → T (same_literal (complement l) k || on_trail (complement l) t) → T (on_trail (complement l) t)
    go (fails e) h = subst (λ q. T (q || on_trail (complement l) t)) (F→eq (same_literal (complement l) k) e) h
    go (holds e) h =
        let (x, y, z) = Memᴰ.of_map (ground N.instance) N.clause.literals m in
        let p : complement k ≡ ground N.instance x = ap complement (sym (same_literal→eq (complement l) k e)) ∙ complement_twice l ∙ sym z in
        absurd (T_not (complement_in_conflict N (foreground k s ∷ t)) b (any_of_in (λ q. same_literal (complement k) (ground N.instance q)) N.clause.literals y (subst (λ q. T (same_literal (complement k) q)) p (same_literal_refl (complement k)))))

-- ---- Factorize
pub min_max : {A : Type 0} (f : ℕ → A) (a b : ℕ) → f a ≡ f b → f (min a b) ≡ f (max a b)
min_max f a b e = go (said (leb a b))
  where
    go : Said (leb a b) → f (min a b) ≡ f (max a b)
    go (holds s) = ap f (omega (arith, leb→le a b s)) ∙ e ∙ ap f (omega (arith, leb→le a b s))
    go (fails s) = ap f (omega (arith, nleb→lt a b s)) ∙ sym e ∙ ap f (omega (arith, nleb→lt a b s))

pub alike_complement : (τ π : List ℕ) (l m : Literal) → ground τ l ≡ complement (ground π m) → Alike l (complement m)
alike_complement τ π l m e = record { signs = ap (λ (k : Literal). k.positive) e; predicates = ap (λ (k : Literal). k.predicate) e }

-- ---- Backtrack
abbrev pub snoc : List Clause → Clause → List Clause
snoc cs C = cs ++ (C ∷ [])

-- Clause numbers stay valid
pub ok_more : (cs : List Clause) (D : Clause) (c : ℕ) → T (clause_exists cs c) → T (clause_exists (snoc cs D) c)
ok_more cs D c t =
    let h = leb→le c (length cs) (and_r (leb 1 c) (leb c (length cs)) t) in
    and_i (leb 1 c) (leb c (length (snoc cs D))) (and_l (leb 1 c) (leb c (length cs)) t) (le→leb c (length (snoc cs D)) (omega (arith, length-append cs (D ∷ []))))

pub clause_keep : (cs : List Clause) (D : Clause) (c : ℕ) → T (clause_exists cs c) → clause_at (snoc cs D) c ≡ clause_at cs c
clause_keep cs D c t = get_or-append cs (D ∷ []) no_clause (c - 1) (number_below c (length cs) t)

pub clause_new : (cs : List Clause) (D : Clause) → clause_at (snoc cs D) (suc (length cs)) ≡ D
clause_new cs D = ap (λ q. get_or (snoc cs D) q no_clause) e ∙ get_or-append_seam cs D [] no_clause
  where
    e : suc (length cs) - 1 ≡ length cs
    e = omega arith

pub ok_new : (cs : List Clause) (D : Clause) → T (clause_exists (snoc cs D) (suc (length cs)))
ok_new cs D = and_i (leb 1 (suc (length cs))) (leb (suc (length cs)) (length (snoc cs D))) (le→leb 1 (suc (length cs)) (omega arith)) (le→leb (suc (length cs)) (length (snoc cs D)) (omega (arith, length-append cs (D ∷ []))))

-- .. and so do those by which decisions named atoms.
source_more : (cs : List Clause) (D : Clause) (n : ℕ) (z : Source) → T (source_fits cs n z) → T (source_fits (snoc cs D) n z) × (source_atom (snoc cs D) z ≡ source_atom cs z)
source_more cs D n z h =
    let k = and_l (clause_exists cs z.clause) (fits_in n (clause_at cs z.clause) z) h in
    let e = clause_keep cs D z.clause k in (
      and_i (clause_exists (snoc cs D) z.clause) (fits_in n (clause_at (snoc cs D) z.clause) z) (ok_more cs D z.clause k)
          (subst (λ K. T (fits_in n K z)) (sym e) (and_r (clause_exists cs z.clause) (fits_in n (clause_at cs z.clause) z) h)),
      ap (λ K. source_in K z) e,
    )

pub sources_more : (cs : List Clause) (D : Clause) (n : ℕ) (zs : List Source) → T (all_of (source_fits cs n) zs) → T (all_of (source_fits (snoc cs D) n) zs)
sources_more cs D n zs h = all_of_in (source_fits (snoc cs D) n) zs (λ z m. (source_more cs D n z (all_of_out (source_fits cs n) zs h m)).0)

pub sources_keep : (cs : List Clause) (D : Clause) (n : ℕ) (zs : List Source) → T (all_of (source_fits cs n) zs) → source_atoms (snoc cs D) zs ≡ source_atoms cs zs
sources_keep cs D n zs h = map_same (source_atom (snoc cs D)) (source_atom cs) zs (λ z m. (source_more cs D n z (all_of_out (source_fits cs n) zs h m)).1)

pub bring_keep : (cs : List Clause) (D : Clause) (n : ℕ) (zs : List Source) → T (all_of (source_fits cs n) zs) → (t : Trail) → bring (snoc cs D) zs t ≡ bring cs zs t
bring_keep cs D n [] h t = refl
bring_keep cs D n (z ∷ zs) h t =
    ap (λ a. bring (snoc cs D) zs (background a (some z) ∷ t)) (source_more cs D n z (and_l (source_fits cs n z) (all_of (source_fits cs n) zs) h)).1
    ∙ bring_keep cs D n zs (and_r (source_fits cs n z) (all_of (source_fits cs n) zs) h) (background (source_atom cs z) (some z) ∷ t)

-- The cut
pub tail_trans : {t u w : Trail} → Tail t u → Tail u w → Tail t w
tail_trans {t} h (here e) = subst (Tail t) e h
tail_trans h (there k) = there (tail_trans h k)

pub cut_all : (i : ℕ) (t : Trail) → decisions t ≤ i → cut i t ≡ t
cut_all i [] h = refl
cut_all i (e ∷ t) h = rw (T→eq (leb (decisions (e ∷ t)) i) (le→leb (decisions (e ∷ t)) i h))

pub record CutAt (i : ℕ) (t : Trail) : Type 0 where
  pub entry : Entry
  pub dec : T (is_decision entry)
  pub under : Tail (entry ∷ cut i t) t
  pub depth : decisions (cut i t) ≡ i

pub cut_at : (i : ℕ) (t : Trail) → i < decisions t → CutAt i t
cut_at i [] h = absurd (omega arith)
cut_at i (e ∷ t) h = go (λ k. cut_at i t k) (said (ltb i (decisions t)))
  where
    no_keep : T (not (leb (decisions (e ∷ t)) i))
    no_keep = not_T (leb (decisions (e ∷ t)) i) (λ q. let k = leb→le (decisions (e ∷ t)) i q in omega arith)

    e₁ : cut i (e ∷ t) ≡ cut i t
    e₁ = rw (F→eq (leb (decisions (e ∷ t)) i) no_keep)

    same : (b : Bool) → i < cond b (suc (decisions t)) (decisions t) → decisions t ≤ i → T b × (decisions t ≡ i)
    same true h k = (tt, omega arith)
    same false h k = absurd (omega arith)

    go : (i < decisions t → CutAt i t) → Said (ltb i (decisions t)) → CutAt i (e ∷ t)
    go ih (holds k) = let r = ih (ltb→lt i (decisions t) k) in
        record { entry = r.entry; dec = r.dec; under = subst (λ q. Tail (r.entry ∷ q) (e ∷ t)) (sym e₁) (there r.under); depth = ap decisions e₁ ∙ r.depth }
    go ih (fails k) =
        let h₂ : decisions t ≤ i = nltb→le i (decisions t) k in
        let r = same (is_decision e) h h₂ in
        let e₂ : cut i (e ∷ t) ≡ t = e₁ ∙ cut_all i t h₂ in
        record { entry = e; dec = r.0; under = here (ap {B = Trail} (λ q. e ∷ q) e₂); depth = ap decisions e₂ ∙ r.1 }

pub level_hit : (k : Literal) (e : Entry) (t : Trail) → T (is_literal k e || is_literal (complement k) e) → level_of k (e ∷ t) ≡ decisions (e ∷ t)
level_hit k e t h = rw (T→eq (is_literal k e || is_literal (complement k) e) h)

pub level_miss : (k : Literal) (e : Entry) (t : Trail) → T (not (is_literal k e || is_literal (complement k) e)) → level_of k (e ∷ t) ≡ level_of k t
level_miss k e t h = rw (F→eq (is_literal k e || is_literal (complement k) e) h)

pub decisions_more : (e : Entry) (t : Trail) → decisions t ≤ decisions (e ∷ t)
decisions_more e t = go (is_decision e)
  where
    go : (b : Bool) → decisions t ≤ cond b (suc (decisions t)) (decisions t)
    go true = omega arith
    go false = omega arith

pub level_le : (k : Literal) (t : Trail) → level_of k t ≤ decisions t
level_le k [] = omega arith
level_le k (e ∷ t) = go (level_le k t) (said (is_literal k e || is_literal (complement k) e))
  where
    go : level_of k t ≤ decisions t → Said (is_literal k e || is_literal (complement k) e) → level_of k (e ∷ t) ≤ decisions (e ∷ t)
    go h (holds m) = omega (arith, level_hit k e t m)
    go h (fails m) = omega (arith, level_miss k e t m, decisions_more e t)

pub cut_step : (i : ℕ) (e : Entry) (t : Trail) → i < decisions (e ∷ t) → cut i (e ∷ t) ≡ cut i t
cut_step i e t h = rw (F→eq (leb (decisions (e ∷ t)) i) (not_T (leb (decisions (e ∷ t)) i) (λ q. let k = leb→le (decisions (e ∷ t)) i q in omega arith)))

pub cut_false : (i : ℕ) (k : Literal) (t : Trail) → T (is_false t k) → level_of k t ≤ i → T (is_false (cut i t) k)
cut_false i k [] f h = f
cut_false i k (e ∷ t) f h = go (λ f h. cut_false i k t f h) (said (leb (decisions (e ∷ t)) i)) (said (is_literal k e || is_literal (complement k) e))
  where
    go : (T (is_false t k) → level_of k t ≤ i → T (is_false (cut i t) k)) → Said (leb (decisions (e ∷ t)) i) → Said (is_literal k e || is_literal (complement k) e) → T (is_false (cut i (e ∷ t)) k)
    go ih (holds q) m = rw (T→eq (leb (decisions (e ∷ t)) i) q) f
    go ih (fails q) (holds m) = absurd (omega (arith, level_hit k e t m, nleb→lt (decisions (e ∷ t)) i q))
    go ih (fails q) (fails m) = rw (F→eq (leb (decisions (e ∷ t)) i) q) (ih (or_second (is_literal (complement k) e) (is_false t k) f (not_or (is_literal k e) (is_literal (complement k) e) m).1) (omega (arith, level_miss k e t m)))

pub level_at_most : (k : Literal) (t : Trail) (ls : List Literal) → Memᴰ k ls → level_of k t ≤ largest_level t ls
level_at_most k t [] m = absurd (Memᴰ.not-nil m)
level_at_most k t (l ∷ ls) m = go (λ h. level_at_most k t ls h) (Memᴰ.cases_cons m)
  where
    go : (Memᴰ k ls → level_of k t ≤ largest_level t ls) → (k ≡ l) ⊎ Memᴰ k ls → level_of k t ≤ largest_level t (l ∷ ls)
    go ih (inl e) = omega (arith, ap (λ q. level_of q t) e)
    go ih (inr h) = omega (arith, ih h)

-- The newest entry of a literal's atom
pub record Found (k : Literal) (t : Trail) : Type 0 where
  pub lit : Literal
  pub made : Origin
  pub rest : Trail
  pub at : Tail (foreground lit made ∷ rest) t
  pub hit : T (same_literal k lit || same_literal (complement k) lit)
  pub lev : level_of k t ≡ decisions (foreground lit made ∷ rest)

pub found : (k : Literal) (t : Trail) → zero < level_of k t → Found k t
found k [] h = absurd (omega arith)
found k (background a o ∷ t) h = let r = found k t h in record { lit = r.lit; made = r.made; rest = r.rest; at = there r.at; hit = r.hit; lev = r.lev }
found k (foreground l m ∷ t) h = go (λ h. found k t h) (said (same_literal k l || same_literal (complement k) l))
  where
    go : (zero < level_of k t → Found k t) → Said (same_literal k l || same_literal (complement k) l) → Found k (foreground l m ∷ t)
    go ih (holds q) = record { lit = l; made = m; rest = t; at = here refl; hit = q; lev = level_hit k (foreground l m) t q }
    go ih (fails q) = let e = level_miss k (foreground l m) t q in let r = ih (omega arith) in record { lit = r.lit; made = r.made; rest = r.rest; at = there r.at; hit = r.hit; lev = e ∙ r.lev }

pub decisions_tail : {t u : Trail} → Tail t u → decisions t ≤ decisions u
decisions_tail {t} (here e) = subst (λ q. decisions t ≤ decisions q) e (omega arith)
decisions_tail (there {e = e} {u = u} h) = omega (arith, decisions_tail h, decisions_more e u)

pub cut_tail : (i : ℕ) (t : Trail) → Tail (cut i t) t
cut_tail i [] = here refl
cut_tail i (e ∷ t) = go (leb (decisions (e ∷ t)) i) (cut_tail i t)
  where
    go : (b : Bool) → Tail (cut i t) t → Tail (cond b (e ∷ t) (cut i t)) (e ∷ t)
    go true h = here refl
    go false h = there h

pub cut_inside : (i : ℕ) {e : Entry} {r t : Trail} → Tail (e ∷ r) t → i < decisions (e ∷ r) → Tail (cut i t) r
cut_inside i {e} {r} (here p) h = subst (λ q. Tail (cut i q) r) p (subst (λ q. Tail q r) (sym (cut_step i e r h)) (cut_tail i r))
cut_inside i {e} {r} (there {e = e'} {u = u} k) h = subst (λ q. Tail q r) (sym (cut_step i e' u (omega (arith, decisions_tail k, decisions_more e' u)))) (cut_inside i k h)

pub on_tail : (k : Literal) {t u : Trail} → Tail t u → T (on_trail k t) → T (on_trail k u)
on_tail k (here e) h = subst (λ q. T (on_trail k q)) e h
on_tail k (there {e = e} {u = u} p) h = or_r (is_literal k e) (on_trail k u) (on_tail k p h)

pub off_tail : (k : Literal) {t u : Trail} → Tail t u → T (not (on_trail k u)) → T (not (on_trail k t))
off_tail k {t} {u} p h = not_T (on_trail k t) (λ q. T_not (on_trail k u) h (on_tail k p q))
