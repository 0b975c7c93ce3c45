-- From what each part of a merge does to the calculus's merge, and from its records to the limits.
use mathlib.Core.Path.{◌≡◌, refl, sym, ◌∙◌, ap, ap₂, subst}
use mathlib.Core.List.{List, [], ◌∷◌, ◌++◌, map, append_assoc, map-append, map-map}
use mathlib.Core.Bool.{Bool, true, false, not, ◌||◌, cond}
use Prim.Native.Nat.{ℕ, zero, suc, ◌+◌, ◌≤◌, min, max}
use native.Mathlib.Omega.{arith}
use lib.Dec.{T, eqb}
use lib.ListN.{length, get_or, length-map, length-take, length-append}
use borrow.Author.Tests.{ne_eqb}
use Rattle.basis.specs.declared.Atom.{Atom}
use Rattle.basis.specs.declared.Literal.{Literal}
use Rattle.std.proofs.Common.{Some}
use Rattle.basis.specs.Atoms.{no_atom}
use Rattle.basis.specs.Limits.{most_variables, most_atoms, most_literals}
use Rattle.lists.specs.Lists.{up_from, keep_if, any_of, without, pair_up}
use Rattle.lists.specs.declared.Held.{Held}
use Rattle.lists.specs.Arrays.{exactly, held, held_in}
use Rattle.lists.proofs.Arrays.{get_d_held, map_exactly}
use Rattle.lists.proofs.Walks.{keep_if_more, without_short, up_from_length}
use Rattle.calculus.specs.Clauses.{arguments, no_literal, same_atom, rename_atom, rename_literal, under, Instanced}
use Rattle.calculus.specs.Merging.{join, joins, distinct, occurs_in, close_up, merge, apart, factored}
use Rattle.calculus.proofs.Merged.{same_atom→eq, distinct_short}
use Rattle.clauses.specs.declared.Clause.{Clause}
use Rattle.clauses.specs.Records.{clause_of, packed_instanced, Counted}
use Rattle.joining.specs.Scratch.{both_variables, both_atoms, both_literals, through}
use Rattle.joining.specs.Fitted.{fitted}
use Rattle.joining.proofs.Closing.{close_fits}
use Rattle.joining.proofs.Scratch.{apart_none, held_read, kept_short}
use Rattle.merging.specs.Added.{add_one, add_each}

-- ---- tables longer than they need be

under_at : (n : ℕ) (σ : List ℕ) → length σ ≤ n → (x : ℕ) → under (exactly n 0 σ) x ≡ under σ x
under_at n σ h zero = refl
under_at n σ h (suc x) = get_d_held 0 n σ x h

pub under_exactly : (n : ℕ) (σ : List ℕ) → length σ ≤ n → under (exactly n 0 σ) ≡ under σ
under_exactly n σ h = λ i x. under_at n σ h x i

zero_stays : (a b : ℕ) → cond (eqb 0 (max a b)) (min a b) 0 ≡ 0
zero_stays zero zero = refl
zero_stays zero (suc b) = rw (ne_eqb 0 (max zero (suc b)) (λ e. omega arith))
zero_stays (suc a) b = rw (ne_eqb 0 (max (suc a) b) (λ e. omega arith))

join_exactly : (n x y : ℕ) (σ : List ℕ) → length σ ≤ n → join x y (exactly n 0 σ) ≡ exactly n 0 (join x y σ)
join_exactly n x y σ h =
    let f : ℕ → ℕ = λ z. cond (eqb z (max (under σ x) (under σ y))) (min (under σ x) (under σ y)) z in
    ap₂ (λ (a b : ℕ). map (λ z. cond (eqb z (max a b)) (min a b) z) (exactly n 0 σ)) (under_at n σ h x) (under_at n σ h y)
    ∙ map_exactly 0 f n σ ∙ ap (λ (d : ℕ). exactly n d (map f σ)) (zero_stays (under σ x) (under σ y))

pub joins_length : (es : List (ℕ × ℕ)) (σ : List ℕ) → length (joins es σ) ≡ length σ
joins_length [] σ = refl
joins_length (e ∷ es) σ = joins_length es (join e.0 e.1 σ) ∙ length-map σ _

joins_exactly : (n : ℕ) (es : List (ℕ × ℕ)) (σ : List ℕ) → length σ ≤ n → joins es (exactly n 0 σ) ≡ exactly n 0 (joins es σ)
joins_exactly n [] σ h = refl
joins_exactly n (e ∷ es) σ h =
    ap (joins es) (join_exactly n e.0 e.1 σ h) ∙ joins_exactly n es (join e.0 e.1 σ) (omega (arith, length-map σ (λ z. cond (eqb z (max (under σ e.0) (under σ e.1))) (min (under σ e.0) (under σ e.1)) z)))

merge_is : (es : List (ℕ × ℕ)) (v : ℕ) (az : List Atom) (ls : List Literal) (τ : List ℕ) {t : List ℕ} → v ≤ both_variables →
    t ≡ joins es (exactly both_variables 0 (up_from 1 v)) →
    close_up v (distinct (map (rename_atom (under t)) az)) (map (rename_literal (under t)) ls) τ ≡ merge es v az ls τ
unfolding merge
merge_is es v az ls τ {t} h et =
    let few : length (up_from 1 v) ≤ both_variables = omega (arith, up_from_length 1 v) in
    let σ = joins es (up_from 1 v) in
    let table : under t ≡ under σ = ap under (et ∙ joins_exactly both_variables es (up_from 1 v) few) ∙ under_exactly both_variables σ (omega (arith, joins_length es (up_from 1 v))) in
    ap (λ (f : ℕ → ℕ). close_up v (distinct (map (rename_atom f) az)) (map (rename_literal f) ls) τ) table

-- ---- atoms each once

-- A test that leaves out only what differs from x does not change whether x is there.
still_there : (y x : Atom) → same_atom y x ≡ false → (l : List Atom) → any_of (λ a. same_atom a x) (keep_if (λ b. not (same_atom y b)) l) ≡ any_of (λ a. same_atom a x) l
still_there y x n [] = refl
still_there y x n (a ∷ l) =
    go (same_atom y a) (keep_if (λ b. not (same_atom y b)) l) (λ e. ap (λ (k : Atom). same_atom k x) (sym (same_atom→eq y a (subst T (sym e) tt))) ∙ n) (still_there y x n l)
  where
    go : (E : Bool) {S : Bool} (m : List Atom) → (E ≡ true → same_atom a x ≡ false) → any_of (λ a. same_atom a x) m ≡ S → any_of (λ a. same_atom a x) (cond (not E) (a ∷ m) m) ≡ (same_atom a x || S)
    go true m h ih = rw (h refl) ih
    go false m h ih = ap (λ b. same_atom a x || b) ih

keep_if_cond : (p : Atom → Bool) (A : Bool) (l : List Atom) (x : Atom) → keep_if p (cond A l (l ++ (x ∷ []))) ≡ cond A (keep_if p l) (cond (p x) (keep_if p l ++ (x ∷ [])) (keep_if p l))
keep_if_cond p true l x = refl
keep_if_cond p false l x = keep_if_more p l x

-- One more at the end goes in where it is new.
distinct_more : (xs : List Atom) (x : Atom) → distinct (xs ++ (x ∷ [])) ≡ add_one (distinct xs) x
distinct_more [] x = refl
distinct_more (y ∷ ys) x =
    ap (λ l. y ∷ keep_if (λ b. not (same_atom y b)) l) (distinct_more ys x)
    ∙ ap (λ l. y ∷ l) (keep_if_cond (λ b. not (same_atom y b)) (any_of (λ a. same_atom a x) (distinct ys)) (distinct ys) x)
    ∙ go (any_of (λ a. same_atom a x) (distinct ys)) (same_atom y x) (keep_if (λ b. not (same_atom y b)) (distinct ys)) (λ e. still_there y x e (distinct ys))
  where
    go : (A E : Bool) {F : Bool} (f : List Atom) → (E ≡ false → F ≡ A) → y ∷ cond A f (cond (not E) (f ++ (x ∷ [])) f) ≡ cond (E || F) (y ∷ f) ((y ∷ f) ++ (x ∷ []))
    go true true f h = refl
    go false true f h = refl
    go true false f h = rw (h refl)
    go false false f h = rw (h refl)

pub add_each_distinct : (xs ys : List Atom) → add_each (distinct xs) ys ≡ distinct (xs ++ ys)
add_each_distinct xs [] = ap distinct (sym (mathlib.Core.List.append-nil xs))
add_each_distinct xs (y ∷ ys) =
    ap (λ (l : List Atom). add_each l ys) (sym (distinct_more xs y)) ∙ add_each_distinct (xs ++ (y ∷ [])) ys ∙ ap distinct (append_assoc xs (y ∷ []) ys)

-- ---- what is held of one clause, and of two together

module _ (t : List ℕ) where
  first : through t 0 ≡ under t
  first = let after : (ℕ → ℕ) → ℕ → ℕ = λ f x. under t (f x) in ap after apart_none

  pub atoms_first : (xs : List Atom) {ys : List Atom} {o a : Held Atom both_atoms} → ys ≡ xs → o ≡ held both_atoms no_atom [] →
      a ≡ held both_atoms no_atom (add_each (held_in o) (map (rename_atom (through t 0)) ys)) → a ≡ held both_atoms no_atom (distinct (map (rename_atom (under t)) xs))
  atoms_first xs {ys} {o} e eo ea =
      ea ∙ ap (λ (l : List Atom). held both_atoms no_atom (add_each (held_in o) (map (rename_atom (through t 0)) l))) e
      ∙ ap (held both_atoms no_atom) (ap₂ (λ (l : List Atom) (f : ℕ → ℕ). add_each l (map (rename_atom f) xs)) (held_read no_atom [] (omega arith) eo) first
      ∙ add_each_distinct [] (map (rename_atom (under t)) xs))

  pub literals_first : (xs : List Literal) {ys : List Literal} {o a : Held Literal both_literals} → ys ≡ xs → o ≡ held both_literals no_literal [] →
      a ≡ held both_literals no_literal (held_in o ++ map (rename_literal (through t 0)) ys) → a ≡ held both_literals no_literal (map (rename_literal (under t)) xs)
  literals_first xs {ys} {o} e eo ea =
      ea ∙ ap (λ (l : List Literal). held both_literals no_literal (held_in o ++ map (rename_literal (through t 0)) l)) e
      ∙ ap (held both_literals no_literal) (ap₂ (λ (l : List Literal) (f : ℕ → ℕ). l ++ map (rename_literal f) xs) (held_read no_literal [] (omega arith) eo) first)

  module _ (v : ℕ) where
    pub atoms_both : (xs ys : List Atom) {zs : List Atom} {a b : Held Atom both_atoms} → zs ≡ ys → length xs ≤ both_atoms → a ≡ held both_atoms no_atom (distinct (map (rename_atom (under t)) xs)) →
        b ≡ held both_atoms no_atom (add_each (held_in a) (map (rename_atom (through t v)) zs)) → b ≡ held both_atoms no_atom (distinct (map (rename_atom (under t)) (xs ++ map (rename_atom (apart v)) ys)))
    atoms_both xs ys {zs} {a} e h ea eb =
        let fx = map (rename_atom (under t)) xs in
        let fy = map (rename_atom (through t v)) ys in
        let read = held_read no_atom (distinct fx) (omega (arith, distinct_short fx, length-map xs (rename_atom (under t)))) ea in
        eb ∙ ap (λ (l : List Atom). held both_atoms no_atom (add_each (held_in a) (map (rename_atom (through t v)) l))) e
        ∙ ap (held both_atoms no_atom) (ap (λ (l : List Atom). add_each l fy) read ∙ add_each_distinct fx fy
        ∙ ap distinct (ap (λ (l : List Atom). fx ++ l) (sym (map-map (rename_atom (under t)) (rename_atom (apart v)) ys)) ∙ sym (map-append (rename_atom (under t)) xs (map (rename_atom (apart v)) ys))))

    pub literals_both : (xs ys : List Literal) {zs : List Literal} {a b : Held Literal both_literals} → zs ≡ ys → length xs ≤ both_literals → a ≡ held both_literals no_literal (map (rename_literal (under t)) xs) →
        b ≡ held both_literals no_literal (held_in a ++ map (rename_literal (through t v)) zs) → b ≡ held both_literals no_literal (map (rename_literal (under t)) (xs ++ map (rename_literal (apart v)) ys))
    literals_both xs ys {zs} {a} e h ea eb =
        let fx = map (rename_literal (under t)) xs in
        let read = held_read no_literal fx (omega (arith, length-map xs (rename_literal (under t)))) ea in
        eb ∙ ap (λ (l : List Literal). held both_literals no_literal (held_in a ++ map (rename_literal (through t v)) l)) e
        ∙ ap (held both_literals no_literal) (ap₂ (λ (l m : List Literal). l ++ m) read (sym (map-map (rename_literal (under t)) (rename_literal (apart v)) ys))
        ∙ sym (map-append (rename_literal (under t)) xs (map (rename_literal (apart v)) ys)))

pub constants_first : (xs : List ℕ) {ys : List ℕ} {o a : Held ℕ both_variables} → ys ≡ xs → o ≡ held both_variables 0 [] → a ≡ held both_variables 0 (held_in o ++ ys) → a ≡ held both_variables 0 xs
constants_first xs e eo ea = ea ∙ ap (held both_variables 0) (ap₂ (λ (l m : List ℕ). l ++ m) (held_read 0 [] (omega arith) eo) e)

pub constants_both : (xs ys : List ℕ) {zs : List ℕ} {a b : Held ℕ both_variables} → zs ≡ ys → length xs ≤ both_variables → a ≡ held both_variables 0 xs → b ≡ held both_variables 0 (held_in a ++ zs) → b ≡ held both_variables 0 (xs ++ ys)
constants_both xs ys e h ea eb = eb ∙ ap (held both_variables 0) (ap₂ (λ (l m : List ℕ). l ++ m) (held_read 0 xs h ea) e)

-- ---- what is held is few

pub atoms_few : (f : Atom → Atom) (xs : List Atom) {a : Held Atom both_atoms} → a ≡ held both_atoms no_atom (distinct (map f xs)) → a.n ≤ length xs
atoms_few f xs e = omega (arith, ap (λ (l : Held Atom both_atoms). l.n) e, distinct_short (map f xs), length-map xs f)

pub literals_few : (f : Literal → Literal) (xs : List Literal) {a : Held Literal both_literals} → a ≡ held both_literals no_literal (map f xs) → a.n ≡ length xs
literals_few f xs e = ap (λ (l : Held Literal both_literals). l.n) e ∙ length-map xs f

both_length : {A : Type 0} (f : A → A) (xs ys : List A) → length (xs ++ map f ys) ≡ length xs + length ys
both_length f xs ys = length-append xs (map f ys) ∙ ap (λ (n : ℕ). length xs + n) (length-map ys f)

-- ---- the merge of what is held

pub merge_made : (es : List (ℕ × ℕ)) (v : ℕ) (az : List Atom) (ls : List Literal) (τ : List ℕ) {t s : List ℕ} {a : Held Atom both_atoms} {l : Held Literal both_literals} {cs : List Atom} {ds : List Literal} {n : List ℕ} {w : ℕ} →
    w ≡ v → v ≤ both_variables → length az ≤ both_atoms → length ls ≤ both_literals → s ≡ exactly both_variables 0 (up_from 1 w) → t ≡ joins es s →
    a ≡ held both_atoms no_atom (distinct (map (rename_atom (under t)) az)) → l ≡ held both_literals no_literal (map (rename_literal (under t)) ls) → cs ≡ held_in a → ds ≡ held_in l → n ≡ τ →
    close_up w cs ds n ≡ merge es v az ls τ
merge_made es v az ls τ {t} {s} {a} {l} {cs} {ds} {n} ew hv ha hl es' et ea el eas ebs en =
    let fa = map (rename_atom (under t)) az in
    let fl = map (rename_literal (under t)) ls in
    ap (λ (u : ℕ). close_up u cs ds n) ew
    ∙ ap₂ (λ (x : List Atom) (y : List Literal). close_up v x y n)
    (eas ∙ held_read no_atom (distinct fa) (omega (arith, distinct_short fa, length-map az (rename_atom (under t)))) ea)
    (ebs ∙ held_read no_literal fl (omega (arith, length-map ls (rename_literal (under t)))) el)
    ∙ ap (close_up v (distinct fa) fl) en ∙ merge_is es v az ls τ hv (et ∙ ap (joins es) (es' ∙ ap (λ (u : ℕ). exactly both_variables 0 (up_from 1 u)) ew))

-- ---- the limits of a reason

pub merge_limits : (es : List (ℕ × ℕ)) (v : ℕ) (az : List Atom) (ls : List Literal) (τ : List ℕ) → v ≤ most_variables → length az ≤ most_atoms → length ls ≤ most_literals →
    fitted (merge es v az ls τ) ≡ Some (packed_instanced (merge es v az ls τ))
unfolding merge
merge_limits es v az ls τ hv ha hl =
    let σ = joins es (up_from 1 v) in
    let fa = map (rename_atom (under σ)) az in
    let fl = map (rename_literal (under σ)) ls in
    close_fits v (distinct fa) fl τ (omega (arith, kept_short (occurs_in (distinct fa) fl) v)) (omega (arith, distinct_short fa, length-map az (rename_atom (under σ)))) (omega (arith, length-map ls (rename_literal (under σ))))

-- ---- how much there is to merge

module _ (c : Clause) (h : Counted c) where
  pub few_atoms : length (clause_of c).atoms ≤ most_atoms
  few_atoms = omega (arith, h.few_atoms, length-take c.atomcount c.atoms)

  pub few_literals : length (clause_of c).literals ≤ most_literals
  few_literals = omega (arith, h.few_literals, length-take c.literalcount c.literals)

  pub few_others : (i : ℕ) → length (without i (clause_of c).literals) ≤ most_literals
  few_others i = omega (arith, h.few_literals, without_short i (clause_of c).literals, length-take c.literalcount c.literals)

module _ (c d : Clause) (h : Counted c) (k : Counted d) (v : ℕ) where
  pub few_both_atoms : length ((clause_of c).atoms ++ map (rename_atom (apart v)) (clause_of d).atoms) ≤ both_atoms
  few_both_atoms = omega (arith, both_length (rename_atom (apart v)) (clause_of c).atoms (clause_of d).atoms, few_atoms c h, few_atoms d k)

  pub few_both_others : (j i : ℕ) → length (without j (clause_of c).literals ++ map (rename_literal (apart v)) (without i (clause_of d).literals)) ≤ both_literals
  few_both_others j i = omega (arith, both_length (rename_literal (apart v)) (without j (clause_of c).literals) (without i (clause_of d).literals), few_others c h j, few_others d k i)

-- "Their variables are merged; the one with the larger number goes": whichever is named first
pub factored_low_high : (N : Instanced) (i j lo hi : ℕ) → min i j ≡ lo → max i j ≡ hi →
    factored N i j ≡ merge (pair_up (arguments (get_or N.clause.literals lo no_literal)) (arguments (get_or N.clause.literals hi no_literal))) N.clause.variables N.clause.atoms (without hi N.clause.literals) N.instance
unfolding factored
factored_low_high N i j lo hi el eh =
    ap₂ (λ (a b : ℕ). merge (pair_up (arguments (get_or N.clause.literals a no_literal)) (arguments (get_or N.clause.literals b no_literal))) N.clause.variables N.clause.atoms (without b N.clause.literals) N.instance) el eh
