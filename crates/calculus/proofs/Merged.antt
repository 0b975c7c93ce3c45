-- Tested equality of atoms and literals, atoms kept once, and groups of variables that are joined.
use mathlib.Core.Path.{◌∙◌, ◌≡◌, ap, refl, subst, sym}
use mathlib.Core.Logic.{◌⊎◌, inl, inr}
use mathlib.Core.List.Memᴰ
use mathlib.Core.List.{List, Memᴰ, [], ◌∷◌, map}
use mathlib.Core.Bool.{beq, ◌&&◌, cond, not}
use Prim.Native.Nat.{◌≤◌, max, min, suc, zero, ℕ}
use native.Mathlib.Omega.{arith}
use lib.Dec.{T, T_not, eqb, eqb_refl, eqb→eq}
use lib.ListN.{get_or-map, get_or, length}
use Rattle.basis.specs.declared.Atom.{Atom}
use Rattle.basis.specs.declared.Literal.{Literal}
use Rattle.lists.proofs.Members.{keep_if_in, keep_if_out, keep_if_short}
use Rattle.lists.proofs.Tests.{F→eq, Said, T→eq, and_i, and_l, and_r, beq_refl, beq→eq, fails, holds, said, same_list_refl, same_list→eq, same_whole_refl, same_whole→eq}
use Rattle.lists.specs.Lists.{keep_if, same_list, same_whole}
use Rattle.calculus.specs.Clauses.{arguments, rename_literal, same_atom, same_literal, under}
use Rattle.calculus.specs.Merging.{distinct, join, joins}

pub same_atom→eq : (a b : Atom) → T (same_atom a b) → a ≡ b
same_atom→eq a b t =
    let t₂ = and_r (eqb a.p b.p) (eqb a.q b.q && same_whole a.c b.c) t in
    let e₁ : a.p ≡ b.p = eqb→eq a.p b.p (and_l (eqb a.p b.p) (eqb a.q b.q && same_whole a.c b.c) t) in
    let e₂ : a.q ≡ b.q = eqb→eq a.q b.q (and_l (eqb a.q b.q) (same_whole a.c b.c) t₂) in
    let e₃ : a.c ≡ b.c = same_whole→eq a.c b.c (and_r (eqb a.q b.q) (same_whole a.c b.c) t₂) in
    λ i. record { p = e₁ i; q = e₂ i; c = e₃ i }

pub same_atom_refl : (a : Atom) → T (same_atom a a)
same_atom_refl a = and_i (eqb a.p a.p) (eqb a.q a.q && same_whole a.c a.c) (eqb_refl a.p) (and_i (eqb a.q a.q) (same_whole a.c a.c) (eqb_refl a.q) (same_whole_refl a.c))

-- Literals with the same sign, predicate and arguments are one.
same_arguments : {a b : Literal} → a.positive ≡ b.positive → a.predicate ≡ b.predicate → arguments a ≡ arguments b → a ≡ b
same_arguments {a} {b} s n e =
    let ex : a.x ≡ b.x = cc in
    let ey : a.y ≡ b.y = cc in
    let ez : a.z ≡ b.z = cc in
    λ i. record { positive = s i; predicate = n i; x = ex i; y = ey i; z = ez i }

-- Renamings that agree on a literal's arguments rename it alike.
pub rename_literal_same : (f g : ℕ → ℕ) (l : Literal) → ((x : ℕ) → Memᴰ x (arguments l) → f x ≡ g x) → rename_literal f l ≡ rename_literal g l
rename_literal_same f g l h =
    let ex = h l.x (Memᴰ.head refl) in
    let ey = h l.y (Memᴰ.tail (Memᴰ.head refl)) in
    let ez = h l.z (Memᴰ.tail (Memᴰ.tail (Memᴰ.head refl))) in
    λ i. record { positive = l.positive; predicate = l.predicate; x = ex i; y = ey i; z = ez i }

pub same_literal→eq : (a b : Literal) → T (same_literal a b) → a ≡ b
same_literal→eq a b t =
    let t₂ = and_r (beq a.positive b.positive) (eqb a.predicate b.predicate && same_list (arguments a) (arguments b)) t in
    let e₁ : a.positive ≡ b.positive = beq→eq a.positive b.positive (and_l (beq a.positive b.positive) (eqb a.predicate b.predicate && same_list (arguments a) (arguments b)) t) in
    let e₂ : a.predicate ≡ b.predicate = eqb→eq a.predicate b.predicate (and_l (eqb a.predicate b.predicate) (same_list (arguments a) (arguments b)) t₂) in
    same_arguments e₁ e₂ (same_list→eq (arguments a) (arguments b) (and_r (eqb a.predicate b.predicate) (same_list (arguments a) (arguments b)) t₂))

pub same_literal_refl : (a : Literal) → T (same_literal a a)
same_literal_refl a =
    and_i (beq a.positive a.positive) (eqb a.predicate a.predicate && same_list (arguments a) (arguments a)) (beq_refl a.positive)
    (and_i (eqb a.predicate a.predicate) (same_list (arguments a) (arguments a)) (eqb_refl a.predicate) (same_list_refl (arguments a)))

pub distinct_in : {a : Atom} (l : List Atom) → Memᴰ a l → Memᴰ a (distinct l)
distinct_in [] m = m
distinct_in {a} (x ∷ xs) m = go (λ h. distinct_in xs h) (Memᴰ.cases_cons m)
  where
    again : Memᴰ a (distinct xs) → Said (same_atom x a) → Memᴰ a (distinct (x ∷ xs))
    again h (holds t) = Memᴰ.head (sym (same_atom→eq x a t))
    again h (fails t) = Memᴰ.tail (keep_if_in (λ b. not (same_atom x b)) (distinct xs) h t)

    go : (Memᴰ a xs → Memᴰ a (distinct xs)) → (a ≡ x) ⊎ Memᴰ a xs → Memᴰ a (distinct (x ∷ xs))
    go ih (inl e) = Memᴰ.head e
    go ih (inr h) = again (ih h) (said (same_atom x a))

pub distinct_out : {a : Atom} (l : List Atom) → Memᴰ a (distinct l) → Memᴰ a l
distinct_out [] m = m
distinct_out {a} (x ∷ xs) m = go (λ h. distinct_out xs h) (Memᴰ.cases_cons m)
  where
    go : (Memᴰ a (distinct xs) → Memᴰ a xs) → (a ≡ x) ⊎ Memᴰ a (keep_if (λ b. not (same_atom x b)) (distinct xs)) → Memᴰ a (x ∷ xs)
    go ih (inl e) = Memᴰ.head e
    go ih (inr h) = Memᴰ.tail (ih (keep_if_out (λ b. not (same_atom x b)) (distinct xs) h))

-- ---- merging two groups
abbrev pub swap : ℕ → ℕ → ℕ → ℕ
swap a b z = cond (eqb z (max a b)) (min a b) z

swap_at : (a b z : ℕ) → Said (eqb z (max a b)) → (z ≡ a) ⊎ (z ≡ b) → swap a b z ≡ min a b
swap_at a b z (holds t) h = rw (T→eq (eqb z (max a b)) t)
swap_at a b z (fails t) (inl h) = rw (F→eq (eqb z (max a b)) t) (go (λ e. T_not (eqb z (max a b)) t (subst (λ k. T (eqb z k)) e (eqb_refl z))))
  where
    go : (z ≡ max a b → ⊥) → z ≡ min a b
    go f = let g : ¬ (z ≡ max a b) = f in omega arith
swap_at a b z (fails t) (inr h) = rw (F→eq (eqb z (max a b)) t) (go (λ e. T_not (eqb z (max a b)) t (subst (λ k. T (eqb z k)) e (eqb_refl z))))
  where
    go : (z ≡ max a b → ⊥) → z ≡ min a b
    go f = let g : ¬ (z ≡ max a b) = f in omega arith

swap_zero : (a b : ℕ) → Said (eqb zero (max a b)) → swap a b zero ≡ zero
swap_zero a b (holds t) = let e = eqb→eq zero (max a b) t in rw (T→eq (eqb zero (max a b)) t) (omega arith)
swap_zero a b (fails t) = rw (F→eq (eqb zero (max a b)) t)

pub under_join : (x y : ℕ) (σ : List ℕ) (z : ℕ) → under (join x y σ) z ≡ swap (under σ x) (under σ y) (under σ z)
under_join x y σ zero = sym (swap_zero (under σ x) (under σ y) (said (eqb zero (max (under σ x) (under σ y)))))
under_join x y σ (suc z) =
    let f = swap (under σ x) (under σ y) in
    let e : f zero ≡ zero = swap_zero (under σ x) (under σ y) (said (eqb zero (max (under σ x) (under σ y)))) in
    subst (λ d. get_or (map f σ) z d ≡ f (get_or σ z zero)) e (get_or-map f σ z zero)

pub join_meets : (x y : ℕ) (σ : List ℕ) → under (join x y σ) x ≡ under (join x y σ) y
join_meets x y σ = let a = under σ x in let b = under σ y in
    under_join x y σ x ∙ swap_at a b a (said (eqb a (max a b))) (inl refl) ∙ sym (under_join x y σ y ∙ swap_at a b b (said (eqb b (max a b))) (inr refl))

pub joins_keep : (es : List (ℕ × ℕ)) (σ : List ℕ) (x y : ℕ) → under σ x ≡ under σ y → under (joins es σ) x ≡ under (joins es σ) y
joins_keep [] σ x y e = e
joins_keep (p ∷ es) σ x y e = joins_keep es (join p.0 p.1 σ) x y (under_join p.0 p.1 σ x ∙ ap (swap (under σ p.0) (under σ p.1)) e ∙ sym (under_join p.0 p.1 σ y))

pub joins_meet : (es : List (ℕ × ℕ)) (σ : List ℕ) (x y : ℕ) → Memᴰ (x, y) es → under (joins es σ) x ≡ under (joins es σ) y
joins_meet [] σ x y m = absurd (Memᴰ.not-nil m)
joins_meet (p ∷ es) σ x y m = go (λ h. joins_meet es (join p.0 p.1 σ) x y h) (Memᴰ.cases_cons m)
  where
    go : (Memᴰ (x, y) es → under (joins (p ∷ es) σ) x ≡ under (joins (p ∷ es) σ) y) → ◌≡◌ {A = ℕ × ℕ} (x, y) p ⊎ Memᴰ (x, y) es → under (joins (p ∷ es) σ) x ≡ under (joins (p ∷ es) σ) y
    go ih (inl e) = subst (λ (r : ℕ × ℕ). under (joins (p ∷ es) σ) r.0 ≡ under (joins (p ∷ es) σ) r.1) (sym e) (joins_keep es (join p.0 p.1 σ) p.0 p.1 (join_meets p.0 p.1 σ))
    go ih (inr h) = ih h

pub distinct_short : (az : List Atom) → length (distinct az) ≤ length az
distinct_short [] = omega arith
distinct_short (a ∷ az) = omega (arith, keep_if_short (λ b. not (same_atom a b)) (distinct az), distinct_short az)
