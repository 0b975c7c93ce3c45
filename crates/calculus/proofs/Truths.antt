-- What is true under a reading: merging, the reason, the resolvent and the factored conflict keep it; under a decidable one some literal holds.
use mathlib.Core.Path.{◌∙◌, ◌≡◌, ap, refl, subst, sym}
use mathlib.Core.Logic.{◌⊎◌, inl, inr, ⊎_elim}
use mathlib.Core.List.Memᴰ
use mathlib.Core.List.{List, Memᴰ, [], ◌++◌, ◌∷◌, map}
use mathlib.Core.Bool.{Bool, cond, false, not, true}
use Prim.Native.Nat.{◌+◌, ◌<◌, max, min, suc, zero, ℕ}
use native.Mathlib.Omega.{arith}
use lib.Dec.{T}
use lib.ListN.{get_or, length, take}
use Rattle.basis.specs.Numbers.{Numbers}
use Rattle.basis.specs.declared.Atom.{Atom}
use Rattle.basis.specs.declared.Literal.{Literal}
use Rattle.lists.proofs.Members.{keep_if_in, pair_up_eq, without_cases, without_in}
use Rattle.lists.proofs.Tests.{Said, fails, holds, said}
use Rattle.lists.specs.Lists.{index_of, keep_if, pair_up, up_from, without}
use Rattle.calculus.specs.Class.{arity_of}
use Rattle.calculus.specs.Clauses.{Clause, Instanced, arguments, complement, ground, no_literal, rename_atom, rename_literal, same_literal, under}
use Rattle.calculus.specs.Merging.{apart, close_up, distinct, factored, joins, merge, occurs_in, own_pairs, reason, reason_literals, resolvent}
use Rattle.calculus.specs.Truth.{AllHold, LiteralHolds, NoneHolds, Reading, SomeHolds, True, TrueExactlyIfSomeHolds, with_sign}
use Rattle.calculus.proofs.Merged.{distinct_in, joins_meet, same_literal→eq}

pub sign_clash : (b : Bool) (P : Type 0) → with_sign b P → with_sign (not b) P → ⊥
sign_clash true P p n = n p
sign_clash false P n p = n p

-- L and m can be merged: the same but for their arguments
pub record Alike (l m : Literal) : Type 0 where
  pub signs : l.positive ≡ m.positive
  pub predicates : l.predicate ≡ m.predicate

module _ (nums : Numbers) (arities : List ℕ) where
  pub merge_true : (I : Reading nums arities) (es : List (ℕ × ℕ)) (v : ℕ) (az : List Atom) (ls : List Literal) (τ : List ℕ)
      → ((ρ : ℕ → nums.Number) → ρ zero ≡ nums.zeroth → ((x y : ℕ) → Memᴰ (x, y) es → ρ x ≡ ρ y) → AllHold nums arities ρ az → NoneHolds nums arities I ρ ls → ⊥)
      → True nums arities I (merge es v az ls τ).clause
  unfolding merge close_up
  merge_true I es v az ls τ h ρ z ha hl =
      let σ = joins es (up_from 1 v) in
      let as₁ = distinct (map (rename_atom (under σ)) az) in
      let ls₁ = map (rename_literal (under σ)) ls in
      let ks = zero ∷ keep_if (occurs_in as₁ ls₁) (up_from 1 v) in
      h (λ x. ρ (index_of (under σ x) ks)) z
      (λ x y m. ap (λ k. ρ (index_of k ks)) (joins_meet es (up_from 1 v) x y m))
      (λ a m. ha (rename_atom (λ x. index_of x ks) (rename_atom (under σ) a)) (Memᴰ.map (rename_atom (λ x. index_of x ks)) (distinct_in (map (rename_atom (under σ)) az) (Memᴰ.map (rename_atom (under σ)) m))))
      (λ l m t. hl (rename_literal (λ x. index_of x ks) (rename_literal (under σ) l)) (Memᴰ.map (rename_literal (λ x. index_of x ks)) (Memᴰ.map (rename_literal (under σ)) m))
      t)

  -- Two literals with the same sign and predicate, and arguments that ρ reads alike
  literal_same : (I : Reading nums arities) (ρ : ℕ → nums.Number) (l m : Literal) → l.positive ≡ m.positive → l.predicate ≡ m.predicate → map ρ (arguments l) ≡ map ρ (arguments m) → LiteralHolds nums arities I ρ l → LiteralHolds nums arities I ρ m
  literal_same I ρ l m e f g t = subst (λ (X : Type 0). X) (λ i. with_sign (e i) (I (f i) (take (arity_of arities (f i)) (g i)))) t

  pub factored_true : (I : Reading nums arities) (N : Instanced) (i j : ℕ) → Alike (get_or N.clause.literals (max i j) no_literal) (get_or N.clause.literals (min i j) no_literal)
      → min i j < max i j → max i j < length N.clause.literals → True nums arities I N.clause → True nums arities I (factored N i j).clause
  unfolding factored merge
  factored_true I N i j k lt lt' h =
      merge_true I (pair_up (arguments lo) (arguments hi)) N.clause.variables N.clause.atoms (without (max i j) N.clause.literals) N.instance go
    where
      lo : Literal
      lo = get_or N.clause.literals (min i j) no_literal

      hi : Literal
      hi = get_or N.clause.literals (max i j) no_literal

      go : (ρ : ℕ → nums.Number) → ρ zero ≡ nums.zeroth → ((x y : ℕ) → Memᴰ (x, y) (pair_up (arguments lo) (arguments hi)) → ρ x ≡ ρ y) → AllHold nums arities ρ N.clause.atoms → NoneHolds nums arities I ρ (without (max i j) N.clause.literals) → ⊥
      go ρ z e ha hl = h ρ z ha (λ l m. other l (without_cases (max i j) N.clause.literals no_literal m))
        where
          other : (l : Literal) → (l ≡ hi) ⊎ Memᴰ l (without (max i j) N.clause.literals) → ¬ LiteralHolds nums arities I ρ l
          other l (inl p) t = hl lo (without_in (min i j) (max i j) N.clause.literals no_literal lt lt')
              (literal_same I ρ hi lo k.signs k.predicates (sym (pair_up_eq ρ (arguments lo) (arguments hi) refl e)) (subst (LiteralHolds nums arities I ρ) p t))
          other l (inr m) t = hl l m t

  -- The resolvent
  pub resolvent_true : (I : Reading nums arities) (N : Instanced) (j : ℕ) (R : Instanced) (i : ℕ) → Alike (get_or N.clause.literals j no_literal) (complement (get_or R.clause.literals i no_literal))
      → True nums arities I N.clause → True nums arities I R.clause → True nums arities I (resolvent N j R i).clause
  unfolding resolvent merge
  resolvent_true I N j R i k hN hR =
      merge_true I _ (v + R.clause.variables) (N.clause.atoms ++ map (rename_atom (apart v)) R.clause.atoms) (without j N.clause.literals ++ map (rename_literal (apart v)) (without i R.clause.literals)) (N.instance ++ R.instance) go
    where
      v : ℕ
      v = N.clause.variables

      L : Literal
      L = get_or N.clause.literals j no_literal

      M : Literal
      M = get_or R.clause.literals i no_literal

      go : (ρ : ℕ → nums.Number) → ρ zero ≡ nums.zeroth → ((x y : ℕ) → Memᴰ (x, y) (pair_up (arguments L) (map (apart v) (arguments M))) → ρ x ≡ ρ y)
          → AllHold nums arities ρ (N.clause.atoms ++ map (rename_atom (apart v)) R.clause.atoms) → NoneHolds nums arities I ρ (without j N.clause.literals ++ map (rename_literal (apart v)) (without i R.clause.literals)) → ⊥
      go ρ z e ha hl = hN ρ z (λ a m. ha a (Memᴰ.append_left _ m)) (λ l m. inN l (without_cases j N.clause.literals no_literal m))
        where
          clash : LiteralHolds nums arities I ρ L → LiteralHolds nums arities I ρ (rename_literal (apart v) M) → ⊥
          clash t u = sign_clash M.positive (I M.predicate (take (arity_of arities M.predicate) (map ρ (map (apart v) (arguments M))))) u
              (literal_same I ρ L (complement (rename_literal (apart v) M)) k.signs k.predicates (pair_up_eq ρ (arguments L) (map (apart v) (arguments M)) refl e) t)

          in_r : LiteralHolds nums arities I ρ L → (l : Literal) → (l ≡ M) ⊎ Memᴰ l (without i R.clause.literals) → ¬ LiteralHolds nums arities I (λ x. ρ (apart v x)) l
          in_r t l (inl p) u = clash t (subst (λ l. LiteralHolds nums arities I (λ x. ρ (apart v x)) l) p u)
          in_r t l (inr m) u = hl (rename_literal (apart v) l) (Memᴰ.append_right (without j N.clause.literals) (Memᴰ.map (rename_literal (apart v)) m)) u

          inN : (l : Literal) → (l ≡ L) ⊎ Memᴰ l (without j N.clause.literals) → ¬ LiteralHolds nums arities I ρ l
          inN l (inl p) t = hR (λ x. ρ (apart v x)) z (λ a m. ha (rename_atom (apart v) a) (Memᴰ.append_right N.clause.atoms (Memᴰ.map (rename_atom (apart v)) m))) (λ l' m. in_r (subst (LiteralHolds nums arities I ρ) p t) l' (without_cases i R.clause.literals no_literal m))
          inN l (inr m) t = hl l (Memᴰ.append_left _ m) t

pub alike : (τ : List ℕ) (l m : Literal) → ground τ l ≡ ground τ m → Alike l m
alike τ l m e = record { signs = ap (λ (k : Literal). k.positive) e; predicates = ap (λ (k : Literal). k.predicate) e }

reason_literals_cases : (τ : List ℕ) (g : Literal) (i : ℕ) (ls : List Literal) {l : Literal} → Memᴰ l ls → Memᴰ l (reason_literals τ g i ls) ⊎ T (same_literal (ground τ l) g)
reason_literals_cases τ g i [] m = inl m
reason_literals_cases τ g zero (x ∷ xs) {l} m = go (Memᴰ.cases_cons m) (said (same_literal (ground τ l) g))
  where
    go : (l ≡ x) ⊎ Memᴰ l xs → Said (same_literal (ground τ l) g) → Memᴰ l (reason_literals τ g zero (x ∷ xs)) ⊎ T (same_literal (ground τ l) g)
    go (inl e) s = inl (Memᴰ.head e)
    go (inr h) (holds t) = inr t
    go (inr h) (fails t) = inl (Memᴰ.tail (keep_if_in (λ m. not (same_literal (ground τ m) g)) xs h t))
reason_literals_cases τ g (suc i) (x ∷ xs) {l} m = go (λ h. reason_literals_cases τ g i xs h) (same_literal (ground τ x) g) refl (Memᴰ.cases_cons m)
  where
    R : Bool → Type 0
    R b = Memᴰ l (cond b (reason_literals τ g i xs) (x ∷ reason_literals τ g i xs)) ⊎ T (same_literal (ground τ l) g)

    up : (b : Bool) → Memᴰ l (reason_literals τ g i xs) ⊎ T (same_literal (ground τ l) g) → R b
    up b (inr t) = inr t
    up true (inl h) = inl h
    up false (inl h) = inl (Memᴰ.tail h)

    go : (Memᴰ l xs → Memᴰ l (reason_literals τ g i xs) ⊎ T (same_literal (ground τ l) g)) → (b : Bool) → same_literal (ground τ x) g ≡ b → (l ≡ x) ⊎ Memᴰ l xs → R b
    go ih b e (inr h) = up b (ih h)
    go ih true e (inl p) = inr (subst T (sym (ap (λ k. same_literal (ground τ k) g) p ∙ e)) tt)
    go ih false e (inl p) = inl (Memᴰ.head p)

reason_literals_own : (τ : List ℕ) (g : Literal) (i : ℕ) (ls : List Literal) → i < length ls → Memᴰ (get_or ls i no_literal) (reason_literals τ g i ls)
reason_literals_own τ g i [] h = absurd (omega arith)
reason_literals_own τ g zero (x ∷ xs) h = Memᴰ.head refl
reason_literals_own τ g (suc i) (x ∷ xs) h = go (same_literal (ground τ x) g) (reason_literals_own τ g i xs (omega arith))
  where
    go : (b : Bool) → Memᴰ (get_or xs i no_literal) (reason_literals τ g i xs) → Memᴰ (get_or xs i no_literal) (cond b (reason_literals τ g i xs) (x ∷ reason_literals τ g i xs))
    go true h = h
    go false h = Memᴰ.tail h

own_pairs_in : (τ : List ℕ) (g l : Literal) (ls : List Literal) {m : Literal} {p : ℕ × ℕ} → Memᴰ m ls → T (same_literal (ground τ m) g) → Memᴰ p (pair_up (arguments l) (arguments m)) → Memᴰ p (own_pairs τ g l ls)
own_pairs_in τ g l [] h t z = absurd (Memᴰ.not-nil h)
own_pairs_in τ g l (x ∷ xs) {m} {p} h t z = go (λ k. own_pairs_in τ g l xs k t z) (same_literal (ground τ x) g) refl (Memᴰ.cases_cons h)
  where
    R : Bool → Type 0
    R b = Memᴰ p (cond b (pair_up (arguments l) (arguments x) ++ own_pairs τ g l xs) (own_pairs τ g l xs))

    go : (Memᴰ m xs → Memᴰ p (own_pairs τ g l xs)) → (b : Bool) → same_literal (ground τ x) g ≡ b → (m ≡ x) ⊎ Memᴰ m xs → R b
    go ih true e (inl q) = Memᴰ.append_left (own_pairs τ g l xs) (subst (λ (k : Literal). Memᴰ p (pair_up (arguments l) (arguments k))) q z)
    go ih true e (inr k) = Memᴰ.append_right (pair_up (arguments l) (arguments x)) (ih k)
    go ih false e (inl q) = absurd (subst T (ap (λ k. same_literal (ground τ k) g) q ∙ e) t)
    go ih false e (inr k) = ih k

module _ (nums : Numbers) (arities : List ℕ) where
  pub reason_true : (I : Reading nums arities) (C : Clause) (i : ℕ) (τ : List ℕ) → i < length C.literals → True nums arities I C → True nums arities I (reason C i τ).of.clause
  unfolding reason merge
  reason_true I C i τ lt h = merge_true nums arities I (own_pairs τ g L C.literals) C.variables C.atoms (reason_literals τ g i C.literals) τ go
    where
      L : Literal
      L = get_or C.literals i no_literal

      g : Literal
      g = ground τ L

      go : (ρ : ℕ → nums.Number) → ρ zero ≡ nums.zeroth → ((x y : ℕ) → Memᴰ (x, y) (own_pairs τ g L C.literals) → ρ x ≡ ρ y) → AllHold nums arities ρ C.atoms → NoneHolds nums arities I ρ (reason_literals τ g i C.literals) → ⊥
      go ρ z e ha hl = h ρ z ha (λ l m. other l m (reason_literals_cases τ g i C.literals m))
        where
          other : (l : Literal) → Memᴰ l C.literals → Memᴰ l (reason_literals τ g i C.literals) ⊎ T (same_literal (ground τ l) g) → ¬ LiteralHolds nums arities I ρ l
          other l m (inl n) t = hl l n t
          other l m (inr n) t =
              let k = alike τ l L (same_literal→eq (ground τ l) g n) in
              hl L (reason_literals_own τ g i C.literals lt)
              (literal_same nums arities I ρ l L k.signs k.predicates (sym (pair_up_eq ρ (arguments L) (arguments l) refl (λ x y q. e x y (own_pairs_in τ g L C.literals m n q)))) t)

-- ---- decidable readings

with_sign_decided : (b : Bool) {P : Type 0} → Dec P → Dec (with_sign b P)
with_sign_decided true d = d
with_sign_decided false (yes p) = no (λ n. n p)
with_sign_decided false (no n) = yes n

module _ (nums : Numbers) (arities : List ℕ) where
  some_or_none : (I : Reading nums arities) → ((n : ℕ) (ws : List nums.Number) → Dec (I n ws)) → (ρ : ℕ → nums.Number) (ls : List Literal) → SomeHolds nums arities I ρ ls ⊎ NoneHolds nums arities I ρ ls
  some_or_none I d ρ [] = inr (λ l m. absurd (Memᴰ.not-nil m))
  some_or_none I d ρ (l ∷ ls) = go (with_sign_decided l.positive (d l.predicate (take (arity_of arities l.predicate) (map ρ (arguments l))))) (some_or_none I d ρ ls)
    where
      go : Dec (LiteralHolds nums arities I ρ l) → SomeHolds nums arities I ρ ls ⊎ NoneHolds nums arities I ρ ls → SomeHolds nums arities I ρ (l ∷ ls) ⊎ NoneHolds nums arities I ρ (l ∷ ls)
      go (yes t) k = inl (l, Memᴰ.head refl, t)
      go (no n) (inl (k, m, t)) = inl (k, Memᴰ.tail m, t)
      go (no n) (inr f) = inr (λ k m t. ⊎_elim (λ e. n (subst (LiteralHolds nums arities I ρ) e t)) (λ m. f k m t) (Memᴰ.cases_cons m))

  pub true_exactly_if_some_holds : TrueExactlyIfSomeHolds nums arities
  true_exactly_if_some_holds I d C = (λ h ρ z a. ⊎_elim (λ s. s) (λ n. absurd (h ρ z a n)) (some_or_none I d ρ C.literals), λ h ρ z a n. let (l, m, t) = h ρ z a in n l m t)
