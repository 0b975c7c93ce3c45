-- A table of clause records, judged one after the other.
use Rattle.std.proofs.Common.{◌≡◌, refl, sym, ◌∙◌, ap, ap₂, List, [], ◌∷◌, ◌++◌, Bool, true, false, cond, ℕ, zero, suc, ◌+◌, ◌<◌, Result, Ok, Err, eqb, arith, length, get_or, take, drop, length-take}
use mathlib.Core.List.{map, map-append}
use lib.ListN.{length-map}
use lib.Seq.{split_at}
use borrow.Author.Tests.{eq-eqb, ne_eqb, eqb-false, eqb-true}
use Rattle.basis.specs.Refusals.{accepted}
use Rattle.lists.proofs.Walks.{map_more}
use Rattle.calculus.specs.Class.{clause_refusal}
use Rattle.calculus.specs.Admission.{Refused, clauses_refusal}
use Rattle.clauses.proofs.Records.{past_table}
use Rattle.clauses.specs.declared.Clause.{Clause}
use Rattle.clauses.specs.Records.{packed}
use Rattle.admission.specs.Offered.{answered, clause_answer, offered, offered_table}
use Rattle.calculus.specs.Clauses as calculus

-- ---- one answer taken apart

module _ {A E : Type 0} (x : A) (n : ℕ) (r : E) where
  -- The answer with the number is a refusal, or it is what is handed back.
  pub handed_ok : (y : A) (b : Bool) → eqb n accepted ≡ b → Ok y ≡ cond b (Ok x) (Err r) → (n ≡ accepted) × (y ≡ x)
  handed_ok y true t e = (eqb-true n accepted t, cc)
  handed_ok y false t e = absurd (ok_err e)
    where
      ok_err : ◌≡◌ {A = Result A E} (Ok y) (Err r) → ⊥
      ok_err q = cc

  pub handed_err : (k : E) (b : Bool) → eqb n accepted ≡ b → Err k ≡ cond b (Ok x) (Err r) → (n ≡ accepted → ⊥) × (k ≡ r)
  handed_err k true t e = absurd (err_ok e)
    where
      err_ok : ◌≡◌ {A = Result A E} (Err k) (Ok x) → ⊥
      err_ok q = cc
  handed_err k false t e = (eqb-false n accepted t, cc)

-- ---- the first refused clause

abbrev pub no_refusal : Refused
no_refusal = record { number = accepted; place = zero }

module _ (A : List ℕ) where
  clauses_more : (k : ℕ) (xs : List calculus.Clause) (C : calculus.Clause) → clauses_refusal A k xs ≡ no_refusal → clause_refusal A C ≡ accepted →
      clauses_refusal A k (xs ++ (C ∷ [])) ≡ no_refusal
  clauses_more k [] C e h = ap (λ (b : Bool). cond b no_refusal (record { number = clause_refusal A C; place = k })) (eq-eqb (clause_refusal A C) accepted h)
  clauses_more k (x ∷ xs) C e h = go (eqb (clause_refusal A x) accepted) refl e (λ e'. clauses_more (suc k) xs C e' h)
    where
      go : (b : Bool) → eqb (clause_refusal A x) accepted ≡ b → cond b (clauses_refusal A (suc k) xs) (record { number = clause_refusal A x; place = k }) ≡ no_refusal →
          (clauses_refusal A (suc k) xs ≡ no_refusal → clauses_refusal A (suc k) (xs ++ (C ∷ [])) ≡ no_refusal) →
          cond b (clauses_refusal A (suc k) (xs ++ (C ∷ []))) (record { number = clause_refusal A x; place = k }) ≡ no_refusal
      go true t e ih = ih e
      go false t e ih = absurd (eqb-false (clause_refusal A x) accepted t (ap (λ (r : Refused). r.number) e))

  clauses_first : (k : ℕ) (xs : List calculus.Clause) (C : calculus.Clause) (ys : List calculus.Clause) → clauses_refusal A k xs ≡ no_refusal → (clause_refusal A C ≡ accepted → ⊥) →
      clauses_refusal A k (xs ++ C ∷ ys) ≡ record { number = clause_refusal A C; place = k + length xs }
  clauses_first k [] C ys e h =
      let z : k ≡ k + 0 = omega arith in
      ap (λ (b : Bool). cond b (clauses_refusal A (suc k) ys) (record { number = clause_refusal A C; place = k })) (ne_eqb (clause_refusal A C) accepted h)
      ∙ ap (λ (n : ℕ). record { number = clause_refusal A C; place = n }) z
  clauses_first k (x ∷ xs) C ys e h = go (eqb (clause_refusal A x) accepted) refl e (λ e'. clauses_first (suc k) xs C ys e' h)
    where
      go : (b : Bool) → eqb (clause_refusal A x) accepted ≡ b → cond b (clauses_refusal A (suc k) xs) (record { number = clause_refusal A x; place = k }) ≡ no_refusal →
          (clauses_refusal A (suc k) xs ≡ no_refusal → clauses_refusal A (suc k) (xs ++ C ∷ ys) ≡ record { number = clause_refusal A C; place = suc k + length xs }) →
          cond b (clauses_refusal A (suc k) (xs ++ C ∷ ys)) (record { number = clause_refusal A x; place = k }) ≡ record { number = clause_refusal A C; place = k + suc (length xs) }
      go true t e ih =
          let z : suc k + length xs ≡ k + suc (length xs) = omega arith in
          ih e ∙ ap (λ (n : ℕ). record { number = clause_refusal A C; place = n }) z
      go false t e ih = absurd (eqb-false (clause_refusal A x) accepted t (ap (λ (r : Refused). r.number) e))

-- ---- the walk over the table

module _ (A : List ℕ) (l : List Clause) (j : ℕ) (h : j < length l) (ok : clauses_refusal A 1 (map (offered A) (take j l)) ≡ no_refusal) where
  abbrev pub C : calculus.Clause
  C = offered A (get_or l j past_table)

  pub table_refused : (k : ℕ) → Err k ≡ clause_answer A (get_or l j past_table)
      → Err (record { number = k; place = j + 1 }) ≡ answered (clauses_refusal A 1 (offered_table A l)) (offered_table A l)
  unfolding answered clause_answer
  table_refused k e =
      let (bad, is) = handed_err (packed C) (clause_refusal A C) (clause_refusal A C) k _ refl e in
      let parted = ap (map (offered A)) (split_at l j past_table h) ∙ map-append (offered A) (take j l) (get_or l j past_table ∷ drop (suc j) l) in
      let place : j + 1 ≡ 1 + length (map (offered A) (take j l)) = omega (arith, length-map (take j l) (offered A), length-take j l) in
      let first = ap (clauses_refusal A 1) parted ∙ clauses_first A 1 (map (offered A) (take j l)) C (map (offered A) (drop (suc j) l)) ok bad in
      let whole : clauses_refusal A 1 (offered_table A l) ≡ record { number = k; place = j + 1 } = first ∙ ap₂ (λ (x y : ℕ). record { number = x; place = y }) (sym is) (sym place) in
      rw (whole, ne_eqb k accepted (λ z. bad (sym is ∙ z)))

  pub table_turn : (d : Clause) → Ok d ≡ clause_answer A (get_or l j past_table) → (clauses_refusal A 1 (map (offered A) (take (j + 1) l)) ≡ no_refusal) × (d ≡ packed C)
  unfolding clause_answer
  table_turn d e =
      let (n, is) = handed_ok (packed C) (clause_refusal A C) (clause_refusal A C) d _ refl e in
      (ap (clauses_refusal A 1) (map_more (offered A) l j past_table h) ∙ clauses_more A 1 (map (offered A) (take j l)) C ok n, is)
