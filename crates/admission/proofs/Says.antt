-- What admission hands back says what was read.
use mathlib.Core.Path.{◌≡◌, refl, sym, ◌∙◌, ap, ap₂}
use mathlib.Core.List.{List, [], ◌∷◌, map}
use mathlib.Core.Bool.{Bool, true, false, ◌&&◌, cond, false≢true}
use Prim.Native.Nat.{ℕ, suc, ◌≤◌}
use native.Mathlib.Omega.{arith}
use lib.Dec.{eqb, leb}
use lib.ListN.{length, take, length-map}
use borrow.Author.Tests.{leb-true, eqb-true, eq-eqb}
use Rattle.std.proofs.Common.{Result, Ok, Err}
use Rattle.basis.specs.Limits.{most_input, most_predicates, most_arguments, most_constants}
use Rattle.basis.specs.Refusals.{accepted, above_limit}
use Rattle.lists.specs.Lists.{all_of}
use Rattle.lists.proofs.Arrays.{take_exactly}
use Rattle.calculus.specs.Clauses as calculus
use Rattle.calculus.specs.Class.{clause_refusal}
use Rattle.calculus.specs.Admission.{Refused, counts_fit, clauses_refusal}
use Rattle.calculus.proofs.Admitting.{clause_accepted_exactly}
use Rattle.clauses.specs.declared.Clause.{Clause}
use Rattle.clauses.specs.Records.{clause_of, packed}
use Rattle.clauses.proofs.Records.{packed_says}
use Rattle.admission.specs.Offered.{offered, packed_input, clause_answer, answered, ClauseSays, TableSays}
use Rattle.admission.proofs.Tables.{handed_ok}

-- A clause that is not refused is within the limits, so its record says it.
accepted_says : (A : List ℕ) (C : calculus.Clause) → clause_refusal A C ≡ accepted → clause_of (packed C) ≡ C
accepted_says A C e = packed_says C ((clause_accepted_exactly A C).0 e).1

pub clause_says : ClauseSays
unfolding clause_answer
clause_says A c d e = let (n, is) = handed_ok (packed (offered A c)) (clause_refusal A (offered A c)) (clause_refusal A (offered A c)) d _ refl (sym e) in ap clause_of is ∙ accepted_says A (offered A c) n

err_ok : {A B : Type 0} {x : A} {y : B} → ◌≡◌ {A = Result A B} (Err y) (Ok x) → ⊥
err_ok e = cc

all_say : (A : List ℕ) (k : ℕ) (cs : List calculus.Clause) → (clauses_refusal A k cs).number ≡ accepted → map clause_of (map packed cs) ≡ cs
all_say A k [] e = refl
all_say A k (C ∷ cs) e = go (eqb (clause_refusal A C) accepted) refl e (λ h. all_say A (suc k) cs h)
  where
    go : (b : Bool) → eqb (clause_refusal A C) accepted ≡ b → (cond b (clauses_refusal A (suc k) cs) (record { number = clause_refusal A C; place = k })).number ≡ accepted →
        ((clauses_refusal A (suc k) cs).number ≡ accepted → map clause_of (map packed cs) ≡ cs) → map clause_of (map packed (C ∷ cs)) ≡ C ∷ cs
    go true t h ih = ap₂ {C = List calculus.Clause} (λ D ds. D ∷ ds) (accepted_says A C (eqb-true (clause_refusal A C) accepted t)) (ih h)
    go false t h ih = absurd (false≢true (sym t ∙ eq-eqb (clause_refusal A C) accepted h))

few : (constants : ℕ) (A : List ℕ) (cs : List calculus.Clause) → counts_fit constants A cs ≡ true → length cs ≤ most_input
few constants A cs e = go (leb constants most_constants) (leb (length A) most_predicates) (all_of (λ n. leb n most_arguments) A) (leb (length cs) most_input) refl e
  where
    go : (a b c d : Bool) → leb (length cs) most_input ≡ d → (a && (b && (c && d))) ≡ true → length cs ≤ most_input
    go true true true true h e = leb-true (length cs) most_input h
    go true true true false h e = absurd (false≢true e)
    go true true false d h e = absurd (false≢true e)
    go true false c d h e = absurd (false≢true e)
    go false b c d h e = absurd (false≢true e)

pub table_says : TableSays
unfolding answered
table_says constants A cs t e = go (counts_fit constants A cs) refl e
  where
    held : length cs ≤ most_input → take (length cs) (packed_input cs) ≡ map packed cs
    held h =
        let n = length-map cs packed in
        ap (λ (k : ℕ). take k (packed_input cs)) (sym n) ∙ take_exactly (packed calculus.no_clause) most_input (map packed cs) (omega arith)

    by : length cs ≤ most_input → (r : Refused) → (r.number ≡ accepted → map clause_of (map packed cs) ≡ cs) → answered r cs ≡ Ok t → map clause_of (take (length cs) t) ≡ cs
    by few r ih q =
        let (n, is) = handed_ok (packed_input cs) r.number r t _ refl (sym q) in
        ap (λ (l : List Clause). map clause_of (take (length cs) l)) is ∙ ap (map clause_of) (held few) ∙ ih n

    go : (b : Bool) → counts_fit constants A cs ≡ b → answered (cond b (clauses_refusal A 1 cs) (record { number = above_limit; place = 0 })) cs ≡ Ok t → map clause_of (take (length cs) t) ≡ cs
    go true z q = by (few constants A cs z) (clauses_refusal A 1 cs) (all_say A 1 cs) q
    go false z q = absurd (err_ok q)
