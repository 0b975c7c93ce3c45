-- What admission hands back is the record of an admitted state.
use mathlib.Core.Path.{◌∙◌, ◌≡◌, ap, ap₂, refl, sym}
use mathlib.Core.List.Memᴰ
use mathlib.Core.List.{List, [], ◌∷◌, ◌++◌, append-nil, map}
use mathlib.Core.Bool.{Bool, cond, false, true}
use Prim.Native.Nat.{◌≤◌, suc, zero, ℕ}
use native.Mathlib.Decide.{ℕ_discrete}
use native.Mathlib.Omega.{arith}
use lib.Dec.{eqb}
use lib.ListN.{drop, length, length-map, replicate, take}
use borrow.Author.Tests.{eq-eqb, eqb-false, ne_eqb}
use Rattle.admission.specs.Offered as admission
use Rattle.admission.proofs.Tables.{handed_err, handed_ok}
use Rattle.std.proofs.Common.{Ok, Err}
use Rattle.basis.specs.Limits.{most_clauses, most_input, most_predicates}
use Rattle.basis.specs.Refusals.{above_limit, accepted, lacks_bound}
use Rattle.basis.specs.declared.Version.{Version}
use Rattle.basis.specs.declared.Version.TheVariants.{One}
use Rattle.lists.specs.Arrays.{exactly}
use Rattle.lists.proofs.Arrays.{exactly_none, take_exactly}
use Rattle.calculus.specs.Admission.{Admitted, Refused, admission_refusal, clauses_refusal, counts_fit, fresh}
use Rattle.calculus.specs.Class.{clause_refusal}
use Rattle.calculus.specs.Admitting.{AdmissionJudged, ClauseJudged, by_above_limit, bad_clause, counts, fine, by_lacks_bound, by_occurs_nowhere, by_out_of_range}
use Rattle.calculus.specs.Clauses as calculus
use Rattle.calculus.proofs.Admitting.{admission_refused_rightly, admitted_exactly, clause_refused_rightly}
use Rattle.clauses.specs.Records.{packed}
use Rattle.clauses.specs.declared.Clause.{Clause}
use Rattle.calculus.proofs.Runs.{admitted_reached}
use Rattle.calculus.specs.Runs.{plain}
use Rattle.calculus.specs.States.{clause_at}
use Rattle.basis.specs.Numbers.{whole}
use Rattle.state.specs.States.{AdmitKeeps, AdmitMakesStates, IsNew, made_of, new_run, opened, packed_state, packed_table}
use Rattle.state.specs.declared.Opened.{Opened}
use Rattle.state.specs.declared.State.{State}

-- The record of a state in which nothing has been done, part by part
pub new_is : (version : Version) (constants : ℕ) (arities : List ℕ) (ks : List Clause)
    → IsNew version constants arities ks (record { run = new_run version constants (length ks); predicates = length arities; arities = exactly most_predicates 0 arities; table = exactly most_clauses (packed calculus.no_clause) ks })
unfolding packed_table
new_is version constants arities ks cs e =
    λ i. record { run = new_run version constants (counted i); predicates = length arities; arities = exactly most_predicates 0 arities; table = exactly most_clauses (packed calculus.no_clause) (held i) }
  where
    held : ks ≡ map packed (cs ++ [])
    held = e ∙ ap (map packed) (sym (append-nil cs))

    counted : length ks ≡ length cs
    counted = ap length e ∙ length-map cs packed

-- What is put at the front of blanks
pub front_of : {A : Type 0} (d : A) (n : ℕ) (ys : List A) → length ys ≤ n → ys ++ drop (length ys) (replicate n d) ≡ exactly n d ys
unfolding exactly
front_of d n [] h = sym (exactly_none d n)
front_of d zero (y ∷ ys) h = absurd (omega arith)
front_of {A} d (suc n) (y ∷ ys) h = ap {B = List A} (λ r. y ∷ r) (front_of d n ys (omega arith))

-- ---- the answer

-- The state by the refusal's number
made_accepted : (n : ℕ) (version : Version) (constants : ℕ) (arities : List ℕ) (cs : List calculus.Clause) → n ≡ accepted → made_of n version constants arities cs ≡ fresh version constants arities cs
made_accepted n version constants arities cs h = ap (λ (b : Bool). cond b (fresh version constants arities cs) (fresh One 0 [] [])) (eq-eqb n accepted h)

made_refused : (n : ℕ) (version : Version) (constants : ℕ) (arities : List ℕ) (cs : List calculus.Clause) → ¬ (n ≡ accepted) → made_of n version constants arities cs ≡ fresh One 0 [] []
made_refused n version constants arities cs h = ap (λ (b : Bool). cond b (fresh version constants arities cs) (fresh One 0 [] [])) (ne_eqb n accepted h)

-- Where no clause is refused the place is 0.
no_place : (A : List ℕ) (k : ℕ) (cs : List calculus.Clause) → (clauses_refusal A k cs).number ≡ accepted → (clauses_refusal A k cs).place ≡ 0
no_place A k [] e = refl
no_place A k (C ∷ cs) e = go (eqb (clause_refusal A C) accepted) refl e (no_place A (suc k) cs)
  where
    go : (b : Bool) → eqb (clause_refusal A C) accepted ≡ b → (cond b (clauses_refusal A (suc k) cs) (record { number = clause_refusal A C; place = k })).number ≡ accepted →
        ((clauses_refusal A (suc k) cs).number ≡ accepted → (clauses_refusal A (suc k) cs).place ≡ 0) → (cond b (clauses_refusal A (suc k) cs) (record { number = clause_refusal A C; place = k })).place ≡ 0
    go true t e ih = ih e
    go false t e ih = absurd (eqb-false (clause_refusal A C) accepted t e)

module _ (version : Version) (constants : ℕ) (arities : List ℕ) (cs : List calculus.Clause) where
  abbrev refusal : Refused
  refusal = admission_refusal constants arities cs

  -- A record whose state is that of the refusal's number
  opens : (n p : ℕ) (r : State) → n ≡ refusal.number → p ≡ refusal.place → r ≡ packed_state (made_of n version constants arities cs) → ◌≡◌ {A = Opened} (record { state = r; number = n; place = p }) (opened version constants arities cs)
  unfolding opened
  opens n p r e q is = λ i. record { state = (is ∙ ap (λ (n : ℕ). packed_state (made_of n version constants arities cs)) e) i; number = e i; place = q i }

  module _ (t : List Clause) (e : Ok t ≡ admission.table_answer constants arities cs) where
    passed : (refusal.number ≡ accepted) × (t ≡ admission.packed_input cs)
    unfolding admission.answered
    passed = handed_ok (admission.packed_input cs) refusal.number refusal t _ refl e

    pub admitted : Admitted (fresh version constants arities cs)
    admitted = (admitted_exactly version constants arities cs).0 passed.0

    place_none : refusal.place ≡ 0
    place_none = go (counts_fit constants arities cs) passed.0
      where
        go : (b : Bool) → (cond b (clauses_refusal arities 1 cs) (record { number = above_limit; place = 0 })).number ≡ accepted → (cond b (clauses_refusal arities 1 cs) (record { number = above_limit; place = 0 })).place ≡ 0
        go true n = no_place arities 1 cs n
        go false n = refl

    -- The records are what stands before the blanks.
    records : (count : ℕ) → count ≡ length cs → take count t ≡ map packed cs
    records count n = ap₂ (λ (k : ℕ) (l : List Clause). take k l) (n ∙ sym (length-map cs packed)) passed.1
        ∙ take_exactly (packed calculus.no_clause) most_input (map packed cs) (omega (arith, length-map cs packed, admitted.few_clauses))

    pub records_long : (count : ℕ) → count ≡ length cs → length (take count t) ≡ count
    records_long count n = ap length (records count n) ∙ length-map cs packed ∙ sym n

    pub opens_accepted : (count : ℕ) → count ≡ length cs → (r : State) → IsNew version constants arities (take count t) r → ◌≡◌ {A = Opened} (record { state = r; number = accepted; place = 0 }) (opened version constants arities cs)
    opens_accepted count n r new = opens accepted 0 r (sym passed.0) (sym place_none) (new cs (records count n) ∙ ap packed_state (sym (made_accepted accepted version constants arities cs refl)))

  pub opens_refused : (n p : ℕ) → Err (record { number = n; place = p }) ≡ admission.table_answer constants arities cs → (r : State) → r ≡ packed_state (fresh One 0 [] [])
      → ◌≡◌ {A = Opened} (record { state = r; number = n; place = p }) (opened version constants arities cs)
  unfolding admission.answered
  opens_refused n p e r new =
      let (bad, is) = handed_err (admission.packed_input cs) refusal.number refusal (record { number = n; place = p }) _ refl e in
      let number = ap (λ (q : Refused). q.number) is in
      opens n p r number (ap (λ (q : Refused). q.place) is)
      (new ∙ ap packed_state (sym (made_refused n version constants arities cs (λ z. bad (sym number ∙ z)))))

-- ---- what `step` takes for granted

-- A state of no clauses, no predicates and no constants
pub none_admitted : Admitted (fresh One 0 [] [])
none_admitted = record {
  few_constants = omega arith;
  few_predicates = omega arith;
  small_arities = λ n m. absurd (Memᴰ.not-nil m);
  few_clauses = omega arith;
  in_class = λ C m. absurd (Memᴰ.not-nil m);
  limited = λ C m. absurd (Memᴰ.not-nil m);
  new = refl;
}

module _ (version : Version) (constants : ℕ) (arities : List ℕ) (cs : List calculus.Clause) (a : Opened) (e : a ≡ opened version constants arities cs) where
  refusal_is : a.number ≡ (admission_refusal constants arities cs).number
  unfolding opened
  refusal_is = ap (λ (q : Opened). q.number) e

  state_is : a.state ≡ packed_state (made_of a.number version constants arities cs)
  unfolding opened
  state_is = ap (λ (q : Opened). q.state) e ∙ ap (λ (n : ℕ). packed_state (made_of n version constants arities cs)) (sym refusal_is)

pub admit_makes_states : AdmitMakesStates
admit_makes_states version constants arities cs a e h =
    let k = (admitted_exactly version constants arities cs).0 (sym (refusal_is version constants arities cs a e) ∙ h) in
    (k, record { reached = admitted_reached (plain whole) (fresh version constants arities cs) k; is = state_is version constants arities cs a e ∙ ap packed_state (made_accepted a.number version constants arities cs h) })

pub admit_keeps : AdmitKeeps
admit_keeps version constants arities cs a e = elim (ℕ_discrete a.number accepted) [
  | yes h ↦ (fresh version constants arities cs, (admit_makes_states version constants arities cs a e h).1)
  | no h ↦ (fresh One 0 [] [], record { reached = admitted_reached (plain whole) (fresh One 0 [] []) none_admitted; is = state_is version constants arities cs a e ∙ ap packed_state (made_refused a.number version constants arities cs h) })
]

-- A clause is refused by a number from 3 to 6.
clause_range : {arities : List ℕ} {C : calculus.Clause} {n : ℕ} → ClauseJudged arities C n → ¬ (n ≡ accepted) → (above_limit ≤ n) × (n ≤ lacks_bound)
clause_range (by_above_limit e h) z = (omega arith, omega arith)
clause_range (by_out_of_range e h k) z = (omega arith, omega arith)
clause_range (by_occurs_nowhere e h k l) z = (omega arith, omega arith)
clause_range (by_lacks_bound e h k l m) z = (omega arith, omega arith)
clause_range (fine e h k) z = absurd (z e)

pub admit_refused : (version : Version) (constants : ℕ) (arities : List ℕ) (cs : List calculus.Clause) (a : Opened) → a ≡ opened version constants arities cs → ¬ (a.number ≡ accepted)
    → (above_limit ≤ a.number) × (a.number ≤ lacks_bound) × (a.state ≡ packed_state (fresh One 0 [] []))
admit_refused version constants arities cs a e h =
    let (least, most) = go (admission_refused_rightly constants arities cs) in
    (least, most, state_is version constants arities cs a e ∙ ap packed_state (made_refused a.number version constants arities cs h))
  where
    given : {r : Refused} → admission_refusal constants arities cs ≡ r → a.number ≡ r.number
    given q = refusal_is version constants arities cs a e ∙ ap (λ (r : Refused). r.number) q

    go : AdmissionJudged constants arities cs (admission_refusal constants arities cs) → (above_limit ≤ a.number) × (a.number ≤ lacks_bound)
    go (counts q k) = (omega (arith, given q), omega (arith, given q))
    go (bad_clause k q f n z j) = let (l, m) = clause_range (clause_refused_rightly arities (clause_at cs k)) z in (omega (arith, given q), omega (arith, given q))
    go (AdmissionJudged.admitted q k) = absurd (h (given q))
