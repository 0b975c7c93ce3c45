-- The tests of the clause class and of admission say what the paper's terms say.
use mathlib.Core.Path.{◌∙◌, ◌≡◌, ap, refl, sym}
use mathlib.Core.Logic.{◌↔◌, ◌⊎◌, inl, inr}
use mathlib.Core.List.{List, Memᴰ, [], ◌∷◌}
use mathlib.Core.Bool.{Bool, ◌&&◌, ◌||◌, false, true}
use Prim.Native.Nat.{◌+◌, ◌-◌, ◌<◌, ◌≤◌, suc, zero, ℕ}
use native.Mathlib.Omega.{arith}
use lib.Dec.{T, eqb, eqb→eq, leb}
use lib.IntN.{neg_ℤ, pos, ℤ}
use lib.ListN.{drop, get_or, length, take}
use lib.Signed.{le_z, le_z_yes}
use Rattle.basis.specs.Atoms.{InRange, Proper}
use Rattle.basis.specs.Limits.{most_arguments, most_c, most_constants, most_input, most_predicates}
use Rattle.basis.specs.Refusals.{above_limit, accepted, lacks_bound, occurs_nowhere, out_of_range}
use Rattle.basis.specs.declared.Atom.{Atom}
use Rattle.basis.specs.declared.Literal.{Literal}
use Rattle.lists.proofs.Counting.{up_from_mem, up_from_out}
use Rattle.lists.proofs.Meanings.{all_says, and_says, any_says, eqb_says, leb_says, not_says, or_says, says_also}
use Rattle.lists.proofs.Members.{get_d_mem}
use Rattle.lists.proofs.Tests.{F→eq, Said, T→eq, and_i, and_l, and_r, fails, holds, not_eqb, said}
use Rattle.lists.specs.Lists.{all_of, any_of, up_from}
use Rattle.calculus.specs.Admission.{Admitted, Refused, admission_refusal, clauses_refusal, counts_fit, fresh}
use Rattle.calculus.specs.Admitting.{AdmissionJudged, AdmissionRefusedRightly, AdmittedExactly, ClauseAcceptedExactly, ClauseJudged, ClauseRefusedRightly, CountsFit, EachOccurs, FieldsInRange, by_above_limit, admitted, bad_clause, counts, fine, by_lacks_bound, by_occurs_nowhere, by_out_of_range}
use Rattle.calculus.specs.Checks.{◌or◌, between, first_refusal}
use Rattle.calculus.specs.Class.{Bounded, DifferencesBounded, InClass, Limited, Occurs, ProperLiteral, arity_of, bounded, clause_refusal, differences_bounded, in_atom, in_literal, proper_atom, proper_literal, within_limits}
use Rattle.calculus.specs.Clauses.{Clause, arguments, no_clause}
use Rattle.calculus.specs.Merging.{occurs_in}
use Rattle.calculus.specs.States.{clause_at}
use Rattle.calculus.proofs.Asks.{between_says, limited_says}

-- ---- the clause class

in_range_says : (c : ℤ) → T (le_z (neg_ℤ (pos most_c)) c && le_z c (pos most_c)) ↔ InRange c
in_range_says c = (
  λ t. record { low = le_z_yes (and_l (le_z (neg_ℤ (pos most_c)) c) (le_z c (pos most_c)) t); high = le_z_yes (and_r (le_z (neg_ℤ (pos most_c)) c) (le_z c (pos most_c)) t) },
  λ h. and_i (le_z (neg_ℤ (pos most_c)) c) (le_z c (pos most_c)) h.low.le h.high.le,
)

proper_says : (v : ℕ) (a : Atom) → T (proper_atom v a) ↔ Proper InRange v a
proper_says v a =
    says_also
    (and_says (leb a.p v) _ (leb_says a.p v) (and_says (leb a.q v) _ (leb_says a.q v) (and_says (leb 1 (a.p + a.q)) _ (leb_says 1 (a.p + a.q)) (in_range_says a.c))))
    (λ h. record { p_place = h.0; q_place = h.1.0; some_place = h.1.1.0; c_range = h.1.1.1 })
    (λ h. (h.p_place, (h.q_place, (h.some_place, h.c_range))))

zero_says : (x : ℕ) → T (eqb zero x) ↔ (x ≡ zero)
zero_says x = says_also (eqb_says zero x) sym sym

proper_literal_says : (arities : List ℕ) (v : ℕ) (l : Literal) → T (proper_literal arities v l) ↔ ProperLiteral arities v l
proper_literal_says arities v l =
    says_also
    (and_says (between 1 (length arities) l.predicate) _ (between_says 1 (length arities) l.predicate)
    (and_says (all_of (between 1 v) own) _ (all_says (between 1 v) (λ x. (1 ≤ x) × (x ≤ v)) (between_says 1 v) own) (all_says (eqb zero) (λ x. x ≡ zero) zero_says others)))
    (λ h. record { from_one = h.0.0; known = h.0.1; its_arguments = h.1.0; no_others = h.1.1 })
    (λ h. ((h.from_one, h.known), (h.its_arguments, h.no_others)))
  where
    own : List ℕ
    own = take (arity_of arities l.predicate) (arguments l)

    others : List ℕ
    others = drop (arity_of arities l.predicate) (arguments l)

pub occurs_says : (C : Clause) (x : ℕ) → T (occurs_in C.atoms C.literals x) ↔ Occurs C x
occurs_says C x =
    says_also
    (or_says (any_of (λ (a : Atom). eqb x a.p || eqb x a.q) C.atoms) _
    (any_says (λ (a : Atom). eqb x a.p || eqb x a.q) (λ (a : Atom). (x ≡ a.p) ⊎ (x ≡ a.q)) (λ (a : Atom). or_says (eqb x a.p) _ (eqb_says x a.p) (eqb_says x a.q)) C.atoms)
    (any_says (λ l. any_of (eqb x) (arguments l)) (λ l. Memᴰ x (arguments l)) (λ l. argument l) C.literals))
    out back
  where
    argument : (l : Literal) → T (any_of (eqb x) (arguments l)) ↔ Memᴰ x (arguments l)
    argument l = says_also (any_says (eqb x) (λ y. x ≡ y) (eqb_says x) (arguments l)) (λ (y, m, e). mathlib.Core.List.Memᴰ.cast e m) (λ m. (x, m, refl))

    out : ((a : Atom) × Memᴰ a C.atoms × ((x ≡ a.p) ⊎ (x ≡ a.q))) ⊎ ((l : Literal) × Memᴰ l C.literals × Memᴰ x (arguments l)) → Occurs C x
    out (inl (a, m, h)) = in_atom a m h
    out (inr (l, m, h)) = in_literal l m h

    back : Occurs C x → ((a : Atom) × Memᴰ a C.atoms × ((x ≡ a.p) ⊎ (x ≡ a.q))) ⊎ ((l : Literal) × Memᴰ l C.literals × Memᴰ x (arguments l))
    back (in_atom a m h) = inl (a, m, h)
    back (in_literal l m h) = inr (l, m, h)

each_occurs_says : (C : Clause) → T (all_of (occurs_in C.atoms C.literals) (up_from 1 C.variables)) ↔ EachOccurs C
each_occurs_says C =
    says_also (all_says (occurs_in C.atoms C.literals) (Occurs C) (occurs_says C) (up_from 1 C.variables))
    (λ h x a b. h x (up_from_mem 1 C.variables x a (omega arith))) (λ h x m. let (a, b) = up_from_out 1 C.variables x m in h x a (omega arith))

-- One atom from p to q
edge_says : (az : List Atom) (p q : ℕ) → T (any_of (λ (a : Atom). eqb a.p p && eqb a.q q) az) ↔ ((c : ℤ) × Memᴰ (record { p = p; q = q; c = c }) az)
edge_says az p q =
    says_also (any_says (λ (a : Atom). eqb a.p p && eqb a.q q) (λ (a : Atom). (a.p ≡ p) × (a.q ≡ q)) (λ (a : Atom). and_says (eqb a.p p) _ (eqb_says a.p p) (eqb_says a.q q)) az)
    (λ (a, m, h). (a.c, mathlib.Core.List.Memᴰ.cast (λ i. record { p = sym h.0 i; q = sym h.1 i; c = a.c }) m)) (λ (c, m). (record { p = p; q = q; c = c }, m, (refl, refl)))

bounded_says : (az : List Atom) (x : ℕ) → T (bounded az x) ↔ Bounded az x
bounded_says az x =
    says_also (and_says (any_of (λ (a : Atom). eqb a.p x && eqb a.q zero) az) _ (edge_says az x zero) (edge_says az zero x))
    (λ (u, l). record { upper = u.0; above = u.1; lower = l.0; below = l.1 }) (λ h. ((h.upper, h.above), (h.lower, h.below)))

differences_say : (az : List Atom) → T (differences_bounded az) ↔ DifferencesBounded az
differences_say az = says_also (all_says test Asked each az) (λ h a m np nq. out a (h a m) np nq) (λ h a m. back a (h a m) (said (eqb a.p zero)) (said (eqb a.q zero)))
  where
    Both : Atom → Type 0
    Both a = Bounded az a.p × Bounded az a.q

    Asked : Atom → Type 0
    Asked a = (a.p ≡ zero) ⊎ ((a.q ≡ zero) ⊎ Both a)

    test : Atom → Bool
    test a = eqb a.p zero || (eqb a.q zero || (bounded az a.p && bounded az a.q))

    each : (a : Atom) → T (test a) ↔ Asked a
    each a = or_says (eqb a.p zero) _ (eqb_says a.p zero) (or_says (eqb a.q zero) _ (eqb_says a.q zero) (and_says (bounded az a.p) _ (bounded_says az a.p) (bounded_says az a.q)))

    out : (a : Atom) → Asked a → ¬ (a.p ≡ zero) → ¬ (a.q ≡ zero) → Both a
    out a (inl e) np nq = absurd (np e)
    out a (inr (inl e)) np nq = absurd (nq e)
    out a (inr (inr h)) np nq = h

    back : (a : Atom) → (¬ (a.p ≡ zero) → ¬ (a.q ≡ zero) → Both a) → Said (eqb a.p zero) → Said (eqb a.q zero) → Asked a
    back a h (holds e) k = inl (eqb→eq a.p zero e)
    back a h (fails np) (holds e) = inr (inl (eqb→eq a.q zero e))
    back a h (fails np) (fails nq) = inr (inr (h (not_eqb a.p zero np) (not_eqb a.q zero nq)))

fields_say : (arities : List ℕ) (C : Clause) → T (all_of (proper_atom C.variables) C.atoms && all_of (proper_literal arities C.variables) C.literals) ↔ FieldsInRange arities C
fields_say arities C =
    says_also
    (and_says (all_of (proper_atom C.variables) C.atoms) _ (all_says (proper_atom C.variables) (Proper InRange C.variables) (proper_says C.variables) C.atoms)
    (all_says (proper_literal arities C.variables) (ProperLiteral arities C.variables) (proper_literal_says arities C.variables) C.literals))
    (λ h. record { atoms_proper = h.0; literals_proper = h.1 }) (λ h. (h.atoms_proper, h.literals_proper))

first_of_four : (arities : List ℕ) (C : Clause) (a b c d : Bool) → T a ↔ Limited C → T b ↔ FieldsInRange arities C → T c ↔ EachOccurs C → T d ↔ DifferencesBounded C.atoms
    → ClauseJudged arities C (first_refusal (a or above_limit ∷ b or out_of_range ∷ c or occurs_nowhere ∷ d or lacks_bound ∷ []))
first_of_four arities C false b c d l f o w = by_above_limit refl ((not_says false l).0 tt)
first_of_four arities C true false c d l f o w = by_out_of_range refl (l.0 tt) ((not_says false f).0 tt)
first_of_four arities C true true false d l f o w = by_occurs_nowhere refl (l.0 tt) (f.0 tt) ((not_says false o).0 tt)
first_of_four arities C true true true false l f o w = by_lacks_bound refl (l.0 tt) (f.0 tt) (o.0 tt) ((not_says false w).0 tt)
first_of_four arities C true true true true l f o w =
    let k = f.0 tt in
    fine refl (l.0 tt) (record { atoms_proper = k.atoms_proper; literals_proper = k.literals_proper; each_occurs = o.0 tt; differences_bounded = w.0 tt })

pub clause_refused_rightly : ClauseRefusedRightly
clause_refused_rightly arities C =
    first_of_four arities C (within_limits C) (all_of (proper_atom C.variables) C.atoms && all_of (proper_literal arities C.variables) C.literals)
    (all_of (occurs_in C.atoms C.literals) (up_from 1 C.variables)) (differences_bounded C.atoms) (limited_says C) (fields_say arities C) (each_occurs_says C) (differences_say C.atoms)

pub clause_accepted_exactly : ClauseAcceptedExactly
clause_accepted_exactly arities C = (λ e. out e (clause_refused_rightly arities C), λ h. back h (clause_refused_rightly arities C))
  where
    n : ℕ
    n = clause_refusal arities C

    out : n ≡ accepted → ClauseJudged arities C n → InClass arities C × Limited C
    out e (by_above_limit z l) = absurd (omega arith)
    out e (by_out_of_range z l f) = absurd (omega arith)
    out e (by_occurs_nowhere z l f o) = absurd (omega arith)
    out e (by_lacks_bound z l f o w) = absurd (omega arith)
    out e (fine z l h) = (h, l)

    back : InClass arities C × Limited C → ClauseJudged arities C n → n ≡ accepted
    back (h, l) (by_above_limit z k) = absurd (k l)
    back (h, l) (by_out_of_range z k f) = absurd (f (record { atoms_proper = h.atoms_proper; literals_proper = h.literals_proper }))
    back (h, l) (by_occurs_nowhere z k f o) = absurd (o h.each_occurs)
    back (h, l) (by_lacks_bound z k f o w) = absurd (w h.differences_bounded)
    back (h, l) (fine z k u) = z

-- ---- admission

counts_say : (constants : ℕ) (arities : List ℕ) (cs : List Clause) → T (counts_fit constants arities cs) ↔ CountsFit constants arities cs
counts_say constants arities cs =
    says_also
    (and_says (leb constants most_constants) _ (leb_says constants most_constants)
    (and_says (leb (length arities) most_predicates) _ (leb_says (length arities) most_predicates)
    (and_says (all_of (λ n. leb n most_arguments) arities) _ (all_says (λ n. leb n most_arguments) (λ n. n ≤ most_arguments) (λ n. leb_says n most_arguments) arities) (leb_says (length cs) most_input))))
    (λ h. record { few_constants = h.0; few_predicates = h.1.0; small_arities = h.1.1.0; few_clauses = h.1.1.1 })
    (λ h. (h.few_constants, (h.few_predicates, (h.small_arities, h.few_clauses))))

-- What is found among the clauses from number k on; places in the list count from 0
data Found (arities : List ℕ) (k : ℕ) (cs : List Clause) (r : Refused) : Type 0 where
  first_bad : (j : ℕ) → j < length cs → r ≡ record { number = clause_refusal arities (get_or cs j no_clause); place = k + j } → ¬ (clause_refusal arities (get_or cs j no_clause) ≡ accepted)
      → ((i : ℕ) → i < j → clause_refusal arities (get_or cs i no_clause) ≡ accepted) → Found arities k cs r
  all_fine : r ≡ record { number = accepted; place = zero } → ((C : Clause) → Memᴰ C cs → clause_refusal arities C ≡ accepted) → Found arities k cs r

found : (arities : List ℕ) (k : ℕ) (cs : List Clause) → Found arities k cs (clauses_refusal arities k cs)
found arities k [] = all_fine refl (λ C m. absurd (mathlib.Core.List.Memᴰ.not-nil m))
found arities k (C ∷ cs) = go (said (eqb (clause_refusal arities C) accepted)) (found arities (suc k) cs)
  where
    n : ℕ
    n = clause_refusal arities C

    earlier : n ≡ accepted → (j : ℕ) → ((i : ℕ) → i < j → clause_refusal arities (get_or cs i no_clause) ≡ accepted) → (i : ℕ) → i < suc j → clause_refusal arities (get_or (C ∷ cs) i no_clause) ≡ accepted
    earlier e j h zero l = e
    earlier e j h (suc i) l = h i (omega arith)

    more : n ≡ accepted → Found arities (suc k) cs (clauses_refusal arities (suc k) cs) → Found arities k (C ∷ cs) (clauses_refusal arities (suc k) cs)
    more e (first_bad j l r b h) = first_bad (suc j) (omega arith) (r ∙ ap (λ p. record { number = clause_refusal arities (get_or cs j no_clause); place = p }) (omega arith)) b (earlier e j h)
    more e (all_fine r h) = all_fine r (λ D m. each (mathlib.Core.List.Memᴰ.cases_cons m))
      where
        each : {D : Clause} → (D ≡ C) ⊎ Memᴰ D cs → clause_refusal arities D ≡ accepted
        each (inl q) = ap (clause_refusal arities) q ∙ e
        each {D} (inr m) = h D m

    go : Said (eqb n accepted) → Found arities (suc k) cs (clauses_refusal arities (suc k) cs) → Found arities k (C ∷ cs) (clauses_refusal arities k (C ∷ cs))
    go (holds t) f = rw (T→eq (eqb n accepted) t) (more (eqb→eq n accepted t) f)
    go (fails t) f = rw (F→eq (eqb n accepted) t) (first_bad zero (omega arith) (ap (λ p. record { number = n; place = p }) (omega arith)) (not_eqb n accepted t) (λ i l. absurd (omega arith)))

pub admission_refused_rightly : AdmissionRefusedRightly
admission_refused_rightly constants arities cs = go (said (counts_fit constants arities cs)) (found arities 1 cs)
  where
    r : Refused
    r = clauses_refusal arities 1 cs

    judged : CountsFit constants arities cs → Found arities 1 cs r → AdmissionJudged constants arities cs r
    judged f (first_bad j l e b h) =
        let q : (1 + j) - 1 ≡ j = omega arith in
        bad_clause (1 + j) (rw q e) f (record { from_one = omega arith; there = omega arith }) (rw q b) (λ i a u. h (i - 1) (omega arith))
    judged f (all_fine e h) = admitted e (λ version. record {
      few_constants = f.few_constants;
      few_predicates = f.few_predicates;
      small_arities = f.small_arities;
      few_clauses = f.few_clauses;
      in_class = λ C m. ((clause_accepted_exactly arities C).0 (h C m)).0;
      limited = λ C m. ((clause_accepted_exactly arities C).0 (h C m)).1;
      new = refl;
    })

    go : Said (counts_fit constants arities cs) → Found arities 1 cs r → AdmissionJudged constants arities cs (admission_refusal constants arities cs)
    go (holds t) f = rw (T→eq (counts_fit constants arities cs) t) (judged ((counts_say constants arities cs).0 t) f)
    go (fails t) f = rw (F→eq (counts_fit constants arities cs) t) (counts refl ((not_says (counts_fit constants arities cs) (counts_say constants arities cs)).0 t))

pub admitted_exactly : AdmittedExactly
admitted_exactly version constants arities cs = (λ e. out e (admission_refused_rightly constants arities cs), λ h. back h (admission_refused_rightly constants arities cs))
  where
    r : Refused
    r = admission_refusal constants arities cs

    out : r.number ≡ accepted → AdmissionJudged constants arities cs r → Admitted (fresh version constants arities cs)
    out e (counts z f) = let k = ap (λ (q : Refused). q.number) z in absurd (omega arith)
    out e (bad_clause k z f m b h) = absurd (b (sym (ap (λ (q : Refused). q.number) z) ∙ e))
    out e (admitted z a) = a version

    back : Admitted (fresh version constants arities cs) → AdmissionJudged constants arities cs r → r.number ≡ accepted
    back a (counts z f) = absurd (f (record { few_constants = a.few_constants; few_predicates = a.few_predicates; small_arities = a.small_arities; few_clauses = a.few_clauses }))
    back a (bad_clause k z f m b h) =
        let i : Memᴰ (clause_at cs k) cs = get_d_mem cs (k - 1) no_clause (omega arith) in
        absurd (b ((clause_accepted_exactly arities (clause_at cs k)).1 (a.in_class (clause_at cs k) i, a.limited (clause_at cs k) i)))
    back a (admitted z u) = ap (λ (q : Refused). q.number) z
