-- How the parts of a clause and of a header follow each other.
use Rattle.std.proofs.Common.{◌≡◌, refl, sym, ◌∙◌, ap, List, [], ◌∷◌, Bool, true, false, ◌&&◌, cond, ℕ, zero, ◌≤◌, Ok, Err, arith, eqb, leb, length, take, drop}
use mathlib.Core.List.{map}
use lib.Dec.{T, eqb→eq, leb→le}
use borrow.Author.Tests.{eq-eqb, ne_eqb}
use Rattle.basis.specs.Atoms.{no_atom}
use Rattle.basis.specs.Limits.{most_atoms, most_constants, most_input, most_literals, most_predicates, most_arguments, most_variables}
use Rattle.basis.specs.Refusals.{accepted}
use Rattle.basis.specs.declared.Literal.{Literal}
use Rattle.basis.specs.declared.Version.{Version}
use Rattle.lists.proofs.Arrays.{exactly_length, exactly_take, take_exactly}
use Rattle.lists.proofs.Tests.{T→eq, and_l, and_r}
use Rattle.lists.specs.Lists.{all_of}
use Rattle.lists.specs.Arrays.{exactly, held, held_in}
use Rattle.lists.specs.declared.Held.{Held}
use Rattle.admission.proofs.Tables.{handed_err, handed_ok}
use Rattle.admission.specs.Offered.{clause_answer, cleaned, handed, offered}
use Rattle.calculus.specs.Checks.{between, first_refusal}
use Rattle.calculus.specs.Class.{arity_of, clause_refusal, proper_atom, proper_literal, within_limits}
use Rattle.calculus.specs.Clauses.{Clause, arguments, no_literal}
use Rattle.clauses.specs.Records.{packed}
use Rattle.runfile.proofs.Back.{slots}
use Rattle.runfile.proofs.Given.{FieldsFit, clause_fields_fit}
use Rattle.runfile.proofs.Times.{times_length}
use Rattle.runfile.specs.File.{count, class_checks, clause, clause_fields, from_clauses, header, letters, mark, step_count, version}
use Rattle.runfile.specs.Readers.{Got, bad, got, onward, times}
use Rattle.clauses.specs.declared.Clause as records
use Rattle.fields.specs.Views.{filled}
use Rattle.fields.proofs.Turns.{Unmade, unmade}
use Rattle.header.specs.Records.{kept_beside, laid, seen}
use Rattle.header.proofs.Loops.{Was, seen_bad, seen_got}

-- ---- a literal that was read

-- A literal that is proper has nothing past its arity.
kept : (v : ℕ) (b : Bool) (x : ℕ) → T (cond b (between 1 v x) (eqb zero x)) → cond b x 0 ≡ x
kept v true x h = refl
kept v false x h = eqb→eq zero x h

cleaned_is : (arities : List ℕ) (v : ℕ) (l : Literal) → T (proper_literal arities v l) → cleaned arities l ≡ l
cleaned_is arities v l h =
    let n = arity_of arities l.predicate in
    let fit = all_of (between 1 v) (take n (arguments l)) in
    let none = all_of (eqb zero) (drop n (arguments l)) in
    let h' = and_r (between 1 (length arities) l.predicate) (fit && none) h in
    let k = slots v n l.x l.y l.z (and_l fit none h') (and_r fit none h') in
    rw (kept v (leb 1 n) l.x k.0, kept v (leb 2 n) l.y k.1, kept v (leb 3 n) l.z k.2)

cleaned_all : (arities : List ℕ) (v : ℕ) (ls : List Literal) → T (all_of (proper_literal arities v) ls) → map (cleaned arities) ls ≡ ls
cleaned_all arities v [] h = refl
cleaned_all arities v (l ∷ ls) h =
    let a = and_l (proper_literal arities v l) (all_of (proper_literal arities v) ls) h in
    let b = and_r (proper_literal arities v l) (all_of (proper_literal arities v) ls) h in
    rw (cleaned_is arities v l a, cleaned_all arities v ls b)

-- ---- a clause judged at its end

pub clause_none : (arities s : List ℕ) (i n p : ℕ) → bad n p ≡ seen packed (clause_fields arities s i) → bad n p ≡ seen packed (clause arities s i)
unfolding clause
clause_none arities s i n p h = rw (seen_bad packed (clause_fields arities s i) n p h) refl

module _ (arities s : List ℕ) (i j : ℕ) (C : Clause) (e : clause_fields arities s i ≡ got C j) where
  fit : FieldsFit arities C
  fit = clause_fields_fit arities s i e

  -- A clause whose fields are read is offered to admission as it is.
  offered_is : offered arities (packed C) ≡ C
  offered_is =
      let h = fit in
      let k = and_r (leb C.variables most_variables) (leb (length C.atoms) most_atoms && leb (length C.literals) most_literals) h.0 in
      let few = leb→le (length C.atoms) most_atoms (and_l (leb (length C.atoms) most_atoms) (leb (length C.literals) most_literals) k) in
      let less = leb→le (length C.literals) most_literals (and_r (leb (length C.atoms) most_atoms) (leb (length C.literals) most_literals) k) in
      let az : exactly (length C.atoms) no_atom (exactly most_atoms no_atom C.atoms) ≡ C.atoms =
      exactly_take no_atom (length C.atoms) (exactly most_atoms no_atom C.atoms) (omega (arith, exactly_length no_atom most_atoms C.atoms)) ∙ take_exactly no_atom most_atoms C.atoms few in
      let ls : exactly (length C.literals) no_literal (exactly most_literals no_literal C.literals) ≡ C.literals =
      exactly_take no_literal (length C.literals) (exactly most_literals no_literal C.literals) (omega (arith, exactly_length no_literal most_literals C.literals)) ∙ take_exactly no_literal most_literals C.literals less in
      let all = ap (map (cleaned arities)) ls ∙ cleaned_all arities C.variables C.literals (and_r (all_of (proper_atom C.variables) C.atoms) (all_of (proper_literal arities C.variables) C.literals) h.1) in
      λ t. record { variables = C.variables; atoms = az t; literals = all t }

  refusal_is : clause_refusal arities C ≡ first_refusal (class_checks C)
  refusal_is =
      let h = fit in
      let proper = all_of (proper_atom C.variables) C.atoms && all_of (proper_literal arities C.variables) C.literals in
      rw (T→eq (within_limits C) h.0, T→eq proper h.1)

  answer_is : clause_answer arities (packed C) ≡ handed (packed C) (first_refusal (class_checks C))
  unfolding clause_answer
  answer_is = ap (λ D. handed (packed D) (clause_refusal arities D)) offered_is ∙ ap (handed (packed C)) refusal_is

  pub clause_held : (y : records.Clause) → Ok y ≡ clause_answer arities (packed C) → got y j ≡ seen packed (clause arities s i)
  unfolding clause
  clause_held y h =
      let (n, is) = handed_ok (packed C) (first_refusal (class_checks C)) (first_refusal (class_checks C)) y _ refl (h ∙ answer_is) in
      rw (e, eq-eqb (first_refusal (class_checks C)) accepted n) (ap (λ c. got c j) is)

  pub clause_refused : (k : ℕ) → Err k ≡ clause_answer arities (packed C) → bad k i ≡ seen packed (clause arities s i)
  unfolding clause
  clause_refused k h =
      let (z, is) = handed_err (packed C) (first_refusal (class_checks C)) (first_refusal (class_checks C)) k _ refl (h ∙ answer_is) in
      rw (e, ne_eqb (first_refusal (class_checks C)) accepted z) (ap (λ (n : ℕ). bad n i) is)

-- ---- the header

module _ (s : List ℕ) (a₁ a₂ a₃ a₄ a₅ a₆ : ℕ) (v : Version) (k n m : ℕ) (e₁ : got letters a₁ ≡ mark s 0) (e₂ : got v a₂ ≡ version s a₁) (e₃ : got k a₃ ≡ count most_constants s a₂)
    (e₄ : got n a₄ ≡ count most_predicates s a₃) (e₆ : got m a₆ ≡ count most_input s a₅) where
  front_is : (ns : List ℕ) → times n (count most_arguments) s a₄ ≡ got ns a₅ → header s 0 ≡ from_clauses v k ns m s a₆
  unfolding header
  front_is ns w = rw (sym e₁, sym e₂, sym e₃, sym e₄, w, sym e₆) refl

  module _ (ps : Held ℕ most_predicates) (sl : List ℕ) (few : n ≤ most_predicates) (e₅ : got ps a₅ ≡ filled most_predicates 0 n (count most_arguments) s a₄) (e₇ : sl ≡ held_in ps) where
    w : Unmade (held most_predicates 0) (times n (count most_arguments) s a₄) ps a₅
    w = unmade (held most_predicates 0) (times n (count most_arguments) s a₄) e₅

    arities_are : sl ≡ w.value
    arities_are =
        let z = times_length (count most_arguments) s n a₄ w.value a₅ w.read in
        e₇ ∙ ap held_in w.is ∙ take_exactly 0 most_predicates w.value (omega (arith, z))

    -- What stands before the clauses is read; they and the number of steps make the header.
    rest_is : header s 0 ≡ from_clauses v k sl m s a₆
    rest_is = front_is w.value w.read ∙ ap (λ (l : List ℕ). from_clauses v k l m s a₆) (sym arities_are)

    predicates_are : ps ≡ held most_predicates 0 sl
    predicates_are = w.is ∙ ap (held most_predicates 0) (sym arities_are)

    pub clauses_bad : (t : List records.Clause) (q p : ℕ) → bad q p ≡ seen (laid t) (times m (clause sl) s a₆) → bad q p ≡ kept_beside t (header s 0)
    clauses_bad t q p h =
        sym (ap (kept_beside t) (rest_is ∙ ap (λ (g : Got (List Clause)). onward g (λ xs l. onward (step_count s l) (λ t j. got (record { version = v; constants = k; arities = sl; input = xs; count = t }) j))) (seen_bad (laid t) (times m (clause sl) s a₆) q p h)))

    module _ (t₀ t₁ : List records.Clause) (a₇ : ℕ) (e₈ : got t₁ a₇ ≡ seen (laid t₀) (times m (clause sl) s a₆)) where
      given : Was (laid t₀) (times m (clause sl) s a₆) t₁ a₇
      given = seen_got (laid t₀) (times m (clause sl) s a₆) t₁ a₇ e₈

      end_is : header s 0 ≡ onward (step_count s a₇) (λ t l. got (record { version = v; constants = k; arities = sl; input = given.value; count = t }) l)
      end_is = rest_is ∙ ap (λ (g : Got (List Clause)). onward g (λ xs l. onward (step_count s l) (λ t j. got (record { version = v; constants = k; arities = sl; input = xs; count = t }) j))) given.is

      pub steps_bad : (q p : ℕ) → bad q p ≡ step_count s a₇ → bad q p ≡ kept_beside t₀ (header s 0)
      steps_bad q p h =
          sym (ap (kept_beside t₀) (end_is ∙ ap (λ (g : Got ℕ). onward g (λ t l. got (record { version = v; constants = k; arities = sl; input = given.value; count = t }) l)) (sym h)))

      pub header_read : (t a₈ : ℕ) → got t a₈ ≡ step_count s a₇
          → got (record { version = v; constants = k; arities = ps; input = m; steps = t }, t₁) a₈ ≡ kept_beside t₀ (header s 0)
      header_read t a₈ h =
          let z = times_length (clause sl) s m a₆ given.value a₇ given.is in
          let all = end_is ∙ ap (λ (g : Got ℕ). onward g (λ t l. got (record { version = v; constants = k; arities = sl; input = given.value; count = t }) l)) (sym h) in
          (λ j. got (record { version = v; constants = k; arities = predicates_are j; input = sym z j; steps = t }, given.view_is j) a₈) ∙ sym (ap (kept_beside t₀) all)
