-- The answer to a step: what computes it is what the rules say, it is unique, and it is "accepted" exactly when the step is allowed.
use mathlib.Core.Path.{◌∙◌, ◌≡◌, refl, sym}
use mathlib.Core.Logic.{◌↔◌, inl, inr}
use mathlib.Core.List.Memᴰ
use mathlib.Core.List.{List, [], ◌∷◌}
use mathlib.Core.Bool.{Bool, ◌&&◌, ◌||◌, cond, false, not, true}
use Prim.Native.Nat.{◌-◌, ◌<◌, ◌≤◌, suc, zero, ℕ}
use native.Mathlib.Decide.{ℕ_discrete}
use native.Mathlib.Numerals.{unary_clauses}
use native.Mathlib.Omega.{arith}
use borrow.Author.Tests.{ne_eqb}
use lib.Dec.{T, eqb, eqb_refl, leb, leb→le, ltb, ltb→lt}
use lib.ListN.{get_or, length}
use Rattle.basis.specs.Atoms.{Possible}
use Rattle.basis.specs.Numbers.{Numbers}
use Rattle.basis.specs.Refusals.{accepted, no_room, not_false}
use Rattle.basis.specs.declared.Literal.{Literal}
use Rattle.lists.proofs.Denials.{or_false}
use Rattle.lists.proofs.Tests.{and_i, and_l, and_r, not_eqb, or_l, or_r}
use Rattle.lists.specs.Lists.{all_of, any_of}
use Rattle.calculus.specs.Answers.{AcceptedExactlyIfAllowed, AnswerUnique, NumberInTable, TriedInRisingOrder, rising}
use Rattle.calculus.specs.Tests.{all_false, first_failing, others_false}
use Rattle.calculus.proofs.Computed.{answer, asks, not_false_place}
use Rattle.calculus.specs.Checks.{Check, first_refusal}
use Rattle.calculus.specs.Clauses.{complement, ground, no_literal, same_literal}
use Rattle.calculus.specs.Conditions.{Allowed, Condition, EachHolds, FirstLacking, FirstNotFalse, Judged, NamesNotFalse, conditions}
use Rattle.calculus.specs.OnTrail.{False}
use Rattle.calculus.specs.Rules.{Answer, next, question}
use Rattle.calculus.specs.States.{Backtrack, Conflict, Decide, Factorize, Grow, Propagate, Resolve, Skip, State, Step, Unknown, clause_at, clauses}
use Rattle.calculus.specs.Trails.{Trail, is_false}
use Rattle.calculus.proofs.Asks.{AllOk, all_say, first_lacking, matched}
use Rattle.calculus.proofs.OnTrail.{not_on_out, on_out, other_false_out, other_not_false}

-- ---- conditions in rising order

pub all_rise : (N : Numbers) → TriedInRisingOrder N
all_rise N s (Propagate c l τ) = tt
all_rise N s (Decide c l g τ zs) = tt
all_rise N s (Conflict c τ) = tt
all_rise N s (Resolve l) = tt
all_rise N s (Factorize i j) = tt
all_rise N s Skip = tt
all_rise N s (Backtrack l) = tt
all_rise N s (Grow n) = tt
all_rise N s (Unknown r) = tt

abbrev in_table : List Condition → Bool
in_table [] = true
in_table (c ∷ cs) = leb c.refusal no_room && in_table cs

all_in_table : (N : Numbers) (s : State) (x : Step) → T (in_table (conditions N s x))
all_in_table N s (Propagate c l τ) = tt
all_in_table N s (Decide c l g τ zs) = tt
all_in_table N s (Conflict c τ) = tt
all_in_table N s (Resolve l) = tt
all_in_table N s (Factorize i j) = tt
all_in_table N s Skip = tt
all_in_table N s (Backtrack l) = tt
all_in_table N s (Grow n) = tt
all_in_table N s (Unknown r) = tt

lacking_in_table : (n : ℕ) (cs : List Condition) → T (in_table cs) → FirstLacking n cs → n ≤ no_room
lacking_in_table n [] t e = omega arith
lacking_in_table n (c ∷ cs) t (inl (h, e)) = omega (arith, leb→le c.refusal no_room (and_l (leb c.refusal no_room) (in_table cs) t))
lacking_in_table n (c ∷ cs) t (inr (h, r)) = lacking_in_table n cs (and_r (leb c.refusal no_room) (in_table cs) t) r

-- None is lacking where the number is 0, and the number is 0 where none is lacking.
each_holds : (k n : ℕ) (cs : List Condition) → T (rising k cs) → n ≡ accepted → FirstLacking n cs → EachHolds cs
each_holds k n [] t z e = tt
each_holds k n (c ∷ cs) t z (inl (h, e)) = absurd (omega (arith, ltb→lt k c.refusal (and_l (ltb k c.refusal) (rising c.refusal cs) t)))
each_holds k n (c ∷ cs) t z (inr (h, r)) = (h, each_holds c.refusal n cs (and_r (ltb k c.refusal) (rising c.refusal cs) t) z r)

pub none_lacking : (n : ℕ) (cs : List Condition) → EachHolds cs → FirstLacking n cs → n ≡ accepted
none_lacking n [] h e = e
none_lacking n (c ∷ cs) h (inl (k, e)) = absurd (k h.0)
none_lacking n (c ∷ cs) h (inr (k, r)) = none_lacking n cs h.1 r

-- Only one is the first.
pub lacking_once : (n m : ℕ) (cs : List Condition) → FirstLacking n cs → FirstLacking m cs → n ≡ m
lacking_once n m [] d e = d ∙ sym e
lacking_once n m (c ∷ cs) (inl (h, d)) (inl (k, e)) = d ∙ sym e
lacking_once n m (c ∷ cs) (inl (h, d)) (inr (k, e)) = absurd (h k)
lacking_once n m (c ∷ cs) (inr (h, d)) (inl (k, e)) = absurd (k h)
lacking_once n m (c ∷ cs) (inr (h, d)) (inr (k, e)) = lacking_once n m cs d e

-- The number is that of a condition.
abbrev numbers_none : ℕ → List Condition → Bool
numbers_none n [] = not (eqb n accepted)
numbers_none n (c ∷ cs) = not (eqb n c.refusal) && numbers_none n cs

pub not_lacking : (n : ℕ) (cs : List Condition) → T (numbers_none n cs) → FirstLacking n cs → ⊥
not_lacking n [] t e = not_eqb n accepted t e
not_lacking n (c ∷ cs) t (inl (h, e)) = not_eqb n c.refusal (and_l (not (eqb n c.refusal)) (numbers_none n cs) t) e
not_lacking n (c ∷ cs) t (inr (h, r)) = not_lacking n cs (and_r (not (eqb n c.refusal)) (numbers_none n cs) t) r

-- ---- refusal 12

-- The number is that of a check that fails.
fault_given : (n : ℕ) (cs : List Check) → first_refusal cs ≡ n → ¬ (n ≡ accepted) → T (any_of (λ c. eqb c.refusal n && not c.ok) cs)
fault_given n [] e h = absurd (h (sym e))
fault_given n (c ∷ cs) e h = go c.ok e (λ k. fault_given n cs k h)
  where
    go : (b : Bool) → cond b (first_refusal cs) c.refusal ≡ n → (first_refusal cs ≡ n → T (any_of (λ c. eqb c.refusal n && not c.ok) cs))
        → T ((eqb c.refusal n && not b) || any_of (λ c. eqb c.refusal n && not c.ok) cs)
    go true e ih = or_r (eqb c.refusal n && false) _ (ih e)
    go false e ih = or_l (eqb c.refusal n && true) _ (and_i (eqb c.refusal n) true (rw e (eqb_refl n)) tt)

-- What is said of the first literal that fails a test
record FirstFailing (f : Literal → Bool) (ls : List Literal) (p : ℕ) : Type 0 where
  from_one : 1 ≤ p
  there : p ≤ length ls
  fails_there : T (not (f (get_or ls (p - 1) no_literal)))
  before : (i : ℕ) → 1 ≤ i → i < p → T (f (get_or ls (i - 1) no_literal))

get_later : (l : Literal) (ls : List Literal) (p : ℕ) → 1 ≤ p → get_or (l ∷ ls) (suc p - 1) no_literal ≡ get_or ls (p - 1) no_literal
get_later l ls zero h = absurd (omega arith)
get_later l ls (suc p) h = simp unary_clauses

first_failing_lem : (f : Literal → Bool) (ls : List Literal) → T (not (all_of f ls)) → FirstFailing f ls (first_failing f ls)
first_failing_lem f [] t = absurd t
first_failing_lem f (l ∷ ls) t = go (λ h. first_failing_lem f ls h) (f l) refl t
  where
    all_before : f l ≡ true → FirstFailing f ls (first_failing f ls) → (i : ℕ) → 1 ≤ i → i < suc (first_failing f ls) → T (f (get_or (l ∷ ls) (i - 1) no_literal))
    all_before e r zero h k = absurd (omega arith)
    all_before e r (suc zero) h k = rw e tt
    all_before e r (suc (suc i)) h k = rw (get_later l ls (suc i) (omega arith)) (r.before (suc i) (omega arith) (omega arith))

    later : f l ≡ true → FirstFailing f ls (first_failing f ls) → FirstFailing f (l ∷ ls) (suc (first_failing f ls))
    later e r =
        let one = r.from_one in
        let end = r.there in
        record { from_one = omega arith; there = omega arith; fails_there = rw (get_later l ls (first_failing f ls) one) r.fails_there; before = all_before e r }

    go : (T (not (all_of f ls)) → FirstFailing f ls (first_failing f ls)) → (b : Bool) → f l ≡ b → T (not (b && all_of f ls)) → FirstFailing f (l ∷ ls) (cond b (suc (first_failing f ls)) 1)
    go ih true e t = later e (ih t)
    go ih false e t = record { from_one = omega arith; there = omega arith; fails_there = rw e tt; before = λ i h k. absurd (omega arith) }

-- Refusal 12 of a rule that asks by this test for what must be false
first_not_false : (t : Trail) (τ : List ℕ) (MustBe : Literal → Type 0) (f : Literal → Bool)
    → ((m : Literal) → T (not (f m)) → MustBe m × (¬ False t (ground τ m)))
    → ((m : Literal) → T (f m) → MustBe m → False t (ground τ m))
    → (ls : List Literal) → T (not (all_of f ls)) → FirstNotFalse t τ MustBe ls (first_failing f ls)
first_not_false t τ MustBe f failing passing ls h =
    let r = first_failing_lem f ls h in
    let k = failing (get_or ls (first_failing f ls - 1) no_literal) r.fails_there in
    record { from_one = r.from_one; there = r.there; must_be = k.0; is_not = k.1; those_before = λ i a b m. passing (get_or ls (i - 1) no_literal) (r.before i a b) m }

-- Only one is the first.
not_false_once : (t : Trail) (τ : List ℕ) (MustBe : Literal → Type 0) (ls : List Literal) (p q : ℕ) → FirstNotFalse t τ MustBe ls p → FirstNotFalse t τ MustBe ls q → p ≡ q
not_false_once t τ MustBe ls p q a b =
    let below : (p q : ℕ) → FirstNotFalse t τ MustBe ls p → FirstNotFalse t τ MustBe ls q → ¬ (p < q) = λ p q a b h. a.is_not (b.those_before p a.from_one h a.must_be) in
    let h = below p q a b in
    let k = below q p b a in
    omega arith

named_once : (s : State) (x : Step) (p q : ℕ) → NamesNotFalse s x p → NamesNotFalse s x q → p ≡ q
named_once s (Propagate c l τ) p q a b = not_false_once s.trail τ _ (clause_at (clauses s) c).literals p q a b
named_once s (Decide c l g τ zs) p q a b = absurd a
named_once s (Conflict c τ) p q a b = not_false_once s.trail τ _ (clause_at (clauses s) c).literals p q a b
named_once s (Resolve l) p q a b = absurd a
named_once s (Factorize i j) p q a b = absurd a
named_once s Skip p q a b = absurd a
named_once s (Backtrack l) p q a b = absurd a
named_once s (Grow n) p q a b = absurd a
named_once s (Unknown r) p q a b = absurd a

-- ---- what computes the answer

-- What an accepted step has met, and the state it leads to
pub record Accepted (N : Numbers) (s : State) (x : Step) (s' : State) : Type 0 where
  pub possible : Bool
  pub decides : T possible ↔ Possible N s.constants (question s x)
  pub checks : AllOk (asks possible s x)
  pub is : s' ≡ next s x

pub possible_none : (N : Numbers) (n : ℕ) → Possible N n []
possible_none N n = record { value = N.counted; at_zero = N.counted_zero; rising = λ i h k. N.counted_rises i; every = λ a m. absurd (Memᴰ.not-nil m) }

module _ (N : Numbers) where
  pub judged_by : (b : Bool) (s : State) (x : Step) → T b ↔ Possible N s.constants (question s x) → Judged N s x (answer b s x)
  judged_by b s x d = record {
    first_lacking = first_lacking (matched N s b x d);
    next_state = λ e. rw e;
    handed_back = λ e. rw (ne_eqb n accepted e);
    named = λ e. rw e (named x (fault_given not_false (asks b s x) e (λ z. absurd (omega arith))));
    no_place = λ e. rw (ne_eqb n not_false e);
  }
    where
      n : ℕ
      n = first_refusal (asks b s x)

      named : (x : Step) → T (any_of (λ c. eqb c.refusal not_false && not c.ok) (asks b s x)) → NamesNotFalse s x (not_false_place s x)
      named (Propagate c l τ) h =
          let C = clause_at (clauses s) c in
          let g = ground τ (get_or C.literals (l - 1) no_literal) in
          first_not_false s.trail τ (λ m. ¬ (ground τ m ≡ g)) (λ m. same_literal (ground τ m) g || is_false s.trail (ground τ m))
          (λ m k. other_not_false s.trail (ground τ m) g k) (λ m k ne. other_false_out s.trail (ground τ m) g k ne) C.literals
          (or_false (not (others_false s.trail τ g C.literals)) h)
      named (Decide c l g τ zs) h = absurd h
      named (Conflict c τ) h =
          let C = clause_at (clauses s) c in
          first_not_false s.trail τ (λ m. Unit {0}) (λ m. is_false s.trail (ground τ m))
          (λ m k. (tt, not_on_out s.trail (complement (ground τ m)) k)) (λ m k u. on_out s.trail (complement (ground τ m)) k) C.literals
          (or_false (not (all_false s.trail τ C.literals)) h)
      named (Resolve l) h = absurd h
      named (Factorize i k) h = absurd h
      named Skip h = absurd h
      named (Backtrack l) h = absurd h
      named (Grow n) h = absurd h
      named (Unknown r) h = absurd h

  -- ---- what the answer says

  pub number_in_table : NumberInTable N
  number_in_table s x a j = lacking_in_table a.number (conditions N s x) (all_in_table N s x) j.first_lacking

  pub accepted_exactly_if_allowed : AcceptedExactlyIfAllowed N
  accepted_exactly_if_allowed s x a j =
      (λ e. each_holds accepted a.number (conditions N s x) (all_rise N s x) e j.first_lacking, λ h. none_lacking a.number (conditions N s x) h j.first_lacking)

  -- An allowed step's atoms are possible, or it asks for none.
  pub asked_possible : (s : State) (x : Step) → Allowed N s x → Possible N s.constants (question s x)
  asked_possible s (Propagate c l τ) h = h.1.1.1.1.1.0
  asked_possible s (Decide c l g τ zs) h = h.1.1.1.1.1.0
  asked_possible s (Conflict c τ) h = h.1.1.1.1.0
  asked_possible s (Resolve l) h = possible_none N s.constants
  asked_possible s (Factorize i j) h = possible_none N s.constants
  asked_possible s Skip h = possible_none N s.constants
  asked_possible s (Backtrack l) h = h.1.1.1.1.0
  asked_possible s (Grow n) h = possible_none N s.constants
  asked_possible s (Unknown r) h = absurd h.0

  pub acceptance : (s : State) (x : Step) (a : Answer) → Judged N s x a → a.number ≡ accepted → Accepted N s x a.state
  acceptance s x a j e =
      let h = (accepted_exactly_if_allowed s x a j).0 e in
      let d : T true ↔ Possible N s.constants (question s x) = (λ _. asked_possible s x h, λ _. tt) in
      record { possible = true; decides = d; checks = (all_say (matched N s true x d)).1 h; is = j.next_state e }

  pub answer_unique : AnswerUnique N
  answer_unique s x a b j k =
      let n : a.number ≡ b.number = lacking_once a.number b.number (conditions N s x) j.first_lacking k.first_lacking in
      let p : a.place ≡ b.place = elim (ℕ_discrete a.number not_false) [
        | yes e ↦ named_once s x a.place b.place (j.named e) (k.named (sym n ∙ e))
        | no e ↦ j.no_place e ∙ sym (k.no_place (λ f. e (n ∙ f)))
      ] in
      let t : a.state ≡ b.state = elim (ℕ_discrete a.number accepted) [
        | yes e ↦ j.next_state e ∙ sym (k.next_state (sym n ∙ e))
        | no e ↦ j.handed_back e ∙ sym (k.handed_back (λ f. e (n ∙ f)))
      ] in
      λ i. record { number = n i; place = p i; state = t i }
