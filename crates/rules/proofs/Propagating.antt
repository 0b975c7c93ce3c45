-- Propagate: each answer in terms of what the code has seen.
use Rattle.std.specs.Prelude as std
use Rattle.std.specs.Option.{is_none, is_some, unwrap_or}
use mathlib.Core.Path.{◌∙◌, ◌≡◌, ap, refl, subst, sym}
use mathlib.Core.Logic.{◌↔◌}
use mathlib.Core.List.{List, ◌∷◌}
use mathlib.Core.Option.{Option}
use mathlib.Core.Bool.{Bool, ◌&&◌, cond, false, not, true}
use Prim.Native.Nat.{◌+◌, ◌-◌, ◌<◌, ◌≤◌, ℕ}
use native.Mathlib.Omega.{arith}
use lib.Dec.{T, eqb, leb, ltb}
use lib.ListN.{get_or, length, length-take, take}
use lib.Seq.{take_all}
use borrow.Author.Tests.{le-leb, leb-false, leb-true, lt-leb, ltb-false, ltb-true, not-false, not-true}
use Rattle.rules.proofs.Asking.{and_so, asked, none, other_told, passed, place_told, some}
use Rattle.calculus.specs.Clauses as calculus
use Rattle.basis.specs.Atoms.{Possible}
use Rattle.basis.specs.Limits.{most_atoms, most_entries, most_variables}
use Rattle.basis.specs.Numbers.{whole}
use Rattle.basis.specs.Refusals.{above_limit, already_defined, no_room, no_such, not_false, not_possible, wrong_moment}
use Rattle.basis.specs.declared.Atom.{Atom}
use Rattle.basis.specs.declared.Literal.{Literal}
use Rattle.lists.specs.Arrays.{exactly}
use Rattle.rules.specs.Answers.{RunOf, Told}
use Rattle.asking.specs.Looking.{looked_at}
use Rattle.rules.specs.Records.{RunAnswer, Shown, appended_at, refused_at, refused_by}
use Rattle.asking.specs.declared.Looked.{Looked}
use Rattle.rules.specs.declared.Run.{Run}
use Rattle.calculus.specs.Checks.{between}
use Rattle.calculus.specs.Clauses.{ground, ground_atoms, no_literal}
use Rattle.calculus.specs.Tests.{clause_exists, instance_fits, literal_exists, others_false}
use Rattle.calculus.specs.Rules.{next, question}
use Rattle.calculus.specs.States.{Propagate, State, Step, clause_at, clauses, conflict_of, stands}
use Rattle.calculus.specs.Trails.{atoms_of, foreground, propagated, undefined}
use Rattle.clauses.specs.Records.{clause_of, packed, packed_instanced}
use Rattle.rules.proofs.Growing.{appended_stored, cut_stored, few_new}
use Rattle.rules.proofs.Naming.{and_true, asked_is, instance_is, instance_long, instance_short, looks_named, named_there}
use Rattle.reaching.proofs.Reached.{named_proper, no_conflict}
use Rattle.rules.proofs.Runs.{conflict_is, constants_is, fine, input_is, learned_is, level_is, packed_as, standing, stands_is, stored, version_is}
use Rattle.rules.proofs.Testing.{carry, decides, hands, tested}
use Rattle.rules.proofs.Told.{accepted_as, refused, refused_at_lem, refused_by_lem}
use Rattle.testing.proofs.Gathering.{known_says, step_says}
use Rattle.testing.proofs.New.{propagated_new, pushed_length}
use Rattle.testing.specs.Asked.{Gathers, WitnessOf, known_atoms, step_atoms, tested_atoms}
use Rattle.testing.specs.New.{new_atoms, packed_atoms, pushed_atoms}
use Rattle.lists.specs.declared.Held.{Held}
use Rattle.testing.specs.declared.Tested.{Tested}
use Rattle.trail.proofs.NotFalse.{its_number, none_fails, one_fails}
use Rattle.trail.proofs.Stored.{stored_own}
use Rattle.trail.proofs.Walks.{trail_length}
use Rattle.trail.specs.Answers.{first_number, literals_seen, passes}
use Rattle.trail.specs.Entries.{Recorded, Stored, trail_of}
use Rattle.trail.specs.declared.Entry.{Entry}
use Rattle.trail.specs.declared.LiteralsSeen.{LiteralsSeen}

-- The number that is given by the first condition that does not hold, or 0
abbrev pub propagate_number : Bool → Bool → Bool → Bool → Bool → Bool → Bool → ℕ
propagate_number few free named undefined others_false possible fits =
    cond few (cond free (cond named (cond undefined (cond others_false (cond possible (cond fits 0 no_room) not_possible) not_false) already_defined) no_such) wrong_moment) above_limit

module _ {r : Run} {s : State} (R : RunOf r s) (k : Looked) (c l count : ℕ) (ι : List ℕ) (long : length ι ≡ 12) {τ : List ℕ} (read : τ ≡ take count ι) where
  propagate_long : most_variables < count → Told s (Propagate c l (exactly count 0 ι)) (refused_by r above_limit)
  propagate_long h = refused R (Propagate c l (exactly count 0 ι)) above_limit tt tt (λ b. rw (instance_long count ι h))

  module _ (h₁ : count ≤ most_variables) where
    abbrev x : Step
    x = Propagate c l τ

    given : {a : RunAnswer} → Told s x a → Told s (Propagate c l (exactly count 0 ι)) a
    given {a} = subst (λ (ρ : List ℕ). Told s (Propagate c l ρ) a) (read ∙ sym (instance_is count ι (omega arith)))

    short : leb (length τ) most_variables ≡ true
    short = rw read (instance_short count ι (omega arith) h₁)

    propagate_standing : r.stands ≡ true → Told s (Propagate c l (exactly count 0 ι)) (refused_by r wrong_moment)
    propagate_standing h = given (refused R x wrong_moment tt tt (λ b. simp (short, standing R h)))

    module _ (h₂ : r.stands ≡ false) (handed : k ≡ looked_at s (Propagate c l (exactly count 0 ι))) where
      looks : T (clause_exists (clauses s) c) → k.clause ≡ packed (clause_at (clauses s) c)
      looks = looks_named s k c handed

      free : stands s.conflict ≡ false
      free = sym (stands_is R) ∙ h₂

      abbrev C : calculus.Clause
      C = clause_at (clauses s) c

      abbrev g : Literal
      g = ground τ (get_or C.literals (l - 1) no_literal)

      -- What the code asks of the numbers
      abbrev Named : Bool
      Named = between 1 (r.input + r.learned) c && (literal_exists (clause_of k.clause) l && instance_fits r.constants (clause_of k.clause) τ)

      named : {b : Bool} → Named ≡ b → (clause_exists (clauses s) c && (literal_exists C l && instance_fits s.constants C τ)) ≡ b
      named h = sym (asked_is R k.clause c looks (λ n D. literal_exists D l && instance_fits n D τ)) ∙ h

      propagate-no-such : Named ≡ false → Told s (Propagate c l (exactly count 0 ι)) (refused_by r no_such)
      propagate-no-such h = given (refused R x no_such tt tt (λ b. simp (short, free, named h)))

      module _ (h₃ : Named ≡ true) (m : Literal) (m-is : m ≡ ground τ (get_or (clause_of k.clause).literals (l - 1) no_literal)) where
        there : between 1 (r.input + r.learned) c ≡ true
        there = (and_true (between 1 (r.input + r.learned) c) (literal_exists (clause_of k.clause) l && instance_fits r.constants (clause_of k.clause) τ) h₃).0

        fits : instance_fits s.constants C τ ≡ true
        fits = (and_true (literal_exists C l) (instance_fits s.constants C τ) (and_true (clause_exists (clauses s) c) (literal_exists C l && instance_fits s.constants C τ) (named h₃)).1).1

        own : m ≡ g
        own = carry R k.clause c looks there (λ D t. m ≡ ground τ (get_or D.literals (l - 1) no_literal)) m-is

        open-yet : {b : Bool} → undefined (trail_of r.trail r.length) m ≡ b → undefined s.trail g ≡ b
        open-yet {b} h = subst (λ (q : Literal). undefined s.trail q ≡ b) own (carry R k.clause c looks there (λ D t. undefined t m ≡ b) h)

        propagate-defined : undefined (trail_of r.trail r.length) m ≡ false → Told s (Propagate c l (exactly count 0 ι)) (refused_by r already_defined)
        propagate-defined h = given (refused R x already_defined tt tt (λ b. simp (short, free, named h₃, open-yet h)))

        module _ (h₄ : undefined (trail_of r.trail r.length) m ≡ true) (p : std.Option ℕ) (p-is : p ≡ first_number (passes (std.Some m) (trail_of r.trail r.length) τ) (clause_of k.clause).literals) where
          number_is : p ≡ first_number (passes (std.Some g) s.trail τ) C.literals
          number_is = subst (λ (q : Literal). p ≡ first_number (passes (std.Some q) s.trail τ) C.literals) own (carry R k.clause c looks there (λ D t. p ≡ first_number (passes (std.Some m) t τ) D.literals) p-is)

          propagate-not-false : (i : ℕ) → p ≡ std.Some i → Told s (Propagate c l (exactly count 0 ι)) (refused_at r i)
          propagate-not-false i h = given (refused_at_lem R x i (sym (its_number (passes (std.Some g) s.trail τ) C.literals i (sym number_is ∙ h)))
              (λ b. simp (short, free, named h₃, open-yet h₄, one_fails (passes (std.Some g) s.trail τ) C.literals i (sym number_is ∙ h))))

          module _ (h₅ : p ≡ std.None) (w : Tested) (G : Gathers w (atoms_of (trail_of r.trail r.length)) (ground_atoms τ (clause_of k.clause).atoms)) (b : Shown) (d : WitnessOf r.constants (tested_atoms w) b) where
            others : others_false s.trail τ g C.literals ≡ true
            others = none_fails (passes (std.Some g) s.trail τ) C.literals (sym number_is ∙ h₅)

            together : tested_atoms w ≡ question s x
            together = tested R k.clause c looks there τ w G

            says : T (is_some b) ↔ Possible whole s.constants (question s x)
            says = decides R x d together (named_proper (fine R) c τ (named_there R k.clause c looks there) (subst T (sym fits) tt))

            propagate-impossible : is_some b ≡ false → Told s (Propagate c l (exactly count 0 ι)) (refused_by r not_possible)
            propagate-impossible h = given (refused_by_lem R x (is_some b) says not_possible tt tt (simp (short, free, named h₃, open-yet h₄, others, h)))

            module _ (h₆ : is_some b ≡ true) (f : Held Atom most_atoms) (f-is : f ≡ packed_atoms (new_atoms (known_atoms w) (step_atoms w))) where
              abbrev new : List Atom
              new = new_atoms (known_atoms w) (step_atoms w)

              -- The next trail
              grown : (next s x).trail ≡ pushed_atoms new (foreground m (propagated c l τ) ∷ trail_of r.trail r.length)
              grown = propagated_new C (l - 1) τ (propagated c l τ) s.trail
                  ∙ (λ i. pushed_atoms (new_atoms (atoms_of s.trail) (ground_atoms τ C.atoms)) (foreground (sym own i) (propagated c l τ) ∷ s.trail))
                  ∙ sym (carry R k.clause c looks there (λ D t. pushed_atoms new (foreground m (propagated c l τ) ∷ trail_of r.trail r.length) ≡ pushed_atoms (new_atoms (atoms_of t) (ground_atoms τ D.atoms)) (foreground m (propagated c l τ) ∷ t))
                  (λ i. pushed_atoms (new_atoms (known_says G i) (step_says G i)) (foreground m (propagated c l τ) ∷ trail_of r.trail r.length)))

              grown-length : length (next s x).trail ≡ r.length + f.n + 1
              grown-length = ap length grown ∙ pushed_length new (foreground m (propagated c l τ) ∷ trail_of r.trail r.length)
                  ∙ omega (arith, ap (λ (q : Held Atom most_atoms). q.n) f-is, trail_length r.trail r.length)

              propagate-no-room : most_entries ≤ r.length + f.n → Told s (Propagate c l (exactly count 0 ι)) (refused_by r no_room)
              propagate-no-room h = given (refused_by_lem R x (is_some b) says no_room tt tt (simp (short, free, named h₃, open-yet h₄, others, h₆, lt-leb (length (next s x).trail) most_entries (omega (arith, grown-length)))))

              propagate-accepted : r.length + f.n < most_entries → (e : Entry) → Recorded e (foreground m (propagated c l τ)) → Told s (Propagate c l (exactly count 0 ι)) (appended_at r r.length e f std.None b)
              propagate-accepted h e E = given (accepted_as R x (is_some b) says
                  (simp (short, free, named h₃, open-yet h₄, others, h₆, le-leb (length (next s x).trail) most_entries (omega (arith, grown-length))) (tt, (tt, (tt, (tt, (tt, (tt, (tt, tt)))))))) (hands R x d together refl h₆)
                  _ (packed_as (next s x) (version_is R) (constants_is R) (input_is R) (learned_is R) (level_is R) h₂
                  (subst (Stored (appended_at r r.length e f std.None b).run.trail (r.length + f.n + 1)) (sym grown) (appended_stored f new f-is (few_new G f-is) h (cut_stored r.trail r.length r.length (omega arith) (stored_own (stored R))) E))
                  (conflict_is R ∙ ap (λ (q : Option calculus.Instanced). packed_instanced (conflict_of q)) (no_conflict s.conflict free))))

  module _ (handed : k ≡ looked_at s (Propagate c l (exactly count 0 ι))) (a : Bool)
      (a-is : a ≡ (leb (length τ) most_variables && (between 1 (r.input + r.learned) c && (literal_exists (clause_of k.clause) l && instance_fits r.constants (clause_of k.clause) τ))))
      (m : Literal) (m-is : m ≡ ground τ (get_or (clause_of k.clause).literals (l - 1) no_literal)) (v : LiteralsSeen) (v-is : v ≡ literals_seen (trail_of r.trail r.length) (clause_of k.clause) τ true m)
      (w : Tested) (G : Gathers w (atoms_of (trail_of r.trail r.length)) (ground_atoms τ (clause_of k.clause).atoms)) (b : Shown) (d : WitnessOf r.constants (tested_atoms w) b)
      (f : Held Atom most_atoms) (f-is : f ≡ packed_atoms (new_atoms (known_atoms w) (step_atoms w))) {n n₁ n₂ n₃ n₄ n₅ n₆ : ℕ}
      (e₆ : n₆ ≡ cond (ltb (r.length + f.n) most_entries) 0 no_room) (e₅ : n₅ ≡ cond (is_some b) n₆ not_possible) (e₄ : n₄ ≡ cond (is_none v.first) n₅ not_false) (e₃ : n₃ ≡ cond v.free n₄ already_defined)
      (e₂ : n₂ ≡ cond a n₃ no_such) (e₁ : n₁ ≡ cond (not r.stands) n₂ wrong_moment) (e₀ : n ≡ cond (leb count most_variables) n₁ above_limit) where
    is_named : leb count most_variables ≡ true → {q : Bool} → a ≡ q
        → (between 1 (r.input + r.learned) c && (literal_exists (clause_of k.clause) l && instance_fits r.constants (clause_of k.clause) τ)) ≡ q
    is_named t e = and_so (leb (length τ) most_variables) (between 1 (r.input + r.learned) c && (literal_exists (clause_of k.clause) l && instance_fits r.constants (clause_of k.clause) τ)) (short (leb-true count most_variables t)) a-is e

    is_free : {q : Bool} → v.free ≡ q → undefined (trail_of r.trail r.length) m ≡ q
    is_free e = sym (ap (λ (u : LiteralsSeen). u.free) v-is) ∙ e

    is_first : v.first ≡ first_number (passes (std.Some m) (trail_of r.trail r.length) τ) (clause_of k.clause).literals
    is_first = ap (λ (u : LiteralsSeen). u.first) v-is

    pub propagate_refused : ¬ (n ≡ 0) → Told s (Propagate c l (exactly count 0 ι)) (cond (eqb n not_false) (refused_at r (unwrap_or v.first 0)) (refused_by r n))
    propagate_refused h =
        asked (leb count most_variables) _ _ e₀ (λ f q. other_told (unwrap_or v.first 0) q tt (propagate_long (leb-false count most_variables f))) (λ t₀ q₀. let h₁ = leb-true count most_variables t₀ in
        asked (not r.stands) _ _ e₁ (λ f q. other_told (unwrap_or v.first 0) (q₀ ∙ q) tt (propagate_standing h₁ (not-false r.stands f))) (λ t₁ q₁. let h₂ = not-true r.stands t₁ in
        asked a _ _ e₂ (λ f q. other_told (unwrap_or v.first 0) (q₀ ∙ q₁ ∙ q) tt (propagate-no-such h₁ h₂ handed (is_named t₀ f))) (λ t₂ q₂. let h₃ = is_named t₀ t₂ in
        asked v.free _ _ e₃ (λ f q. other_told (unwrap_or v.first 0) (q₀ ∙ q₁ ∙ q₂ ∙ q) tt (propagate-defined h₁ h₂ handed h₃ m m-is (is_free f))) (λ t₃ q₃. let h₄ = is_free t₃ in
        asked (is_none v.first) _ _ e₄ (λ f q. place_told (unwrap_or v.first 0) (q₀ ∙ q₁ ∙ q₂ ∙ q₃ ∙ q) (propagate-not-false h₁ h₂ handed h₃ m m-is h₄ v.first is_first (unwrap_or v.first 0) (some v.first f)))
        (λ t₄ q₄. let h₅ = none v.first t₄ in
        asked (is_some b) _ _ e₅ (λ f q. other_told (unwrap_or v.first 0) (q₀ ∙ q₁ ∙ q₂ ∙ q₃ ∙ q₄ ∙ q) tt (propagate-impossible h₁ h₂ handed h₃ m m-is h₄ v.first is_first h₅ w G b d f)) (λ t₅ q₅.
        asked (ltb (r.length + f.n) most_entries) _ _ e₆
        (λ g q. other_told (unwrap_or v.first 0) (q₀ ∙ q₁ ∙ q₂ ∙ q₃ ∙ q₄ ∙ q₅ ∙ q) tt (propagate-no-room h₁ h₂ handed h₃ m m-is h₄ v.first is_first h₅ w G b d t₅ f f-is (ltb-false (r.length + f.n) most_entries g)))
        (λ t₆ q₆. absurd (h (q₀ ∙ q₁ ∙ q₂ ∙ q₃ ∙ q₄ ∙ q₅ ∙ q₆)))))))))

    -- There is room ..
    pub propagate_fits : n ≡ 0 → (f.n ≤ most_atoms) × (r.length + f.n < most_entries) × (r.length ≤ most_entries)
    propagate_fits o =
        let (t₀, z₁) = passed (leb count most_variables) _ _ e₀ tt o in
        let (t₁, z₂) = passed (not r.stands) _ _ e₁ tt z₁ in
        let (t₂, z₃) = passed a _ _ e₂ tt z₂ in
        let (t₃, z₄) = passed v.free _ _ e₃ tt z₃ in
        let (t₄, z₅) = passed (is_none v.first) _ _ e₄ tt z₄ in
        let (t₅, z₆) = passed (is_some b) _ _ e₅ tt z₅ in
        let (t₆, z₇) = passed (ltb (r.length + f.n) most_entries) _ _ e₆ tt z₆ in
        (few_new G f-is, ltb-true (r.length + f.n) most_entries t₆, (stored R).few)

    -- .. and what is stored is what the rule names.
    few : take most_variables τ ≡ τ
    few = take_all most_variables τ (omega (arith, ap length read, length-take count ι))

    pub propagate_told : n ≡ 0 → (e : Entry) → Recorded e (foreground m (propagated c l (take most_variables τ))) → Told s (Propagate c l (exactly count 0 ι)) (appended_at r r.length e f std.None b)
    propagate_told o e E =
        let (t₀, z₁) = passed (leb count most_variables) _ _ e₀ tt o in
        let (t₁, z₂) = passed (not r.stands) _ _ e₁ tt z₁ in
        let (t₂, z₃) = passed a _ _ e₂ tt z₂ in
        let (t₃, z₄) = passed v.free _ _ e₃ tt z₃ in
        let (t₄, z₅) = passed (is_none v.first) _ _ e₄ tt z₄ in
        let (t₅, z₆) = passed (is_some b) _ _ e₅ tt z₅ in
        propagate-accepted (leb-true count most_variables t₀) (not-true r.stands t₁) handed (is_named t₀ t₂) m m-is (is_free t₃) v.first is_first (none v.first t₄) w G b d t₅ f f-is (propagate_fits o).1 e (rw few at E)
