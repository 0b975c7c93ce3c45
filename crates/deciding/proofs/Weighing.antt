-- What the code has seen, as the calculus's answer to the step.
use mathlib.Core.Path.{◌∙◌, ◌≡◌, ap, refl, subst, sym, transport}
use mathlib.Core.Logic.{◌↔◌}
use mathlib.Core.List.{List, [], ◌++◌, ◌∷◌}
use mathlib.Core.Option.{some}
use mathlib.Core.Bool.{Bool, ◌&&◌, cond, false, not, true}
use Prim.Native.Nat.{◌+◌, ◌-◌, ◌≤◌, min, suc, ℕ}
use native.Mathlib.Omega.{arith}
use lib.Dec.{T, leb, ltb}
use lib.ListN.{length, length-append, length-map, length-take, take}
use lib.Seq.{take_all}
use borrow.Author.Tests.{leb-true}
use Rattle.basis.specs.Atoms.{Possible, no_atom}
use Rattle.basis.specs.Limits.{most_brought, most_entries, most_variables}
use Rattle.basis.specs.Numbers.{whole}
use Rattle.basis.specs.Refusals.{above_limit, already_defined, no_room, no_such, not_possible, out_of_range, wrong_moment}
use Rattle.basis.specs.declared.Atom.{Atom}
use Rattle.basis.specs.declared.Literal.{Literal}
use Rattle.basis.specs.declared.Version.{Version}
use Rattle.lists.proofs.Arrays.{exactly_length, exactly_take, take_exactly}
use Rattle.lists.proofs.Tests.{T→eq}
use Rattle.lists.specs.Lists.{all_of}
use Rattle.calculus.proofs.Answers.{judged_by}
use Rattle.calculus.proofs.Computed.{answer, asks}
use Rattle.calculus.specs.Checks.{between, first_refusal}
use Rattle.calculus.specs.Clauses as calculus
use Rattle.calculus.specs.Rules.{bring, brought_at, decided_literal, is_one, next, question, source_atom, source_atoms, source_in}
use Rattle.calculus.specs.States as states
use Rattle.calculus.specs.States.{State, clause_at, clauses}
use Rattle.calculus.specs.Tests.{atoms_undefined, clause_exists, counts_few, instance_fits, literal_exists, signs_fit, source_fits}
use Rattle.calculus.specs.Trails.{Source, Trail, atoms_of, background, decided, foreground, undefined}
use Rattle.clauses.specs.Records.{clause_of}
use Rattle.trail.proofs.Stored.{records_say}
use Rattle.trail.proofs.Walks.{trail_length}
use Rattle.trail.specs.Entries.{Recorded, entries_of}
use Rattle.trail.specs.declared.Entry.{Entry}
use Rattle.reaching.proofs.Handing as handing
use Rattle.reaching.proofs.Reached.{FineState, brought_proper, fine_short, reached_fine}
use Rattle.testing.specs.Asked.{SeesDecision, WitnessOf}
use Rattle.testing.specs.declared.DecisionSeen.{DecisionSeen}
use Rattle.asking.proofs.Brought.{atoms_named_lem, both_true, brought_are, fits_held, held_named, looked_all, looked_count, right_asked, signs_asked}
use Rattle.asking.proofs.Finding.{held_says}
use Rattle.std.specs.Prelude.{Option}
use Rattle.std.specs.Option.{is_some}
use Rattle.basis.specs.declared.Refusal.{Refusal}
use Rattle.asking.specs.Trying.{given_number}
use Rattle.asking.specs.Looking.{atoms_looked, count_brought, held_at}
use Rattle.asking.specs.Steps.{decide_of, instance_of, sources_in}
use Rattle.asking.specs.declared.Looked.{Looked}
use Rattle.asking.specs.declared.Named.{Named}
use Rattle.asking.specs.declared.Step.{Step}
use Rattle.deciding.specs.Weighing.{Looks, PartsOf, Weighs, atoms_named}
use Rattle.deciding.proofs.Rising.{both, one}

pub brought_long : (cs : List calculus.Clause) (zs : List Source) (t : Trail) → length (bring cs zs t) ≡ length t + length zs
brought_long cs [] t = omega arith
brought_long cs (z ∷ zs) t = omega (arith, brought_long cs zs (background (source_atom cs z) (some z) ∷ t))

-- Two tests of one statement
same_test : {P : Type 0} (a b : Bool) → T a ↔ P → T b ↔ P → a ≡ b
same_test true b f g = sym (T→eq b (g.1 (f.0 tt)))
same_test false true f g = absurd (f.1 (g.0 tt))
same_test false false f g = refl

module _ {es : List Entry} {constants clauses' : ℕ} {standing : Bool} {version : Version} {s : State} (S : PartsOf es constants clauses' standing version s) where
  pub fine : FineState s
  fine = reached_fine s S.reached

  trail_says : entries_of es ≡ s.trail
  trail_says = ap entries_of S.trail_is ∙ records_say s.trail fine.few_entries (fine_short (clauses s) s.constants s.trail fine.entries)

  trail_long : length es ≡ length s.trail
  trail_long = sym (trail_length es (length es)) ∙ ap length trail_says

  pub few_entries : length es ≤ most_entries
  few_entries = omega (arith, trail_long, fine.few_entries)

  exists_is : (c : ℕ) → between 1 clauses' c ≡ clause_exists (clauses s) c
  exists_is c = ap (λ (n : ℕ). between 1 n c) S.clauses_is

  module _ {k : Looked} {names : Named} {x : Step} (L : Looks k names x s) where
    abbrev y : states.Step
    y = decide_of x

    abbrev τ : List ℕ
    τ = take x.count x.instance

    abbrev zs : List Source
    zs = atoms_looked s y

    abbrev C : calculus.Clause
    C = clause_at (clauses s) x.clause

    -- What the step brings, all of it
    abbrev all : List Source
    all = brought_at s (sources_in x.brought x)

    says : clause_of k.clause ≡ held_at (clauses s) x.clause
    says = ap (λ (l : Looked). clause_of l.clause) L.clause ∙ held_says (clauses s) fine.limited x.clause

    -- What the code has seen: the literal, how many atoms there are and how many are looked at, and what they and the trail say
    module _ (long : length x.instance ≡ most_variables) {g : Literal} (g-is : g ≡ decided_literal (clause_of k.clause) (x.literal - 1) (is_one x.sign) τ) {brought n : ℕ} (brought-so : brought ≡ count_brought version x)
        (n-so : n ≡ min most_brought (count_brought version x)) {seen : DecisionSeen} (sees : SeesDecision constants (entries_of es) g (take n names.at) seen) where
      τ-few : take most_variables τ ≡ τ
      τ-few = take_all most_variables τ (omega (arith, length-take x.count x.instance))

      literal-is : g ≡ decided_literal (held_at (clauses s) x.clause) (x.literal - 1) (is_one x.sign) τ
      literal-is = g-is ∙ ap (λ (D : calculus.Clause). decided_literal D (x.literal - 1) (is_one x.sign) τ) says

      first-is : n ≡ min most_brought (count_brought s.version x)
      first-is = n-so ∙ ap (λ (v : Version). min most_brought (count_brought v x)) S.version_is

      count_is : n ≡ length zs
      count_is = first-is ∙ sym (looked_count s x)

      listed-is : take n names.at ≡ atoms_named s zs
      listed-is =
          let counted : length (atoms_named s zs) ≡ n = length-map zs (λ z. source_in (held_at (clauses s) z.clause) z) ∙ sym count_is in
          (λ i. take (sym counted i) (L.atoms i).at) ∙ take_exactly no_atom most_brought (atoms_named s zs) (omega (arith, counted, first-is))

      told : WitnessOf s.constants (atoms_of s.trail ++ atoms_named s zs) seen.witness
      told = transport (λ i. WitnessOf (S.constants_is i) (atoms_of (trail_says i) ++ listed-is i) seen.witness) sees.witness

      -- ---- the number

      whole_is : leb (length (instance_of x)) most_variables ≡ true → τ ≡ instance_of x
      whole_is t = sym (exactly_take 0 x.count x.instance (omega (arith, leb-true (length (instance_of x)) most_variables t, exactly_length 0 x.count x.instance)))

      -- Where the counts are within their limits
      module _ (t : counts_few all ≡ true) where
        few : counts_few (sources_in (count_brought s.version x) x) ≡ true
        few = sym (ap counts_few (brought_are s x)) ∙ t

        all_counted : n ≡ length all
        all_counted = count_is ∙ ap length (looked_all s x few)

        -- .. and the atoms are named rightly
        module _ (f : all_of (source_fits (clauses s) s.constants) all ≡ true) where
          atoms_are : atoms_named s zs ≡ source_atoms (clauses s) all
          atoms_are = ap (atoms_named s) (looked_all s x few) ∙ atoms_named_lem s all f

          asked : WitnessOf s.constants (question s y) seen.witness
          asked = subst (λ (az : List Atom). WitnessOf s.constants (atoms_of s.trail ++ az) seen.witness) atoms_are told

          decides : T (is_some seen.witness) ↔ Possible whole s.constants (question s y)
          decides = ((λ z. (asked.says.0 z).1), λ P. asked.says.1 (record { few_constants = fine.few_constants; proper = brought_proper fine all (subst T (sym f) tt) }, P))

      room-is : counts_few all ≡ true → ltb (length es + n) most_entries ≡ leb (length (next s y).trail) most_entries
      room-is t =
          let grown : suc (length es + n) ≡ length (next s y).trail =
          omega (arith, trail_long, all_counted t, brought_long (clauses s) all (foreground (decided_literal C (x.literal - 1) (is_one x.sign) (instance_of x)) (decided x.clause x.literal (is_one x.sign) (instance_of x) (length all)) ∷ s.trail)) in
          ap (λ (m : ℕ). leb m most_entries) grown

      module _ {a b d : Bool} {n₀ n₁ n₂ n₃ n₄ n₅ n₆ n₇ n₈ n₉ n₁₀ : ℕ}
          (a-is : a ≡ (leb (length τ) most_variables && (between 1 clauses' x.clause && (literal_exists (clause_of k.clause) x.literal && instance_fits constants (clause_of k.clause) τ))))
          (b-is : b ≡ counts_few (sources_in brought x)) (d-is : d ≡ signs_fit (sources_in n x))
          (e₁₀ : n₁₀ ≡ cond (ltb (length es + n) most_entries) 0 no_room) (e₉ : n₉ ≡ cond (is_some seen.witness) n₁₀ not_possible) (e₈ : n₈ ≡ cond seen.fresh n₉ already_defined) (e₇ : n₇ ≡ cond seen.free n₈ already_defined) (e₆ : n₆ ≡ cond names.right n₇ no_such)
          (e₅ : n₅ ≡ cond a n₆ no_such) (e₄ : n₄ ≡ cond (not standing) n₅ wrong_moment) (e₃ : n₃ ≡ cond d n₄ out_of_range) (e₂ : n₂ ≡ cond (leb x.sign 1) n₃ out_of_range) (e₁ : n₁ ≡ cond b n₂ above_limit)
          (e₀ : n₀ ≡ cond (leb x.count most_variables) n₁ above_limit) where
        short-is : leb x.count most_variables ≡ leb (length (instance_of x)) most_variables
        short-is = ap (λ (m : ℕ). leb m most_variables) (sym (exactly_length 0 x.count x.instance))

        few-is : b ≡ counts_few all
        few-is = b-is ∙ ap (λ (m : ℕ). counts_few (sources_in m x)) (brought-so ∙ ap (λ (v : Version). count_brought v x) S.version_is) ∙ ap counts_few (sym (brought_are s x))

        signs_are : counts_few all ≡ true → d ≡ signs_fit all
        signs_are t = d-is ∙ ap (λ (m : ℕ). signs_fit (sources_in m x)) first-is ∙ signs_asked s x (few t)

        named-is : leb (length (instance_of x)) most_variables ≡ true → a ≡ (clause_exists (clauses s) x.clause && (literal_exists C x.literal && instance_fits s.constants C (instance_of x)))
        named-is t =
            a-is ∙ (λ i. (ap (λ (υ : List ℕ). leb (length υ) most_variables) (whole_is t) ∙ t) i && (exists_is x.clause i && (literal_exists (says i) x.literal && instance_fits (S.constants_is i) (says i) (whole_is t i))))
            ∙ fits_held s x.clause (λ D. literal_exists D x.literal && instance_fits s.constants D (instance_of x))

        right_is : counts_few all ≡ true → names.right ≡ all_of (source_fits (clauses s) s.constants) all
        right_is t = ap (λ (q : Named). q.right) L.atoms ∙ right_asked s x (few t)

        free-is : leb (length (instance_of x)) most_variables ≡ true → (clause_exists (clauses s) x.clause && (literal_exists C x.literal && instance_fits s.constants C (instance_of x))) ≡ true
            → seen.free ≡ undefined s.trail (decided_literal C (x.literal - 1) (is_one x.sign) (instance_of x))
        free-is t h =
            let there = (both_true (clause_exists (clauses s) x.clause) (literal_exists C x.literal && instance_fits s.constants C (instance_of x)) h).0 in
            sees.free ∙ (λ i. undefined (trail_says i) (literal-is i)) ∙ (λ i. undefined s.trail (decided_literal (held_named (clauses s) x.clause there i) (x.literal - 1) (is_one x.sign) (whole_is t i)))

        fresh-is : (t : counts_few all ≡ true) → all_of (source_fits (clauses s) s.constants) all ≡ true → seen.fresh ≡ atoms_undefined (atoms_of s.trail) (source_atoms (clauses s) all)
        fresh-is t h = sees.fresh ∙ (λ i. atoms_undefined (atoms_of (trail_says i)) ((listed-is ∙ atoms_are t h) i))

        number_is : (b : Bool) → T b ↔ Possible whole s.constants (question s y) → n₀ ≡ first_refusal (asks b s y)
        number_is q D =
            both (leb x.count most_variables) b _ _ _ e₀ e₁ short-is (λ t₀. few-is) (λ t₀ t₁.
            both (leb x.sign 1) d _ _ _ e₂ e₃ refl (λ t₂. signs_are t₁) (λ t₂ t₃.
            one (not standing) _ _ e₄ (ap not S.stands_is) (λ t₄.
            both a names.right _ _ _ e₅ e₆ (named-is t₀) (λ t₅. right_is t₁) (λ t₅ t₆.
            both seen.free seen.fresh _ _ _ e₇ e₈ (free-is t₀ t₅) (λ t₇. fresh-is t₁ t₆) (λ t₇ t₈.
            one (is_some seen.witness) _ _ e₉ (same_test (is_some seen.witness) q (decides t₁ t₆) D) (λ t₉.
            one (ltb (length es + n) most_entries) _ _ e₁₀ (room-is t₁) (λ t₁₀. refl)))))))

        -- ---- the whole

        pub weighs : {o : Entry} → Recorded o (foreground g (decided x.clause x.literal (is_one x.sign) (take most_variables τ) n)) → {r : Option Refusal} → given_number r ≡ n₀ → Weighs s x (record { own = o; witness = seen.witness; refusal = r; count = n })
        weighs {o} O r-is =
            let (q, D) = handing.decided s y in
            record {
              answer = answer q s y;
              judged = judged_by whole q s y D;
              number = r-is ∙ number_is q D;
              count = count_is;
              own = transport (λ i. Recorded o (foreground (literal-is i) (decided x.clause x.literal (is_one x.sign) (τ-few i) (count_is i)))) O;
              witness = told;
            }
