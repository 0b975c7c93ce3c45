-- Backtrack: each answer in terms of what the code has seen.
use Rattle.std.specs.Prelude as std
use Rattle.std.specs.Option.{is_some}
use mathlib.Core.Path.{◌∙◌, ◌≡◌, ap, refl, subst, sym}
use mathlib.Core.Logic.{◌↔◌}
use mathlib.Core.List.{List, [], ◌++◌, ◌∷◌}
use mathlib.Core.Bool.{Bool, cond, false, not, true}
use Prim.Native.Nat.{◌+◌, ◌-◌, ◌<◌, ◌≤◌, suc, ℕ}
use native.Mathlib.Omega.{arith}
use lib.Dec.{T, leb, ltb}
use lib.ListN.{length, length-append, length-take, take}
use lib.Seq.{take_all}
use borrow.Author.Tests.{le-leb, le-ltb, lt-leb, lt-ltb, ltb-false, ltb-true, not-false, not-true}
use Rattle.rules.proofs.Asking.{as_told, asked, passed}
use Rattle.rules.proofs.Growing.{appended_stored, backtracked, cut_stored, few_new}
use Rattle.calculus.specs.Clauses as calculus
use Rattle.calculus.specs.Clauses.{ground_atoms, no_instanced, same_literal}
use Rattle.basis.specs.Atoms.{Possible}
use Rattle.basis.specs.Limits.{most_atoms, most_entries, most_learned, most_variables}
use Rattle.basis.specs.Numbers.{whole}
use Rattle.basis.specs.Refusals.{accepted, kept_not_possible, no_room, no_such, not_above, wrong_literal, wrong_moment}
use Rattle.basis.specs.declared.Atom.{Atom}
use Rattle.basis.specs.declared.Literal.{Literal}
use Rattle.lists.proofs.Arrays.{exactly_length}
use Rattle.lists.specs.Lists.{any_of}
use Rattle.rules.specs.Answers.{RunOf, Told}
use Rattle.rules.specs.Records.{Shown, appended_at, refused_by}
use Rattle.rules.specs.declared.Run.{Run}
use Rattle.calculus.specs.Tests.{literal_exists}
use Rattle.calculus.specs.Rules.{back_level, literal_instance, next, other_instances, question}
use Rattle.calculus.specs.States.{Backtrack, State, clauses, conflict_of}
use Rattle.calculus.specs.Trails.{Trail, atoms_of, cut, foreground, level_of, propagated}
use Rattle.clauses.specs.Records.{instanced_of, packed_instanced}
use Rattle.clauses.specs.declared.Instanced.{Instanced}
use Rattle.reaching.proofs.Reached.{kept_proper}
use Rattle.rules.proofs.Runs.{clauses_is, conflict_is, conflict_says, constants_is, fine, fine_conflict, input_is, learned_is, packed_as, standing, stands_is, stored, version_is}
use Rattle.rules.proofs.Testing.{decides, hands}
use Rattle.rules.proofs.Told.{accepted_as, refused, refused_by_lem}
use Rattle.testing.proofs.Gathering.{known_says, step_says, tested_says}
use Rattle.testing.proofs.New.{propagated_new, pushed_length}
use Rattle.testing.specs.Asked.{Gathers, WitnessOf, known_atoms, step_atoms, tested_atoms}
use Rattle.testing.specs.New.{new_atoms, packed_atoms, pushed_atoms}
use Rattle.lists.specs.declared.Held.{Held}
use Rattle.testing.specs.declared.Tested.{Tested}
use Rattle.trail.proofs.Stored.{cut_first, kept_few, stored_own}
use Rattle.trail.proofs.Walks.{trail_length}
use Rattle.trail.specs.Answers.{levels_seen}
use Rattle.trail.specs.Entries.{Recorded, Stored, trail_of}
use Rattle.trail.specs.declared.Entry.{Entry}
use Rattle.trail.specs.declared.LevelsSeen.{LevelsSeen}

-- No more entries are kept than there are.
pub kept_below : (r : Run) (l : ℕ) {v : LevelsSeen} → v ≡ levels_seen (instanced_of r.conflict) l (trail_of r.trail r.length) → v.kept ≤ r.length
kept_below r l e = omega (arith, ap (λ (u : LevelsSeen). u.kept) e, kept_few r.trail (back_level (instanced_of r.conflict) l (trail_of r.trail r.length)) r.length)

module _ {r : Run} {s : State} (R : RunOf r s) (l : ℕ) where
  backtrack_no_conflict : r.stands ≡ false → Told s (Backtrack l) (refused_by r wrong_moment)
  backtrack_no_conflict e = refused R (Backtrack l) wrong_moment tt tt (λ b. rw (sym (stands_is R) ∙ e))

  module _ (e : r.stands ≡ true) where
    abbrev N : calculus.Instanced
    N = conflict_of s.conflict

    abbrev n : calculus.Instanced
    n = instanced_of r.conflict

    -- What the code has seen of the record of the conflict and of the array
    carry : (P : calculus.Instanced → Trail → Type 0) → P n (trail_of r.trail r.length) → P N s.trail
    carry P h = subst (λ (q : calculus.Instanced). P q s.trail) (conflict_says R e) (subst (λ (t : Trail). P n t) (stored R).says h)

    exists : {b : Bool} → literal_exists n.clause l ≡ b → literal_exists N.clause l ≡ b
    exists {b} = carry (λ q t. literal_exists q.clause l ≡ b)

    backtrack_no_such : literal_exists n.clause l ≡ false → Told s (Backtrack l) (refused_by r no_such)
    backtrack_no_such h = refused R (Backtrack l) no_such tt tt (λ b. simp (standing R e, exists h))

    module _ (h₁ : literal_exists n.clause l ≡ true) where
      again-is : {b : Bool} → any_of (same_literal (literal_instance n l)) (other_instances n l) ≡ b → any_of (same_literal (literal_instance N l)) (other_instances N l) ≡ b
      again-is {b} = carry (λ q t. any_of (same_literal (literal_instance q l)) (other_instances q l) ≡ b)

      backtrack-again : any_of (same_literal (literal_instance n l)) (other_instances n l) ≡ true → Told s (Backtrack l) (refused_by r wrong_literal)
      backtrack-again h = refused R (Backtrack l) wrong_literal tt tt (λ b. simp (standing R e, exists h₁, again-is h))

      module _ (h₂ : any_of (same_literal (literal_instance n l)) (other_instances n l) ≡ false) (v : LevelsSeen) (v-is : v ≡ levels_seen n l (trail_of r.trail r.length)) where
        back_is : v.others ≡ back_level N l s.trail
        back_is = carry (λ q t. v.others ≡ back_level q l t) (ap (λ (u : LevelsSeen). u.others) v-is)

        level-of : v.own ≡ level_of (literal_instance N l) s.trail
        level-of = carry (λ q t. v.own ≡ level_of (literal_instance q l) t) (ap (λ (u : LevelsSeen). u.own) v-is)

        backtrack-not-above : v.own ≤ v.others → Told s (Backtrack l) (refused_by r not_above)
        backtrack-not-above h = refused R (Backtrack l) not_above tt tt (λ b. simp (standing R e, exists h₁, again-is h₂, le-ltb (back_level N l s.trail) (level_of (literal_instance N l) s.trail) (omega (arith, back_is, level-of))))

        -- The kept part of the trail
        abbrev t₁ : Trail
        t₁ = cut (back_level N l s.trail) s.trail

        abbrev u₁ : Trail
        u₁ = trail_of r.trail v.kept

        kept-is : u₁ ≡ t₁
        kept-is = ap (λ (u : LevelsSeen). trail_of r.trail u.kept) v-is ∙ cut_first r.trail (back_level n l (trail_of r.trail r.length)) r.length
            ∙ carry (λ q t. cut (back_level n l (trail_of r.trail r.length)) (trail_of r.trail r.length) ≡ cut (back_level q l t) t) refl

        module _ (h₃ : v.others < v.own) (w : Tested) (G : Gathers w (atoms_of u₁) (ground_atoms n.instance n.clause.atoms)) (b : Shown) (d : WitnessOf r.constants (tested_atoms w) b) where
          above : ltb (back_level N l s.trail) (level_of (literal_instance N l) s.trail) ≡ true
          above = lt-ltb (back_level N l s.trail) (level_of (literal_instance N l) s.trail) (omega (arith, back_is, level-of))

          together : tested_atoms w ≡ question s (Backtrack l)
          together = tested_says G ∙ (λ i. atoms_of (kept-is i) ++ ground_atoms (conflict_says R e i).instance (conflict_says R e i).clause.atoms)

          says : T (is_some b) ↔ Possible whole s.constants (question s (Backtrack l))
          says = decides R (Backtrack l) d together (kept_proper (fine R) (back_level N l s.trail) N (fine_conflict R e))

          backtrack-impossible : is_some b ≡ false → Told s (Backtrack l) (refused_by r kept_not_possible)
          backtrack-impossible h = refused_by_lem R (Backtrack l) (is_some b) says kept_not_possible tt tt (simp (standing R e, exists h₁, again-is h₂, above, h))

          module _ (h₄ : is_some b ≡ true) (f : Held Atom most_atoms) (f-is : f ≡ packed_atoms (new_atoms (known_atoms w) (step_atoms w))) (g : Literal) (g-is : g ≡ literal_instance n l) where
            abbrev new : List Atom
            new = new_atoms (known_atoms w) (step_atoms w)

            -- The number of the learned clause
            abbrev m : ℕ
            m = r.input + r.learned + 1

            number : m ≡ suc (length (clauses s))
            number = omega (arith, clauses_is R)

            -- The next trail
            grown : pushed_atoms new (foreground g (propagated m l n.instance) ∷ u₁) ≡ (next s (Backtrack l)).trail
            grown = (λ i. pushed_atoms (new_atoms (known_says G i) (step_says G i)) (foreground (g-is i) (propagated (number i) l n.instance) ∷ u₁))
                ∙ (λ i. let q = conflict_says R e i in pushed_atoms (new_atoms (atoms_of (kept-is i)) (ground_atoms q.instance q.clause.atoms)) (foreground (literal_instance q l) (propagated (suc (length (clauses s))) l q.instance) ∷ kept-is i))
                ∙ sym (propagated_new N.clause (l - 1) N.instance (propagated (suc (length (clauses s))) l N.instance) t₁)

            grown-length : length (next s (Backtrack l)).trail ≡ v.kept + f.n + 1
            grown-length = ap length (sym grown) ∙ pushed_length new (foreground g (propagated m l n.instance) ∷ u₁) ∙ omega (arith, ap (λ (q : Held Atom most_atoms). q.n) f-is, trail_length r.trail v.kept)

            backtrack-long : most_entries ≤ v.kept + f.n → Told s (Backtrack l) (refused_by r no_room)
            backtrack-long h = refused_by_lem R (Backtrack l) (is_some b) says no_room tt tt (simp (standing R e, exists h₁, again-is h₂, above, h₄, lt-leb (length (next s (Backtrack l)).trail) most_entries (omega (arith, grown-length))))

            module _ (h₅ : v.kept + f.n < most_entries) where
              fits : leb (length (next s (Backtrack l)).trail) most_entries ≡ true
              fits = le-leb (length (next s (Backtrack l)).trail) most_entries (omega (arith, grown-length))

              backtrack-no-room : most_learned ≤ r.learned → Told s (Backtrack l) (refused_by r no_room)
              backtrack-no-room h = refused_by_lem R (Backtrack l) (is_some b) says no_room tt tt (simp (standing R e, exists h₁, again-is h₂, above, h₄, fits, lt-leb (suc (length s.learned)) most_learned (omega (arith, learned_is R))))

              backtrack-accepted : r.learned < most_learned → (o : Entry) → Recorded o (foreground g (propagated m l n.instance))
                  → (blank : Instanced) → blank ≡ packed_instanced no_instanced → Told s (Backtrack l) (appended_at (backtracked v.others blank r) v.kept o f (std.Some m) b)
              backtrack-accepted h o E blank none =
                  subst (λ (i : std.Option ℕ). Told s (Backtrack l) (record { run = (appended_at (backtracked v.others blank r) v.kept o f (std.Some m) b).run; number = accepted; place = 0; learned = i; witness = b })) (ap std.Some (sym number))
                  (accepted_as R (Backtrack l) (is_some b) says
                  (simp (standing R e, exists h₁, again-is h₂, above, h₄, fits, le-leb (suc (length s.learned)) most_learned (omega (arith, learned_is R))) (tt, (tt, (tt, (tt, (tt, (tt, tt))))))) (hands R (Backtrack l) d together refl h₄)
                  _ (packed_as (next s (Backtrack l)) (version_is R) (constants_is R) (input_is R) (omega (arith, learned_is R, length-append s.learned (N.clause ∷ []))) back_is refl
                  (subst (Stored (appended_at r v.kept o f (std.Some m) b).run.trail (v.kept + f.n + 1)) grown (appended_stored f new f-is (few_new G f-is) h₅ (cut_stored r.trail r.length v.kept (kept_below r l v-is) (stored_own (stored R))) E)) none))

  module _ (a b : Bool) (a-is : a ≡ literal_exists (instanced_of r.conflict).clause l)
      (b-is : b ≡ any_of (same_literal (literal_instance (instanced_of r.conflict) l)) (other_instances (instanced_of r.conflict) l))
      (v : LevelsSeen) (v-is : v ≡ levels_seen (instanced_of r.conflict) l (trail_of r.trail r.length)) (w : Tested)
      (G : Gathers w (atoms_of (trail_of r.trail v.kept)) (ground_atoms (instanced_of r.conflict).instance (instanced_of r.conflict).clause.atoms)) (p : Shown) (d : WitnessOf r.constants (tested_atoms w) p)
      (f : Held Atom most_atoms) (f-is : f ≡ packed_atoms (new_atoms (known_atoms w) (step_atoms w))) {n n₁ n₂ n₃ n₄ n₅ n₆ : ℕ} (e₆ : n₆ ≡ cond (ltb r.learned most_learned) 0 no_room)
      (e₅ : n₅ ≡ cond (ltb (v.kept + f.n) most_entries) n₆ no_room) (e₄ : n₄ ≡ cond (is_some p) n₅ kept_not_possible) (e₃ : n₃ ≡ cond (ltb v.others v.own) n₄ not_above) (e₂ : n₂ ≡ cond (not b) n₃ wrong_literal)
      (e₁ : n₁ ≡ cond a n₂ no_such) (e₀ : n ≡ cond r.stands n₁ wrong_moment) where
    pub backtrack_refused : ¬ (n ≡ 0) → Told s (Backtrack l) (refused_by r n)
    backtrack_refused h =
        asked r.stands _ _ e₀ (λ f q. as_told q (backtrack_no_conflict f)) (λ t₀ q₀.
        asked a _ _ e₁ (λ f q. as_told (q₀ ∙ q) (backtrack_no_such t₀ (sym a-is ∙ f))) (λ t₁ q₁. let h₁ = sym a-is ∙ t₁ in
        asked (not b) _ _ e₂ (λ f q. as_told (q₀ ∙ q₁ ∙ q) (backtrack-again t₀ h₁ (sym b-is ∙ not-false b f))) (λ t₂ q₂. let h₂ = sym b-is ∙ not-true b t₂ in
        asked (ltb v.others v.own) _ _ e₃ (λ f q. as_told (q₀ ∙ q₁ ∙ q₂ ∙ q) (backtrack-not-above t₀ h₁ h₂ v v-is (ltb-false v.others v.own f))) (λ t₃ q₃. let h₃ = ltb-true v.others v.own t₃ in
        asked (is_some p) _ _ e₄ (λ f q. as_told (q₀ ∙ q₁ ∙ q₂ ∙ q₃ ∙ q) (backtrack-impossible t₀ h₁ h₂ v v-is h₃ w G p d f)) (λ t₄ q₄.
        asked (ltb (v.kept + f.n) most_entries) _ _ e₅
        (λ g q. as_told (q₀ ∙ q₁ ∙ q₂ ∙ q₃ ∙ q₄ ∙ q) (backtrack-long t₀ h₁ h₂ v v-is h₃ w G p d t₄ f f-is (literal_instance (instanced_of r.conflict) l) refl (ltb-false (v.kept + f.n) most_entries g))) (λ t₅ q₅.
        asked (ltb r.learned most_learned) _ _ e₆
        (λ g q. as_told (q₀ ∙ q₁ ∙ q₂ ∙ q₃ ∙ q₄ ∙ q₅ ∙ q) (backtrack-no-room t₀ h₁ h₂ v v-is h₃ w G p d t₄ f f-is (literal_instance (instanced_of r.conflict) l) refl (ltb-true (v.kept + f.n) most_entries t₅) (ltb-false r.learned most_learned g)))
        (λ t₆ q₆. absurd (h (q₀ ∙ q₁ ∙ q₂ ∙ q₃ ∙ q₄ ∙ q₅ ∙ q₆)))))))))

    -- There is room ..
    pub backtrack_fits : n ≡ 0 → (f.n ≤ most_atoms) × (v.kept + f.n < most_entries) × (r.learned < most_learned)
    backtrack_fits o =
        let (t₀, z₁) = passed r.stands _ _ e₀ tt o in
        let (t₁, z₂) = passed a _ _ e₁ tt z₁ in
        let (t₂, z₃) = passed (not b) _ _ e₂ tt z₂ in
        let (t₃, z₄) = passed (ltb v.others v.own) _ _ e₃ tt z₃ in
        let (t₄, z₅) = passed (is_some p) _ _ e₄ tt z₄ in
        let (t₅, z₆) = passed (ltb (v.kept + f.n) most_entries) _ _ e₅ tt z₅ in
        let (t₆, z₇) = passed (ltb r.learned most_learned) _ _ e₆ tt z₆ in
        (few_new G f-is, ltb-true (v.kept + f.n) most_entries t₅, ltb-true r.learned most_learned t₆)

    constants-few : take most_variables (instanced_of r.conflict).instance ≡ (instanced_of r.conflict).instance
    constants-few =
        let room : length r.conflict.instance ≡ most_variables = ap (λ (q : Instanced). length q.instance) (conflict_is R) ∙ exactly_length 0 most_variables (conflict_of s.conflict).instance in
        take_all most_variables (instanced_of r.conflict).instance (omega (arith, room, length-take r.conflict.clause.variables r.conflict.instance))

    -- .. and what is stored is what the rule names.
    pub backtrack_told : n ≡ 0 → (g : Literal) → g ≡ literal_instance (instanced_of r.conflict) l → (e : Entry)
        → Recorded e (foreground g (propagated (r.input + r.learned + 1) l (take most_variables (instanced_of r.conflict).instance))) → (blank : Instanced) → blank ≡ packed_instanced no_instanced
        → Told s (Backtrack l) (appended_at (backtracked v.others blank r) v.kept e f (std.Some (r.input + r.learned + 1)) p)
    backtrack_told o g g-is e E blank none =
        let (t₀, z₁) = passed r.stands _ _ e₀ tt o in
        let (t₁, z₂) = passed a _ _ e₁ tt z₁ in
        let (t₂, z₃) = passed (not b) _ _ e₂ tt z₂ in
        let (t₃, z₄) = passed (ltb v.others v.own) _ _ e₃ tt z₃ in
        let (t₄, z₅) = passed (is_some p) _ _ e₄ tt z₄ in
        let (few, fits, learnable) = backtrack_fits o in
        backtrack-accepted t₀ (sym a-is ∙ t₁) (sym b-is ∙ not-true b t₂) v v-is (ltb-true v.others v.own t₃) w G p d t₄ f f-is g g-is fits learnable e (rw constants-few at E) blank none
