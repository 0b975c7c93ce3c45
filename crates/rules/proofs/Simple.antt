-- The rules that test no atoms and look at no clause: Grow, Skip, Factorize. Each answer in terms of what the code has seen of the run.
use Rattle.std.specs.Prelude as std
use mathlib.Core.Path.{◌∙◌, ◌≡◌, ap, refl, subst, sym}
use mathlib.Core.List.{List, [], ◌∷◌}
use mathlib.Core.Option.{Option, none}
use mathlib.Core.Bool.{Bool, ◌&&◌, cond, false, not, true}
use Prim.Native.Nat.{◌+◌, ◌-◌, ◌<◌, ◌≤◌, ℕ}
use native.Mathlib.Omega.{arith}
use lib.Dec.{eqb, leb, le→leb, ltb}
use lib.ListN.{get_or, length, set}
use borrow.Author.Tests.{le-leb, leb-false, leb-true, lt-leb, ltb-false, ltb-true, not-false, not-true}
use Rattle.basis.specs.Limits.{most_constants}
use Rattle.basis.specs.Refusals.{no_entry, no_room, no_such, wrong_literal, wrong_moment}
use Rattle.rules.specs.Answers.{RunOf, Told}
use Rattle.rules.specs.Records.{Shown, refused_by, taken_up}
use Rattle.rules.specs.declared.Run.{Run}
use Rattle.calculus.proofs.Class.{factored_limited}
use Rattle.calculus.specs.Class.{Limited}
use Rattle.calculus.specs.Clauses.{same_literal}
use Rattle.calculus.specs.Merging.{factored}
use Rattle.calculus.specs.Tests.{complement_in_conflict, literal_exists}
use Rattle.calculus.specs.Rules.{level_after_skip, literal_instance, next, without_last}
use Rattle.calculus.specs.States.{Factorize, Grow, Skip, State, conflict_of}
use Rattle.calculus.specs.Trails.{Entry, Trail, background, foreground, is_decision}
use Rattle.clauses.proofs.Records.{packed_instanced_says}
use Rattle.clauses.specs.Records.{instanced_of, packed_instanced}
use Rattle.clauses.specs.declared.Instanced.{Instanced}
use Rattle.joining.specs.Fitted.{fitted}
use Rattle.std.specs.Option.{unwrap_or}
use Rattle.merging.specs.Results.{factorized}
use Rattle.rules.proofs.Runs.{accepting, conflict_is, conflict_says, constants_is, fine, fine_conflict, input_is, last_shown, learned_is, level_is, none_shown, packed_as, remade, stands_is, stands_shown, stored, version_is, with_conflict, within}
use Rattle.reaching.proofs.Handing.{hands_none, nothing_asked}
use Rattle.reaching.proofs.Reached.{no_conflict}
use Rattle.rules.proofs.Asking.{as_told, asked, passed}
use Rattle.rules.proofs.Told.{accepted_as, refused}
use Rattle.trail.proofs.Stored.{dropped, stored_none, stored_own}
use Rattle.trail.specs.Entries.{Stored, blank_entry, entry_of, packed_trail, past_end, trail_of}
use Rattle.trail.specs.declared.Entry as entries
use Rattle.calculus.specs.Clauses as calculus
use Rattle.constraint.specs.Witnesses.{packed_given}

-- ---- Grow

module _ {r : Run} {s : State} (R : RunOf r s) (n : ℕ) where
  grow_standing : r.stands ≡ true → Told s (Grow n) (refused_by r wrong_moment)
  grow_standing e = refused R (Grow n) wrong_moment tt tt (λ a. rw (stands_shown R e))

  module _ (e : r.stands ≡ false) where
    grow_by_none : n < 1 → Told s (Grow n) (refused_by r no_such)
    grow_by_none h = refused R (Grow n) no_such tt tt (λ a. simp (stands_shown R e, lt-leb 1 n h))

    grow_no_room : 1 ≤ n → most_constants < r.constants + n → Told s (Grow n) (refused_by r no_room)
    grow_no_room h f = refused R (Grow n) no_room tt tt (λ a. simp (stands_shown R e, le-leb 1 n h, lt-leb (s.constants + n) most_constants (omega (arith, constants_is R))))

    pub grow_accepted : 1 ≤ n → r.constants + n ≤ most_constants → (es : List entries.Entry) → es ≡ packed_trail [] → (w : Shown) → w ≡ packed_given none
        → Told s (Grow n) (accepting (remade r (r.constants + n) 0 0 es r.conflict) w)
    grow_accepted h f es b w w-is = let free = stands_shown R e in accepted_as R (Grow n) true (nothing_asked s (Grow n) refl)
        (rw free tt, (le→leb 1 n h, (le→leb (s.constants + n) most_constants (omega (arith, constants_is R, (fine R).few_constants)), tt))) (hands_none s (Grow n) refl w-is)
        _ (packed_as (next s (Grow n)) (version_is R) (ap (λ (m : ℕ). m + n) (constants_is R)) (input_is R) (learned_is R) refl e (rw b stored_none)
        (conflict_is R ∙ ap (λ (c : Option calculus.Instanced). packed_instanced (conflict_of c)) (no_conflict s.conflict free)))

  module _ {k k₁ k₂ : ℕ} (e₂ : k₂ ≡ cond (leb (r.constants + n) most_constants) 0 no_room) (e₁ : k₁ ≡ cond (ltb 0 n) k₂ no_such) (e₀ : k ≡ cond (not r.stands) k₁ wrong_moment) where
    pub grow_refused : ¬ (k ≡ 0) → Told s (Grow n) (refused_by r k)
    grow_refused h =
        asked (not r.stands) _ _ e₀ (λ f q. as_told q (grow_standing (not-false r.stands f))) (λ t₀ q₀.
        asked (ltb 0 n) _ _ e₁ (λ f q. as_told (q₀ ∙ q) (grow_by_none (not-true r.stands t₀) (omega (arith, ltb-false 0 n f)))) (λ t₁ q₁.
        asked (leb (r.constants + n) most_constants) _ _ e₂ (λ f q. as_told (q₀ ∙ q₁ ∙ q) (grow_no_room (not-true r.stands t₀) (ltb-true 0 n t₁) (leb-false (r.constants + n) most_constants f)))
        (λ t₂ q₂. absurd (h (q₀ ∙ q₁ ∙ q₂)))))

    pub grow_passed : k ≡ 0 → (r.stands ≡ false) × (1 ≤ n) × (r.constants + n ≤ most_constants)
    grow_passed z =
        let (t₀, z₁) = passed (not r.stands) _ _ e₀ tt z in
        let (t₁, z₂) = passed (ltb 0 n) _ _ e₁ tt z₁ in
        let (t₂, z₃) = passed (leb (r.constants + n) most_constants) _ _ e₂ tt z₂ in
        (not-true r.stands t₀, ltb-true 0 n t₁, leb-true (r.constants + n) most_constants t₂)

-- ---- Skip

-- Only the last entry is asked.
last_asked : (N : calculus.Instanced) (e : Entry) (t : Trail) → complement_in_conflict N (e ∷ t) ≡ complement_in_conflict N (e ∷ [])
last_asked N (foreground l o) t = refl
last_asked N (background a o) t = refl

module _ {r : Run} {s : State} (R : RunOf r s) where
  skip_no_conflict : r.stands ≡ false → Told s Skip (refused_by r wrong_moment)
  skip_no_conflict e = refused R Skip wrong_moment tt tt (λ a. rw (stands_shown R e))

  module _ (e : r.stands ≡ true) where
    skip_no_entry : r.length < 1 → Told s Skip (refused_by r no_entry)
    skip_no_entry h = refused R Skip no_entry tt tt (λ a. simp (stands_shown R e, none_shown R h))

    -- The last entry stands in slot i.
    module _ (h : 1 ≤ r.length) (i : ℕ) (i-is : i ≡ r.length - 1) where
      abbrev E : entries.Entry
      E = get_or r.trail i past_end

      last : s.trail ≡ entry_of E ∷ trail_of r.trail i
      last = last_shown R i i-is h

      in-conflict : {a : Bool} → complement_in_conflict (instanced_of r.conflict) (entry_of E ∷ []) ≡ a → complement_in_conflict (conflict_of s.conflict) (entry_of E ∷ trail_of r.trail i) ≡ a
      in-conflict z = last_asked (conflict_of s.conflict) (entry_of E) (trail_of r.trail i) ∙ rw (conflict_says R e) at z

      skip-complement : complement_in_conflict (instanced_of r.conflict) (entry_of E ∷ []) ≡ true → Told s Skip (refused_by r wrong_literal)
      skip-complement z = refused R Skip wrong_literal tt tt (λ a. simp (stands_shown R e, last, in-conflict z))

      pub skip-accepted : complement_in_conflict (instanced_of r.conflict) (entry_of E ∷ []) ≡ false → (m : ℕ) → m ≡ cond (is_decision (entry_of E)) (r.level - 1) r.level → (b : entries.Entry) → b ≡ blank_entry
          → (w : Shown) → w ≡ packed_given none → Told s Skip (accepting (remade r r.constants m i (set r.trail i b) r.conflict) w)
      skip-accepted z m j b b-is w w-is = accepted_as R Skip true (nothing_asked s Skip refl)
          (rw (stands_shown R e) tt, (rw last tt, (rw last (rw (in-conflict z) tt), tt))) (hands_none s Skip refl w-is)
          _ (packed_as (next s Skip) (version_is R) (constants_is R) (input_is R) (learned_is R) level (stands_is R) rest (conflict_is R))
        where
          level : m ≡ level_after_skip s.trail s.level
          level = j ∙ ap (λ (n : ℕ). cond (is_decision (entry_of E)) (n - 1) n) (level_is R) ∙ sym (ap (λ (l : Trail). level_after_skip l s.level) last)

          rest : Stored (set r.trail i b) i (without_last s.trail)
          rest = rw (stored R).says at (dropped r.trail r.length i b (omega (arith, i-is)) b-is (stored_own (stored R)))

  -- The last entry stands in slot i.
  module _ (i : ℕ) (i-is : i ≡ r.length - 1) (z : Bool) (z-is : z ≡ complement_in_conflict (instanced_of r.conflict) (entry_of (get_or r.trail i past_end) ∷ [])) {k k₁ k₂ : ℕ}
      (e₂ : k₂ ≡ cond (not z) 0 wrong_literal) (e₁ : k₁ ≡ cond (ltb 0 r.length) k₂ no_entry) (e₀ : k ≡ cond r.stands k₁ wrong_moment) where
    pub skip_refused : ¬ (k ≡ 0) → Told s Skip (refused_by r k)
    skip_refused h =
        asked r.stands _ _ e₀ (λ f q. as_told q (skip_no_conflict f)) (λ t₀ q₀.
        asked (ltb 0 r.length) _ _ e₁ (λ f q. as_told (q₀ ∙ q) (skip_no_entry t₀ (omega (arith, ltb-false 0 r.length f)))) (λ t₁ q₁.
        asked (not z) _ _ e₂ (λ f q. as_told (q₀ ∙ q₁ ∙ q) (skip-complement t₀ (ltb-true 0 r.length t₁) i i-is (sym z-is ∙ not-false z f)))
        (λ t₂ q₂. absurd (h (q₀ ∙ q₁ ∙ q₂)))))

    pub skip_passed : k ≡ 0 → (r.stands ≡ true) × (1 ≤ r.length) × (complement_in_conflict (instanced_of r.conflict) (entry_of (get_or r.trail i past_end) ∷ []) ≡ false)
    skip_passed o =
        let (t₀, z₁) = passed r.stands _ _ e₀ tt o in
        let (t₁, z₂) = passed (ltb 0 r.length) _ _ e₁ tt z₁ in
        let (t₂, z₃) = passed (not z) _ _ e₂ tt z₂ in
        (t₀, ltb-true 0 r.length t₁, sym z-is ∙ not-true z t₂)

-- ---- Factorize

-- The factored conflict is no larger, so there is room for it.
factorized_is : (N : calculus.Instanced) (i j : ℕ) → Limited N.clause → length N.instance ≡ N.clause.variables → factorized (packed_instanced N) i j ≡ std.Some (packed_instanced (factored N i j))
unfolding factorized fitted
factorized_is N i j l e = simp (packed_instanced_says N l e, within N.clause l, within (factored N i j).clause (factored_limited N i j l))

-- The two literals are two of the instanced clause, and have the same instance.
abbrev pub Two : (i j : ℕ) → calculus.Instanced → Bool
Two i j N = literal_exists N.clause i && (literal_exists N.clause j && not (eqb i j))

abbrev pub Same : (i j : ℕ) → calculus.Instanced → Bool
Same i j N = same_literal (literal_instance N i) (literal_instance N j)

module _ {r : Run} {s : State} (R : RunOf r s) (i j : ℕ) where
  factorize_no_conflict : r.stands ≡ false → Told s (Factorize i j) (refused_by r wrong_moment)
  factorize_no_conflict e = refused R (Factorize i j) wrong_moment tt tt (λ a. rw (stands_shown R e))

  module _ (e : r.stands ≡ true) where
    shown : (P : calculus.Instanced → Bool) {a : Bool} → P (instanced_of r.conflict) ≡ a → P (conflict_of s.conflict) ≡ a
    shown P {a} = subst (λ N. P N ≡ a) (conflict_says R e)

    factorize_no_such : Two i j (instanced_of r.conflict) ≡ false → Told s (Factorize i j) (refused_by r no_such)
    factorize_no_such h = refused R (Factorize i j) no_such tt tt (λ a. simp (stands_shown R e, shown (Two i j) h))

    module _ (h : Two i j (instanced_of r.conflict) ≡ true) where
      factorize-differ : Same i j (instanced_of r.conflict) ≡ false → Told s (Factorize i j) (refused_by r wrong_literal)
      factorize-differ f = refused R (Factorize i j) wrong_literal tt tt (λ a. simp (stands_shown R e, shown (Two i j) h, shown (Same i j) f))

      pub factorize-accepted : Same i j (instanced_of r.conflict) ≡ true → (m : std.Option Instanced) → m ≡ factorized r.conflict (i - 1) (j - 1)
          → (of blank : Instanced) → of ≡ unwrap_or m blank → (w : Shown) → w ≡ packed_given none → Told s (Factorize i j) (taken_up r of w)
      factorize-accepted f m g of blank of-is w w-is = accepted_as R (Factorize i j) true (nothing_asked s (Factorize i j) refl)
          (rw (stands_shown R e) tt, (rw (shown (Two i j) h) tt, (rw (shown (Same i j) f) tt, tt))) (hands_none s (Factorize i j) refl w-is)
          _ (with_conflict R of w (factored (conflict_of s.conflict) (i - 1) (j - 1)) (of-is ∙ ap (λ o. unwrap_or o blank) is))
        where
          is : m ≡ std.Some (packed_instanced (factored (conflict_of s.conflict) (i - 1) (j - 1)))
          is = g ∙ ap (λ (n : Instanced). factorized n (i - 1) (j - 1)) (conflict_is R) ∙ factorized_is (conflict_of s.conflict) (i - 1) (j - 1) (fine_conflict R e).limited (fine_conflict R e).sized.size

  module _ (a b : Bool) (a-is : a ≡ Two i j (instanced_of r.conflict)) (b-is : b ≡ Same i j (instanced_of r.conflict)) {k k₁ k₂ : ℕ}
      (e₂ : k₂ ≡ cond b 0 wrong_literal) (e₁ : k₁ ≡ cond a k₂ no_such) (e₀ : k ≡ cond r.stands k₁ wrong_moment) where
    pub factorize_refused : ¬ (k ≡ 0) → Told s (Factorize i j) (refused_by r k)
    factorize_refused h =
        asked r.stands _ _ e₀ (λ f q. as_told q (factorize_no_conflict f)) (λ t₀ q₀.
        asked a _ _ e₁ (λ f q. as_told (q₀ ∙ q) (factorize_no_such t₀ (sym a-is ∙ f))) (λ t₁ q₁.
        asked b _ _ e₂ (λ f q. as_told (q₀ ∙ q₁ ∙ q) (factorize-differ t₀ (sym a-is ∙ t₁) (sym b-is ∙ f)))
        (λ t₂ q₂. absurd (h (q₀ ∙ q₁ ∙ q₂)))))

    pub factorize_passed : k ≡ 0 → (r.stands ≡ true) × (Two i j (instanced_of r.conflict) ≡ true) × (Same i j (instanced_of r.conflict) ≡ true)
    factorize_passed o =
        let (t₀, z₁) = passed r.stands _ _ e₀ tt o in
        let (t₁, z₂) = passed a _ _ e₁ tt z₁ in
        let (t₂, z₃) = passed b _ _ e₂ tt z₂ in
        (t₀, sym a-is ∙ t₁, sym b-is ∙ t₂)
