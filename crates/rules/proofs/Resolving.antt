-- Resolve: the last entry's reason is read off its step, and the limits are counted on the resolvent.
use Rattle.std.specs.Prelude as std
use mathlib.Core.Path.{◌∙◌, ◌≡◌, ap, refl, subst, sym}
use mathlib.Core.List.{List, Memᴰ, [], ◌∷◌}
use mathlib.Core.Option.{none, some}
use mathlib.Core.Bool.{Bool, cond, false, true}
use Prim.Native.Nat.{◌-◌, ◌<◌, ◌≤◌, suc, zero, ℕ}
use native.Mathlib.Omega.{arith}
use lib.Dec.{T, ltb}
use borrow.Author.Tests.{ltb-false, ltb-true}
use lib.ListN.{get_or, length, take}
use lib.Seq.{take-length}
use Rattle.basis.specs.Limits.{most_literals}
use Rattle.basis.specs.Refusals.{no_entry, no_room, no_such, wrong_literal, wrong_moment}
use Rattle.basis.specs.declared.Literal.{Literal}
use Rattle.lists.proofs.Tests.{and_l, and_r}
use Rattle.rules.specs.Answers.{RunOf, Told}
use Rattle.asking.specs.Looking.{held_at, last_named, looked_at}
use Rattle.rules.specs.Records.{Shown, packed_run, refused_by, taken_up}
use Rattle.asking.specs.Kinds.{is_propagated}
use Rattle.asking.specs.declared.Looked.{Looked}
use Rattle.rules.specs.declared.Run.{Run}
use Rattle.calculus.proofs.Class.{limited_of, placed}
use Rattle.calculus.proofs.Derived.{reason_sized}
use Rattle.calculus.proofs.Instances.{Sized}
use Rattle.calculus.proofs.Levels.{clause_held, instance_sized, number_below}
use Rattle.calculus.specs.Class.{Limited, within_limits}
use Rattle.calculus.specs.Clauses.{complement, ground, no_literal, same_literal}
use Rattle.calculus.specs.Merging.{Reason, merge, own_pairs, reason, reason_literals, resolvent}
use Rattle.calculus.specs.Tests.{instance_fits, last_is_propagated, literal_exists}
use Rattle.calculus.specs.Rules.{last_literal, last_reason, literal_instance, next}
use Rattle.calculus.specs.States.{Resolve, State, clause_at, clauses, conflict_of, updated}
use Rattle.calculus.specs.Trails.{Trail, foreground, propagated}
use Rattle.clauses.proofs.Records.{packed_instanced_says, packed_says}
use Rattle.clauses.specs.Records.{clause_of, instanced_of, packed, packed_instanced}
use Rattle.clauses.specs.declared.Clause.{Clause}
use Rattle.clauses.specs.declared.Instanced.{Instanced}
use Rattle.joining.specs.Fitted.{fitted}
use Rattle.std.specs.Option.{is_some, unwrap_or}
use Rattle.merging.proofs.Own.{stay_few}
use Rattle.merging.proofs.Whole.{merge_limits}
use Rattle.merging.specs.Results.{reason_of, resolved}
use Rattle.reaching.proofs.Reached.{AllFine, Fine}
use Rattle.rules.proofs.Asking.{as_told, asked, passed}
use Rattle.rules.proofs.Naming.{looks_named}
use Rattle.rules.proofs.Runs.{conflict_is, conflict_says, fine, fine_conflict, last_shown, none_shown, stands_shown, with_conflict, within}
use Rattle.reaching.proofs.Handing.{hands_none, nothing_asked}
use Rattle.rules.proofs.Told.{accepted_as, refused}
use Rattle.trail.specs.Entries.{entry_as, entry_of, past_end, trail_of}
use Rattle.trail.specs.declared.Kind.{Kind}
use Rattle.merging.specs.declared.Reason as reasons
use Rattle.calculus.specs.Clauses as calculus
use Rattle.trail.specs.declared.Entry as entries
use Rattle.trail.specs.declared.Kind.TheVariants.{Background, Brought, Propagated, Decided}
use Rattle.constraint.specs.Witnesses.{packed_given}

-- ---- the reason has room

fits_is : (N : calculus.Instanced) → is_some (fitted N) ≡ within_limits N.clause
unfolding fitted
fits_is N = go (within_limits N.clause)
  where
    go : (b : Bool) → is_some (cond b (std.Some (packed_instanced N)) std.None) ≡ b
    go true = refl
    go false = refl

fitted_of : (N : calculus.Instanced) (blank : Instanced) → within_limits N.clause ≡ true → unwrap_or (fitted N) blank ≡ packed_instanced N
unfolding fitted
fitted_of N blank e = rw e

reason_limited : (C : calculus.Clause) (i : ℕ) (τ : List ℕ) → Limited C → Limited (reason C i τ).of.clause
unfolding reason
reason_limited C i τ l =
    let L = get_or C.literals i no_literal in
    let g = ground τ L in
    let N = merge (own_pairs τ g L C.literals) C.variables C.atoms (reason_literals τ g i C.literals) τ in
    let few : length (reason_literals τ g i C.literals) ≤ most_literals = omega (arith, ap (λ (ls : List Literal). length (reason_literals τ g i ls)) (take-length C.literals), stay_few τ g i C.literals (length C.literals), l.few_literals) in
    limited_of N.clause (subst T (sym (sym (fits_is N) ∙ ap is_some (merge_limits (own_pairs τ g L C.literals) C.variables C.atoms (reason_literals τ g i C.literals) τ l.few_variables l.few_atoms few))) tt)

-- ---- the last entry

last_propagated : (e : entries.Entry) (t : Trail) → last_is_propagated (entry_of e ∷ t) ≡ is_propagated e.kind
last_propagated e t = go e.kind
  where
    go : (k : Kind) → last_is_propagated (entry_as k e ∷ t) ≡ is_propagated k
    go Background = refl
    go Brought = refl
    go Propagated = refl
    go Decided = refl

kind_propagated : (k : Kind) → is_propagated k ≡ true → k ≡ Propagated
kind_propagated Background e = absurd (let z : ◌≡◌ {A = ℕ} 0 1 = cc in omega arith)
kind_propagated Brought e = absurd (let z : ◌≡◌ {A = ℕ} 0 1 = cc in omega arith)
kind_propagated Propagated e = refl
kind_propagated Decided e = absurd (let z : ◌≡◌ {A = ℕ} 0 1 = cc in omega arith)

take_again : {A : Type 0} (n v : ℕ) (l : List A) → length (take n l) ≡ v → take v l ≡ take n l
take_again {A = A} n v l e = ap (λ (k : ℕ). take k l) (sym e) ∙ short n l
  where
    short : (n : ℕ) (l : List A) → take (length (take n l)) l ≡ take n l
    short zero l = refl
    short (suc n) [] = refl
    short (suc n) (x ∷ l) = ap {B = List A} (λ r. x ∷ r) (short n l)

-- The reason that the code makes of the handed clause, and the resolvent that it makes with it
reason_of_is : (C : calculus.Clause) (i : ℕ) (τ : List ℕ) → Limited C → reason_of (packed C) i τ ≡ record { of = packed_instanced (reason C i (take C.variables τ)).of; own = (reason C i (take C.variables τ)).own }
unfolding reason_of
reason_of_is C i τ l = simp (packed_says C l, within C l)

resolved_is : (N R : calculus.Instanced) (j i : ℕ) → Limited N.clause → length N.instance ≡ N.clause.variables → Limited R.clause → length R.instance ≡ R.clause.variables
    → resolved (packed_instanced N) j (packed_instanced R) i ≡ fitted (resolvent N j R i)
unfolding resolved
resolved_is N R j i l e k f = simp (packed_instanced_says N l e, packed_instanced_says R k f, within N.clause l, within R.clause k)

module _ {r : Run} {s : State} (R : RunOf r s) (k : Looked) (l : ℕ) where
  resolve_no_conflict : r.stands ≡ false → Told s (Resolve l) (refused_by r wrong_moment)
  resolve_no_conflict e = refused R (Resolve l) wrong_moment tt tt (λ a. rw (stands_shown R e))

  abbrev N : calculus.Instanced
  N = conflict_of s.conflict

  module _ (e : r.stands ≡ true) where
    exists : {a : Bool} → literal_exists (clause_of r.conflict.clause) l ≡ a → literal_exists N.clause l ≡ a
    exists {a} = subst (λ (n : calculus.Instanced). literal_exists n.clause l ≡ a) (conflict_says R e)

    resolve_no_such : literal_exists (clause_of r.conflict.clause) l ≡ false → Told s (Resolve l) (refused_by r no_such)
    resolve_no_such h = refused R (Resolve l) no_such tt tt (λ a. simp (stands_shown R e, exists h))

    module _ (h : literal_exists (clause_of r.conflict.clause) l ≡ true) where
      resolve-no-entry : r.length < 1 → Told s (Resolve l) (refused_by r no_entry)
      resolve-no-entry f = refused R (Resolve l) no_entry tt tt (λ a. simp (stands_shown R e, exists h, none_shown R f))

      -- The last entry stands in slot j.
      module _ (f : 1 ≤ r.length) (j : ℕ) (j-is : j ≡ r.length - 1) where
        abbrev E : entries.Entry
        E = get_or r.trail j past_end

        abbrev τ : List ℕ
        τ = take E.count E.instance

        last : s.trail ≡ entry_of E ∷ trail_of r.trail j
        last = last_shown R j j-is f

        last-is : {a : Bool} → is_propagated E.kind ≡ a → last_is_propagated s.trail ≡ a
        last-is p = ap last_is_propagated last ∙ last_propagated E (trail_of r.trail j) ∙ p

        resolve-not-propagated : is_propagated E.kind ≡ false → Told s (Resolve l) (refused_by r no_entry)
        resolve-not-propagated p = refused R (Resolve l) no_entry tt tt (λ a. simp (stands_shown R e, exists h, last-is p))

        module _ (p : is_propagated E.kind ≡ true) where
          -- The last entry, taken apart
          split : s.trail ≡ foreground E.literal (propagated E.clause E.number τ) ∷ trail_of r.trail j
          split = last ∙ ap (λ (o : Kind). entry_as o E ∷ trail_of r.trail j) (kind_propagated E.kind p)

          same : {a : Bool} → same_literal (complement E.literal) (literal_instance (instanced_of r.conflict) l) ≡ a → same_literal (complement (last_literal s.trail)) (literal_instance N l) ≡ a
          same {a} z = ap (λ (o : Trail). same_literal (complement (last_literal o)) (literal_instance N l)) split
              ∙ subst (λ (n : calculus.Instanced). same_literal (complement E.literal) (literal_instance n l) ≡ a) (conflict_says R e) z

          resolve-not-complement : same_literal (complement E.literal) (literal_instance (instanced_of r.conflict) l) ≡ false → Told s (Resolve l) (refused_by r wrong_literal)
          resolve-not-complement z = refused R (Resolve l) wrong_literal tt tt (λ a. simp (stands_shown R e, exists h, last-is p, same z))

          module _ (d : same_literal (complement E.literal) (literal_instance (instanced_of r.conflict) l) ≡ true) (handed : k ≡ looked_at s (Resolve l)) where
            abbrev C : calculus.Clause
            C = clause_at (clauses s) E.clause

            entry-fine : Fine (clauses s) s.constants (foreground E.literal (propagated E.clause E.number τ))
            entry-fine = (subst (AllFine (clauses s) s.constants) split (fine R).entries).0

            clause-is : k.clause ≡ packed C
            clause-is = looks_named s k E.clause (handed ∙ ap (λ (o : Trail). record { clause = packed (held_at (clauses s) (last_named o)) }) split) entry-fine.1

            held : Memᴰ C (clauses s)
            held = clause_held (clauses s) E.clause entry-fine.1

            sized : Sized s.constants C.variables τ
            sized = instance_sized s.constants C τ (and_r (literal_exists C E.number) (instance_fits s.constants C τ) entry-fine.2)

            own : E.number - 1 < length C.literals
            own = number_below E.number (length C.literals) (and_l (literal_exists C E.number) (instance_fits s.constants C τ) entry-fine.2)

            abbrev W : Reason
            W = reason C (E.number - 1) τ

            reason-is : reason_of k.clause (E.number - 1) E.instance ≡ record { of = packed_instanced W.of; own = W.own }
            reason-is = ap (λ (c : Clause). reason_of c (E.number - 1) E.instance) clause-is ∙ reason_of_is C (E.number - 1) E.instance ((fine R).limited C held)
                ∙ ap (λ (σ : List ℕ). record { of = packed_instanced (reason C (E.number - 1) σ).of; own = (reason C (E.number - 1) σ).own }) (take_again E.count C.variables E.instance sized.size)

            W-sized : Sized s.constants W.of.clause.variables W.of.instance
            W-sized = reason_sized C (E.number - 1) τ s.constants own (placed ((fine R).class C held)) sized

            abbrev M : calculus.Instanced
            M = resolvent N (l - 1) W.of W.own

            next-is : next s (Resolve l) ≡ updated s s.trail s.level (some M)
            next-is = ap (λ (o : Trail). updated s s.trail s.level (some (resolvent N (l - 1) (last_reason (clauses s) o).of (last_reason (clauses s) o).own))) split

            module _ (m : std.Option Instanced) (g : m ≡ resolved r.conflict (l - 1) (reason_of k.clause (E.number - 1) E.instance).of (reason_of k.clause (E.number - 1) E.instance).own) where
              merged-is : m ≡ fitted M
              merged-is = g ∙ ap (λ (w : reasons.Reason). resolved r.conflict (l - 1) w.of w.own) reason-is
                  ∙ ap (λ (n : Instanced). resolved n (l - 1) (packed_instanced W.of) W.own) (conflict_is R)
                  ∙ resolved_is N W.of (l - 1) W.own (fine_conflict R e).limited (fine_conflict R e).sized.size (reason_limited C (E.number - 1) τ ((fine R).limited C held)) W-sized.size

              limits : {a : Bool} → is_some m ≡ a → within_limits (conflict_of (next s (Resolve l)).conflict).clause ≡ a
              limits z = ap (λ (o : State). within_limits (conflict_of o.conflict).clause) next-is ∙ sym (fits_is M) ∙ ap is_some (sym merged-is) ∙ z

              resolve-no-room : is_some m ≡ false → Told s (Resolve l) (refused_by r no_room)
              resolve-no-room z = refused R (Resolve l) no_room tt tt (λ a. simp (stands_shown R e, exists h, last-is p, same d, limits z))

              resolve-accepted : is_some m ≡ true → (of blank : Instanced) → of ≡ unwrap_or m blank → (w : Shown) → w ≡ packed_given none → Told s (Resolve l) (taken_up r of w)
              resolve-accepted z of blank of-is w w-is = accepted_as R (Resolve l) true (nothing_asked s (Resolve l) refl)
                  (rw (stands_shown R e) tt, (rw (exists h) tt, (rw (last-is p) tt, (rw (same d) tt, (rw (limits z) tt, tt))))) (hands_none s (Resolve l) refl w-is)
                  _ (with_conflict R of w M (of-is ∙ ap (λ o. unwrap_or o blank) merged-is ∙ fitted_of M blank (sym (fits_is M) ∙ ap is_some (sym merged-is) ∙ z)) ∙ ap packed_run (sym next-is))

  -- The last entry stands in slot j.
  module _ (handed : k ≡ looked_at s (Resolve l)) (j : ℕ) (j-is : j ≡ r.length - 1) (a b d : Bool) (a-is : a ≡ literal_exists (clause_of r.conflict.clause) l) (b-is : b ≡ is_propagated (get_or r.trail j past_end).kind)
      (d-is : d ≡ same_literal (complement (get_or r.trail j past_end).literal) (literal_instance (instanced_of r.conflict) l)) (m : std.Option Instanced)
      (m-is : m ≡ resolved r.conflict (l - 1) (reason_of k.clause ((get_or r.trail j past_end).number - 1) (get_or r.trail j past_end).instance).of (reason_of k.clause ((get_or r.trail j past_end).number - 1) (get_or r.trail j past_end).instance).own)
      (of blank : Instanced) (of-is : of ≡ unwrap_or m blank)
      {n n₁ n₂ n₃ n₄ n₅ : ℕ} (e₅ : n₅ ≡ cond (is_some m) 0 no_room) (e₄ : n₄ ≡ cond d n₅ wrong_literal) (e₃ : n₃ ≡ cond b n₄ no_entry) (e₂ : n₂ ≡ cond (ltb 0 r.length) n₃ no_entry) (e₁ : n₁ ≡ cond a n₂ no_such)
      (e₀ : n ≡ cond r.stands n₁ wrong_moment) where
    pub resolve_refused : ¬ (n ≡ 0) → Told s (Resolve l) (refused_by r n)
    resolve_refused h =
        asked r.stands _ _ e₀ (λ f q. as_told q (resolve_no_conflict f)) (λ t₀ q₀.
        asked a _ _ e₁ (λ f q. as_told (q₀ ∙ q) (resolve_no_such t₀ (sym a-is ∙ f))) (λ t₁ q₁.
        asked (ltb 0 r.length) _ _ e₂ (λ f q. as_told (q₀ ∙ q₁ ∙ q) (resolve-no-entry t₀ (sym a-is ∙ t₁) (omega (arith, ltb-false 0 r.length f)))) (λ t₂ q₂.
        asked b _ _ e₃ (λ f q. as_told (q₀ ∙ q₁ ∙ q₂ ∙ q) (resolve-not-propagated t₀ (sym a-is ∙ t₁) (ltb-true 0 r.length t₂) j j-is (sym b-is ∙ f))) (λ t₃ q₃.
        asked d _ _ e₄ (λ f q. as_told (q₀ ∙ q₁ ∙ q₂ ∙ q₃ ∙ q) (resolve-not-complement t₀ (sym a-is ∙ t₁) (ltb-true 0 r.length t₂) j j-is (sym b-is ∙ t₃) (sym d-is ∙ f))) (λ t₄ q₄.
        asked (is_some m) _ _ e₅ (λ f q. as_told (q₀ ∙ q₁ ∙ q₂ ∙ q₃ ∙ q₄ ∙ q) (resolve-no-room t₀ (sym a-is ∙ t₁) (ltb-true 0 r.length t₂) j j-is (sym b-is ∙ t₃) (sym d-is ∙ t₄) handed m m-is f))
        (λ t₅ q₅. absurd (h (q₀ ∙ q₁ ∙ q₂ ∙ q₃ ∙ q₄ ∙ q₅))))))))

    pub resolve_told : (w : Shown) → w ≡ packed_given none → n ≡ 0 → Told s (Resolve l) (taken_up r of w)
    resolve_told w w-is o =
        let (t₀, z₁) = passed r.stands _ _ e₀ tt o in
        let (t₁, z₂) = passed a _ _ e₁ tt z₁ in
        let (t₂, z₃) = passed (ltb 0 r.length) _ _ e₂ tt z₂ in
        let (t₃, z₄) = passed b _ _ e₃ tt z₃ in
        let (t₄, z₅) = passed d _ _ e₄ tt z₄ in
        let (t₅, z₆) = passed (is_some m) _ _ e₅ tt z₅ in
        resolve-accepted t₀ (sym a-is ∙ t₁) (ltb-true 0 r.length t₂) j j-is (sym b-is ∙ t₃) (sym d-is ∙ t₄) handed m m-is t₅ of blank of-is w w-is
