-- The table of clauses: what a step looks at in it, and how a step changes it.
use Rattle.std.specs.Prelude as std
use Rattle.std.specs.Option.{is_some}
use Rattle.std.proofs.Common.{true≢false}
use Rattle.rules.specs.Records.{RunAnswer, learned_under}
use mathlib.Core.Path.{◌≡◌, refl, sym, ap, subst, transport⁻¹, ◌∙◌}
use mathlib.Core.List.{List, [], ◌∷◌, ◌++◌, map, append_assoc, map-append, reverse}
use mathlib.Core.Logic.{◌⊎◌, inl, inr}
use mathlib.Core.Option.{Option}
use mathlib.Core.Bool.{Bool, true, false, cond}
use Prim.Native.Nat.{ℕ, zero, suc, ◌-◌, ◌≤◌, ◌<◌}
use native.Mathlib.Decide.{ℕ_discrete, dec_lt}
use native.Mathlib.Omega.{arith}
use lib.Dec.{eqb}
use lib.IntN.{ℤ}
use lib.ListN.{get_or-eq_default, get_or-map, length, get_or, set, length-append, length-map}
use borrow.Author.Tests.{eq-eqb, le-leb, lt-leb, ne_eqb}
use Rattle.calculus.specs.Checks.{between}
use Rattle.basis.specs.Limits.{most_clauses, most_entries, most_predicates}
use Rattle.basis.specs.Numbers.{whole}
use Rattle.basis.specs.Refusals.{accepted}
use Rattle.lists.specs.Arrays.{exactly}
use Rattle.lists.proofs.Arrays.{exactly_length, get_d_any, get_d_exactly, set_exactly}
use Rattle.calculus.specs.Clauses as calculus
use Rattle.calculus.specs.Conditions.{Judged}
use Rattle.calculus.specs.Handing.{HandsOn}
use Rattle.calculus.specs.Rules.{Answer, learns_at, next}
use Rattle.calculus.specs.Runs as runs
use Rattle.calculus.specs.Runs.{plain}
use Rattle.calculus.specs.States as states
use Rattle.calculus.specs.States.{Propagate, Decide, Conflict, Resolve, Factorize, Skip, Backtrack, Grow, Unknown, clauses, conflict_of}
use Rattle.calculus.specs.Trails.{Trail}
use Rattle.calculus.proofs.Sound.{run_input}
use Rattle.calculus.proofs.Runs.{steps_keep_reached}
use Rattle.clauses.specs.Records.{packed}
use Rattle.clauses.proofs.Records.{past_table}
use Rattle.clauses.specs.declared.Clause.{Clause}
use Rattle.rules.specs.Answers.{Answered, AnsweredNamed, RunOf, Told}
use Rattle.asking.specs.Looking.{held_at, last_named, looked_at, looked_in, looks_at, number_looked, slot_of}
use Rattle.asking.specs.Kinds.{is_propagated}
use Rattle.asking.specs.Steps.{decide_of, instance_of, step_of}
use Rattle.asking.specs.declared.Looked.{Looked}
use Rattle.asking.specs.declared.Named.{Named}
use Rattle.rules.specs.declared.Run.{Run}
use Rattle.asking.specs.declared.Step.{Step}
use Rattle.reaching.proofs.Reached.{reached_fine}
use Rattle.rules.proofs.Runs.{conflict_is, fine, last_shown, none_shown, stored}
use Rattle.rules.proofs.Steps.{propagate_step, decide_step, conflict_step, resolve_step, factorize_step, skip_step, backtrack_step, grow_step, unknown_step}
use Rattle.trail.specs.Entries.{blank_entry, entry_as, packed_entry, packed_trail, past_end, trail_of}
use Rattle.trail.specs.declared.Kind.{Kind}
use Rattle.trail.specs.declared.Kind.TheVariants.{Background, Brought, Propagated, Decided}
use Rattle.trail.specs.declared.Entry as entries
use Rattle.state.specs.States.{StateOf, packed_answer, packed_table, table_after, written}
use Rattle.state.specs.declared.Answered as answers
use Rattle.state.specs.declared.State.{State}

-- A number is k, or it is not.
is : {Q : Type 0} (n k : ℕ) → (n ≡ k → Q) → (¬ (n ≡ k) → Q) → Q
is n k yes-then no-then = elim (ℕ_discrete n k) [ yes e ↦ yes-then e | no e ↦ no-then e ]

-- What holds of every rule's step holds of a step record.
by_rule : (P : states.Step → Type 0) (x : Step)
    → (x.rule ≡ 1 → P (Propagate x.clause x.literal (instance_of x))) → (x.rule ≡ 2 → P (decide_of x))
    → (x.rule ≡ 3 → P (Conflict x.clause (instance_of x))) → (x.rule ≡ 4 → P (Resolve x.literal)) → (x.rule ≡ 5 → P (Factorize x.literal x.other))
    → (x.rule ≡ 6 → P Skip) → (x.rule ≡ 7 → P (Backtrack x.literal)) → (x.rule ≡ 8 → P (Grow x.amount))
    → (¬ (x.rule ≡ 1) → ¬ (x.rule ≡ 2) → ¬ (x.rule ≡ 3) → ¬ (x.rule ≡ 4) → P (Unknown x.rule)) → P (step_of x)
by_rule P x h1 h2 h3 h4 h5 h6 h7 h8 h =
    is x.rule 1 (λ e. subst P (sym (propagate_step x e)) (h1 e)) (λ n1.
    is x.rule 2 (λ e. subst P (sym (decide_step x e)) (h2 e)) (λ n2.
    is x.rule 3 (λ e. subst P (sym (conflict_step x e)) (h3 e)) (λ n3.
    is x.rule 4 (λ e. subst P (sym (resolve_step x e)) (h4 e)) (λ n4.
    is x.rule 5 (λ e. subst P (sym (factorize_step x e)) (h5 e)) (λ n5.
    is x.rule 6 (λ e. subst P (sym (skip_step x e)) (h6 e)) (λ n6.
    is x.rule 7 (λ e. subst P (sym (backtrack_step x e)) (h7 e)) (λ n7.
    is x.rule 8 (λ e. subst P (sym (grow_step x e)) (h8 e)) (λ n8.
    subst P (sym (unknown_step x n1 n2 n3 n4 n5 n6 n7 n8)) (h n1 n2 n3 n4)))))))))

-- ---- what a step looks at

module _ {run : Run} {s : states.State} {table : List Clause} (R : RunOf run s) (is : table ≡ packed_table (clauses s)) where
  pub few : length (clauses s) ≤ most_clauses
  few = omega (arith, length-append s.input s.learned, (fine R).few_input, (fine R).few_learned)

  -- What stands in a clause's slot
  pub found : (blank : Clause) (c : ℕ) → looked_in c (get_or table (slot_of c) blank) ≡ record { clause = packed (held_at (clauses s) c) }
  unfolding packed_table
  found blank zero = refl
  found blank (suc c) = elim (dec_lt c most_clauses) [
    | yes h ↦
        let there : between 1 most_clauses (suc c) ≡ true = simp (le-leb 1 (suc c) (omega arith), le-leb (suc c) most_clauses (omega arith)) in
        let slot : slot_of (suc c) ≡ c = ap (λ (b : Bool). cond b (suc c - 1) 0) there ∙ omega arith in
        let held : get_or table (slot_of (suc c)) blank ≡ packed (get_or (clauses s) c calculus.no_clause) =
        (λ i. get_or (is i) (slot i) blank)
        ∙ get_d_any (packed_table (clauses s)) c blank (packed calculus.no_clause) (omega (arith, exactly_length (packed calculus.no_clause) most_clauses (map packed (clauses s))))
        ∙ get_d_exactly (packed calculus.no_clause) most_clauses (map packed (clauses s)) c h
        ∙ get_or-map packed (clauses s) c calculus.no_clause in
        λ i. record { clause = cond (there i) (held i) (packed calculus.no_clause) }
    | no h ↦
        let past : between 1 most_clauses (suc c) ≡ false = simp (le-leb 1 (suc c) (omega arith), lt-leb (suc c) most_clauses (omega arith)) in
        (λ i. record { clause = cond (past i) (get_or table (slot_of (suc c)) blank) (packed calculus.no_clause) })
        ∙ ap (λ (C : calculus.Clause). record { clause = packed C }) (sym (get_or-eq_default (clauses s) calculus.no_clause (omega (arith, few))))
  ]

  -- The last entry's clause, told from its record, which stands in slot i
  last_named_lem : (i : ℕ) → i ≡ run.length - 1 → cond (is_propagated (get_or run.trail i past_end).kind) (get_or run.trail i past_end).clause 0 ≡ last_named s.trail
  unfolding packed_trail
  last_named_lem i l = elim (dec_lt run.length 1) [
    | yes h ↦ ap told (blank h) ∙ sym (ap last_named (none_shown R h))
    | no h ↦ by_kind (get_or run.trail i past_end).kind (get_or run.trail i past_end) (trail_of run.trail i) ∙ sym (ap last_named (last_shown R i l (omega arith)))
  ]
    where
      told : entries.Entry → ℕ
      told e = cond (is_propagated e.kind) e.clause 0

      blank : run.length < 1 → get_or run.trail i past_end ≡ blank_entry
      blank h = (λ v. get_or (((stored R).packed ∙ ap packed_trail (none_shown R h)) v) (first v) past_end)
          ∙ get_d_any (packed_trail []) 0 past_end blank_entry (omega (arith, exactly_length blank_entry most_entries (map packed_entry (reverse []))))
          ∙ get_d_exactly blank_entry most_entries (map packed_entry (reverse [])) 0 (omega arith)
        where
          first : i ≡ 0
          first = omega (arith, l)

      by_kind : (k : Kind) (e : entries.Entry) (t : Trail) → cond (is_propagated k) e.clause 0 ≡ last_named (entry_as k e ∷ t)
      by_kind Background e t = refl
      by_kind Brought e t = refl
      by_kind Propagated e t = refl
      by_kind Decided e t = refl

  -- The number that is found is the one that the step looks at.
  number_is : (x : Step) (i : ℕ) → i ≡ run.length - 1 → number_looked (get_or run.trail i past_end) x.rule x.clause ≡ looks_at s (step_of x)
  number_is x i l = by_rule (λ y. number_looked (get_or run.trail i past_end) x.rule x.clause ≡ looks_at s y) x
      (λ e. rw e) (λ e. rw e) (λ e. rw e) (λ e. rw e (last_named_lem i l)) (λ e. rw e) (λ e. rw e) (λ e. rw e) (λ e. rw e)
      (λ n1 n2 n3 n4. simp (ne_eqb x.rule 1 n1, ne_eqb x.rule 2 n2, ne_eqb x.rule 3 n3, ne_eqb x.rule 4 n4))

-- What is found is what the step looks at; i is the slot of the last entry.
pub looks_at_lem : {run : Run} {s : states.State} {table : List Clause} → RunOf run s → table ≡ packed_table (clauses s) → (x : Step) {i c k : ℕ} {q : Looked}
    → i ≡ run.length - 1 → c ≡ number_looked (get_or run.trail i past_end) x.rule x.clause → k ≡ slot_of c → q ≡ looked_in c (get_or table k past_table) → q ≡ looked_at s (step_of x)
looks_at_lem {run} {s} {table} R is x {i} {c} {k} l e h q = q ∙ ap (λ (m : ℕ). looked_in c (get_or table m past_table)) h ∙ found R is past_table c
    ∙ ap (λ (m : ℕ). record { clause = packed (held_at (clauses s) m) }) (e ∙ number_is R is x i l)

-- ---- what a rule answers

module _ {r : Run} {k : Looked} {n : Named} where
  pub named_as : {x y : states.Step} {a b : RunAnswer} → x ≡ y → a ≡ b → AnsweredNamed r k n y b → AnsweredNamed r k n x a
  named_as e q h = transport⁻¹ (λ i. AnsweredNamed r k n (e i) (q i)) h

  -- Of a rule that looks at no atoms, whatever they are
  pub any_named : {x : states.Step} {a : RunAnswer} → Answered r k x a → AnsweredNamed r k n x a
  any_named h = λ s R looks names. h s R looks

-- ---- how a step changes it

-- A step learns nothing, or the conflict that stood, under the next number.
learns : (s : states.State) (y : states.Step) → ((learns_at s y ≡ 0) × (clauses (next s y) ≡ clauses s))
    ⊎ ((learns_at s y ≡ suc (length (clauses s))) × (clauses (next s y) ≡ clauses s ++ ((conflict_of s.conflict).clause ∷ [])))
learns s (Propagate c l τ) = inl (refl, refl)
learns s (Decide c l g τ zs) = inl (refl, refl)
learns s (Conflict c τ) = inl (refl, refl)
learns s (Resolve l) = inl (refl, refl)
learns s (Factorize i j) = inl (refl, refl)
learns s Skip = inl (refl, refl)
learns s (Backtrack l) = inr (refl, sym (append_assoc s.input s.learned ((conflict_of s.conflict).clause ∷ [])))
learns s (Grow n) = inl (refl, refl)
learns s (Unknown r) = inl (refl, refl)

-- The table of one clause more
table_more : (cs : List calculus.Clause) (C : calculus.Clause) → length cs < most_clauses → set (packed_table cs) (length cs) (packed C) ≡ packed_table (cs ++ (C ∷ []))
unfolding packed_table
table_more cs C h =
    ap (λ (k : ℕ). set (exactly most_clauses (packed calculus.no_clause) (map packed cs)) k (packed C)) (sym (length-map cs packed))
    ∙ set_exactly (packed calculus.no_clause) most_clauses (map packed cs) (packed C) (omega (arith, length-map cs packed))
    ∙ ap (exactly most_clauses (packed calculus.no_clause)) (sym (map-append packed cs (C ∷ [])))

-- What the owner of a table does with what was learned
pub table_written : (table : List Clause) (r : Run) (a : RunAnswer) (n : ℕ) → a.learned ≡ std.Some n → set table (n - 1) r.conflict.clause ≡ table_after table r a
table_written table r a n h = sym (ap (written table r.conflict.clause) h)

pub table_left : (table : List Clause) (r : Run) (a : RunAnswer) → a.learned ≡ std.None → table ≡ table_after table r a
table_left table r a h = sym (ap (written table r.conflict.clause) h)

pub none_some : {A : Type 0} {n : A} {P : Type 0} → std.None ≡ std.Some n → P
none_some e = absurd (true≢false (sym (ap is_some e)))

pub some_same : {A : Type 0} {n m : A} → std.Some n ≡ std.Some m → n ≡ m
some_same {n = n} e = ap (λ o. std.unwrap_or o n) e

module _ {run : Run} {s : states.State} (R : RunOf run s) (y : states.Step) (a : RunAnswer) (told : Told s y a) where
  abbrev b : Answer
  b = told.0

  -- There is room for what is learned.
  room : length (clauses b.state) ≤ most_clauses
  room = let f = reached_fine b.state (steps_keep_reached (plain whole) s y b R.reached told.2) in omega (arith, length-append b.state.input b.state.learned, f.few_input, f.few_learned)

  learned_as : {n : std.Option ℕ} → n ≡ cond (eqb b.number accepted) (learned_under (learns_at s y)) std.None → a.learned ≡ n
  learned_as e = ap (λ (q : RunAnswer). q.learned) told.4 ∙ sym e

  abbrev Changes : Type 0
  Changes = ((n : ℕ) → a.learned ≡ std.Some n → (1 ≤ n) × (n ≤ most_clauses)) × ((table : List Clause) → table ≡ packed_table (clauses s) → table_after table run a ≡ packed_table (clauses b.state))

  -- Nothing is learned ..
  none : a.learned ≡ std.None → clauses b.state ≡ clauses s → Changes
  none e same = ((λ n h. none_some (sym e ∙ h)), λ table is. ap (written table run.conflict.clause) e ∙ is ∙ ap packed_table (sym same))

  -- .. or the conflict that stood.
  one : a.learned ≡ std.Some (suc (length (clauses s))) → clauses b.state ≡ clauses s ++ ((conflict_of s.conflict).clause ∷ []) → Changes
  one e more = (
    (λ n h. let same : n ≡ suc (length (clauses s)) = some_same (sym h ∙ e) in (omega arith, omega (arith, fits))),
    λ table is. ap (written table run.conflict.clause) e ∙ (λ i. set (is i) (slot i) (conflict_is R i).clause)
        ∙ table_more (clauses s) (conflict_of s.conflict).clause fits ∙ ap packed_table (sym more),
  )
    where
      fits : length (clauses s) < most_clauses
      fits = omega (arith, room, ap length more, length-append (clauses s) ((conflict_of s.conflict).clause ∷ []))

      slot : suc (length (clauses s)) - 1 ≡ length (clauses s)
      slot = omega arith

  changes : Changes
  changes = elim (ℕ_discrete b.number accepted) [
    | yes e ↦ went (told.2.next_state e) (learned_as (sym (rw (eq-eqb b.number accepted e)))) (learns s y)
    | no e ↦ none (learned_as (sym (rw (ne_eqb b.number accepted e)))) (ap clauses (told.2.handed_back e))
  ]
    where
      went : b.state ≡ next s y → a.learned ≡ learned_under (learns_at s y) → ((learns_at s y ≡ 0) × (clauses (next s y) ≡ clauses s)) ⊎ ((learns_at s y ≡ suc (length (clauses s))) × (clauses (next s y) ≡ clauses s ++ ((conflict_of s.conflict).clause ∷ []))) → Changes
      went is l (inl (n, same)) = none (l ∙ ap learned_under n) (ap clauses is ∙ same)
      went is l (inr (n, more)) = one (l ∙ ap learned_under n) (ap clauses is ∙ more)

  -- What is learned has a slot ..
  pub slot_free : (n : ℕ) → a.learned ≡ std.Some n → (1 ≤ n) × (n ≤ most_clauses)
  slot_free = changes.0

  -- .. and the table after the step is that of the next state.
  pub table_after_lem : {table : List Clause} → table ≡ packed_table (clauses s) → table_after table run a ≡ packed_table (clauses b.state)
  table_after_lem {table} is = changes.1 table is

-- ---- the whole record

module _ {r : State} {s : states.State} (S : StateOf r s) where
  pub run_of : RunOf r.run s
  run_of = record { reached = S.reached; is = ap (λ (q : State). q.run) S.is }

  pub table_is : r.table ≡ packed_table (clauses s)
  table_is = ap (λ (q : State). q.table) S.is

  -- The next run with its table, beside predicates that no step changes
  pub step_answers : (x : Step) (a : RunAnswer) (told : Told s (step_of x) a) (table : List Clause) → table ≡ table_after r.table r.run a
      → (c : Answer) × (h : Option (List ℤ)) × Judged whole s (step_of x) c × HandsOn s (step_of x) c.number h ×
      (◌≡◌ {A = answers.Answered}
      (record { state = record { run = a.run; predicates = r.predicates; arities = r.arities; table = table }; number = a.number; place = a.place; witness = a.witness })
      (packed_answer c h))
  step_answers x a told table new = (
    told.0,
    told.1,
    told.2,
    told.3,
    λ i. record {
      state = record {
        run = (told.4 i).run;
        predicates = (ap (λ (q : State). q.predicates) S.is ∙ ap length (sym arities)) i;
        arities = (ap (λ (q : State). q.arities) S.is ∙ ap (exactly most_predicates 0) (sym arities)) i;
        table = (new ∙ table_after_lem run_of (step_of x) a told table_is) i;
      };
      number = (told.4 i).number;
      place = (told.4 i).place;
      witness = (told.4 i).witness;
    },
  )
    where
      arities : told.0.state.arities ≡ s.arities
      arities = (run_input (runs.then told.0 told.2 (runs.over refl))).1
