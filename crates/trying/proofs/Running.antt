-- The run so far: what holds before each turn of the loop over the steps, and how a turn goes on from it.
use mathlib.Core.Path.{◌≡◌, refl, sym, ap, subst, transport⁻¹, ◌∙◌}
use mathlib.Core.List.{List, [], ◌∷◌, ◌++◌, append_assoc, append-nil, map}
use mathlib.Core.Bool.{Bool, ◌&&◌, true, false}
use Prim.Native.Nat.{ℕ, ◌+◌, ◌-◌, ◌*◌, ◌≤◌, ◌<◌}
use native.Mathlib.Decide.{ℕ_discrete}
use native.Mathlib.Omega.{arith}
use lib.ListN.{length, get_or, set, drop_of_length-le}
use Rattle.basis.specs.Limits.{most_brought, most_clauses, most_constants}
use Rattle.basis.specs.Numbers.{whole}
use Rattle.basis.specs.Refusals.{accepted}
use Rattle.basis.specs.RuleNumbers.{rule_number}
use Rattle.basis.specs.declared.Rule.TheVariants as rules
use Rattle.basis.specs.Versions.{form_of}
use Rattle.basis.specs.declared.Atom.{Atom}
use Rattle.basis.specs.declared.Form.{Form}
use Rattle.basis.specs.declared.Version.{Version}
use Rattle.lists.specs.Arrays.{exactly}
use Rattle.calculus.specs.Clauses as calculus
use Rattle.calculus.specs.Conditions.{Judged}
use Rattle.calculus.specs.Rules.{Answer, next, source_in}
use Rattle.calculus.specs.Runs.{Reached, plain}
use Rattle.calculus.specs.States as states
use Rattle.calculus.specs.States.{Backtrack, Conflict, Decide, Factorize, Grow, Propagate, Resolve, Skip, Unknown, clauses}
use Rattle.calculus.proofs.Answers.{number_in_table}
use Rattle.calculus.proofs.Runs.{admitted_reached, steps_keep_reached}
use Rattle.runfile.specs.Readers.{bad, got}
use Rattle.runfile.proofs.Given.{no_value}
use Rattle.runfile.specs.File.{File, file, header, most_steps, step, opened}
use Rattle.clauses.specs.Records.{clause_of, packed}
use Rattle.clauses.specs.declared.Clause.{Clause}
use Rattle.clauses.proofs.Records.{past_table}
use Rattle.header.specs.Records.{input_of}
use Rattle.header.specs.declared.Header.{Header}
use Rattle.rules.specs.Answers.{Answered, AnsweredNamed, Answers, Handed, HandedNamed, Kept, RunOf, Told}
use Rattle.asking.specs.Looking.{count_looked, looked_at, looked_in, named_at, number_looked, right_in, slot_of}
use Rattle.rules.specs.Records.{packed_run}
use Rattle.asking.specs.Steps.{decide_of, source_of, step_of}
use Rattle.asking.specs.declared.Looked.{Looked}
use Rattle.asking.specs.declared.Named.{Named}
use Rattle.asking.proofs.Finding.{named_last, named_turn, named_upto}
use Rattle.asking.proofs.Sources.{past_source}
use Rattle.rules.specs.declared.Run.{Run}
use Rattle.asking.specs.declared.Step.{Step}
use Rattle.rules.specs.Records.{RunAnswer}
use Rattle.rules.proofs.Runs.{clauses_is, constants_is, fine, kept_small, version_is}
use Rattle.rules.proofs.Steps.{answered_as, answers_as, decide_step, handed_as}
use Rattle.steps.specs.Records.{decision, file_answer, outline, packed_step, record_of, step_there, without_atoms}
use Rattle.steps.specs.declared.Outline.{Outline}
use Rattle.steps.proofs.Files.{Ahead, Reads, Stepping, file_reads, step_ahead}
use Rattle.steps.proofs.Decisions.{decision_whole, outline_told}
use Rattle.state.specs.States.{new_run, packed_table, table_after}
use Rattle.state.proofs.Table.{found, looks_at_lem, table_after_lem}
use Rattle.text.specs.Text.{Wrote}
use Rattle.clausetext.specs.Room.{Put}
use Rattle.text.proofs.Text.{and_then, as_text, same_long}
use Rattle.listing.specs.Lines.{accepted_line, most_line, refused_line, rule_name}
use Rattle.listing.specs.Records.{name_of}
use Rattle.listing.specs.Listing.{TriedWith, went, refused, through}
use Rattle.listing.proofs.Lines.{length_accepted, length_refused, names_rule}
use Rattle.trail.specs.Entries.{past_end}
use Rattle.trying.specs.Running.{text_beneath}
use Rattle.trying.specs.Texts.{beneath, most_beneath, most_text}
use Rattle.trying.proofs.Numbers.{told_beneath}
use Rattle.trying.proofs.Outlines.{rule_told}

-- The most bytes of a step's line and what stands beneath it
abbrev pub most_of : Bool → ℕ
most_of numbered = most_line + most_beneath numbered

-- j of n steps have been tried and accepted: the others stand ahead of the cursor, as the version has them, and whatever comes of them completes
-- what was tried.
pub record SoFar (numbered : Bool) (s d : List ℕ) (version : Version) (n : ℕ) (d' : List ℕ) (run : Run) (table : List Clause) (cursor at j : ℕ) : Type 0 where
  pub says : File
  pub next : ℕ
  pub is : file s ≡ got says next
  pub others : List states.Step
  pub ahead : Ahead s (form_of version) cursor others
  pub count : n ≡ j + length others
  pub few : n ≤ most_steps
  pub state : states.State
  pub run_of : RunOf run state
  pub of_version : version ≡ state.version
  pub table_is : table ≡ packed_table (clauses state)
  pub lines : List ℕ
  pub wrote : Wrote d 0 lines d' at
  pub short : at ≤ j * most_of numbered
  pub on : (v : List ℕ) (e : Answer) → TriedWith (plain whole) (beneath numbered) state (j + 1) others v e → TriedWith (plain whole) (beneath numbered) (opened says) 1 says.steps (lines ++ v) e

-- "One line per step tried .. It stops at a refused step." The steps of the file s were tried from the state on that its header makes; their
-- lines stand in the buffer from its first byte on; and run and table are the records of the state that stands, number and place those of the
-- last answer.
pub record Ran (numbered : Bool) (s d d' : List ℕ) (run : Run) (table : List Clause) (number place at : ℕ) : Type 0 where
  pub says : File
  pub next : ℕ
  pub is : file s ≡ got says next
  pub lines : List ℕ
  pub answer : Answer
  pub tried : TriedWith (plain whole) (beneath numbered) (opened says) 1 says.steps lines answer
  pub wrote : Wrote d 0 lines d' at
  pub short : at ≤ most_steps * most_of numbered
  pub run_is : run ≡ packed_run answer.state
  pub table_is : table ≡ packed_table (clauses answer.state)
  pub number_is : number ≡ answer.number
  pub place_is : place ≡ answer.place
  pub reached : Reached (plain whole) answer.state

pub ran_as : {numbered : Bool} {s d d₁ d₂ : List ℕ} {run : Run} {table : List Clause} {k₁ k₂ p₁ p₂ at₁ at₂ : ℕ} → Ran numbered s d d₁ run table k₁ p₁ at₁
    → d₂ ≡ d₁ → at₂ ≡ at₁ → k₂ ≡ k₁ → p₂ ≡ p₁ → Ran numbered s d d₂ run table k₂ p₂ at₂
ran_as {numbered} {s} {d} {run = run} {table} ran e a k p = transport⁻¹ (λ i. Ran numbered s d (e i) run table (k i) (p i) (a i)) ran

-- ---- before the first step

pub start : (numbered : Bool) (s d : List ℕ) (h : Header) (first : ℕ) {run : Run} {table : List Clause} → got h first ≡ file_answer s
    → run ≡ new_run h.version h.constants h.input → table ≡ exactly most_clauses (packed calculus.no_clause) (map packed (input_of (header s 0))) → SoFar numbered s d h.version h.steps d run table first 0 0
unfolding packed_table
start numbered s d h first {run} {table} e r t = record {
  says = F;
  next = f.next;
  is = f.is;
  others = F.steps;
  ahead = subst (λ (v : Version). Ahead s (form_of v) first F.steps) (sym header_version) f.ahead;
  count = omega (arith, ap (λ (k : Header). k.steps) f.head);
  few = omega (arith, ap (λ (k : Header). k.steps) f.head, f.sayable.few_steps);
  state = opened F;
  run_of = record { reached = admitted_reached (plain whole) (opened F) f.sayable.admitted; is = r ∙ (λ i. new_run (f.head i).version (f.head i).constants (f.head i).input) };
  of_version = header_version;
  table_is = t ∙ ap (λ (l : List calculus.Clause). exactly most_clauses (packed calculus.no_clause) (map packed l)) (f.input ∙ sym (append-nil F.input));
  lines = [];
  wrote = record { next = omega arith; left = refl };
  short = omega arith;
  on = λ v e t. t;
}
  where
    f : Reads s h first
    f = file_reads s h first e

    F : File
    F = f.says

    header_version : h.version ≡ F.version
    header_version = ap (λ (k : Header). k.version) f.head

-- ---- a turn

-- The outline of a step that is read is read, to where the step ends.
next_is : (s : List ℕ) (f : Form) (i : ℕ) {x : states.Step} {next : ℕ} → step f s i ≡ got x next → {o : Step} {past : ℕ} → got o past ≡ outline f s i → past ≡ next
next_is s f i {x} {next} reads {o} {past} e = let w : got o past ≡ got (without_atoms (packed_step x)) next = rw reads at e in cc

-- Where it is the outline of a Decide, the whole of it is that of the step.
pub whole_told : (f : Form) (s : List ℕ) (i : ℕ) (o : Outline) → record_of o ≡ without_atoms (step_there (step f s i)) → o.rule ≡ rules.Decide → {x : Step} → x ≡ step_there (decision f s i) → x ≡ step_there (step f s i)
whole_told f s i o read rule e = e ∙ decision_whole f s i (rule_told (step_there (step f s i)) o read rule)

-- No step changes the version.
next_version : (s : states.State) (x : states.Step) → (next s x).version ≡ s.version
next_version s (Propagate c l τ) = refl
next_version s (Decide c l g τ zs) = refl
next_version s (Conflict c τ) = refl
next_version s (Resolve l) = refl
next_version s (Factorize l m) = refl
next_version s Skip = refl
next_version s (Backtrack l) = refl
next_version s (Grow m) = refl
next_version s (Unknown r) = refl

version_kept : (s : states.State) (x : states.Step) (b : Answer) → Judged whole s x b → b.state.version ≡ s.version
version_kept s x b j = elim (ℕ_discrete b.number accepted) [
  | yes e ↦ ap (λ (q : states.State). q.version) (j.next_state e) ∙ next_version s x
  | no e ↦ ap (λ (q : states.State). q.version) (j.handed_back e)
]

-- After i turns of the loop over the atoms that the step x names, the record says what the first i are, of every state whose records run and
-- table are.
abbrev pub Finds : Run → List Clause → Step → ℕ → Named → Type 0
Finds run table x i named = (s : states.State) → RunOf run s → table ≡ packed_table (clauses s) → named ≡ named_upto s x i

-- There is room for one step more: for its line and what stands beneath it.
step_fits : (numbered shown : Bool) (j : ℕ) {at l : ℕ} → at ≤ j * most_of numbered → j < most_steps → most_text numbered shown ≤ l → at + most_of numbered ≤ l
step_fits true true j h k r = omega arith
step_fits true false j h k r = omega arith
step_fits false true j h k r = omega arith
step_fits false false j h k r = omega arith

one_more : (numbered : Bool) (j : ℕ) {at k : ℕ} → at ≤ j * most_of numbered → k ≤ at + most_of numbered → k ≤ (j + 1) * most_of numbered
one_more true j h g = omega arith
one_more false j h g = omega arith

all_tried : (numbered : Bool) (j : ℕ) {at : ℕ} → at ≤ j * most_of numbered → j ≤ most_steps → at ≤ most_steps * most_of numbered
all_tried true j h k = omega arith
all_tried false j h k = omega arith

module _ {numbered : Bool} {s d d' : List ℕ} {version : Version} {n cursor at j : ℕ} {run : Run} {table : List Clause} (S : SoFar numbered s d version n d' run table cursor at j) where
  step_room : j < n → (shown : Bool) → most_text numbered shown ≤ length d → at + most_of numbered ≤ length d'
  step_room h shown k = omega (arith, step_fits numbered shown j {l = length d} S.short (omega (arith, S.few)) k, same_long S.wrote)

  -- There is room for one line more.
  pub line_fits : j < n → (shown : Bool) → most_text numbered shown ≤ length d → (j + 1 ≤ most_steps) × (at + most_line ≤ length d')
  line_fits h shown k = (omega (arith, S.few), omega (arith, step_room h shown k))

  pub kept : Kept run
  kept = (S.state, S.run_of)

  -- The version, as the run has it
  run_version : version ≡ run.version
  run_version = S.of_version ∙ sym (version_is S.run_of)

  -- The step to be tried is read.
  ahead_now : j < n → Stepping s (form_of version) cursor S.others
  ahead_now h = step_ahead s (form_of version) cursor S.others S.ahead (omega (arith, S.count))

  -- So its outline is not refused.
  pub never_refused : j < n → {form : Form} → form ≡ form_of version → {k p : ℕ} → bad k p ≡ outline form s cursor → ⊥
  never_refused h {form} form-is {k} {p} e = let now = ahead_now h in no_value (rw (form-is, now.reads) at e)

  -- The atoms of the Decide y are looked at, m of them: one turn more of the loop over them
  pub finds_more : (y : Step) {m : ℕ} → m ≡ count_looked version y → (i : ℕ) → i < m → length y.atoms ≡ most_brought → {k : ℕ} {q : Looked} {right b right' : Bool} {az : List Atom} {a : Atom}
      → k ≡ slot_of (get_or y.atoms i past_source).clause → q ≡ looked_in (get_or y.atoms i past_source).clause (get_or table k past_table)
      → b ≡ right_in run.constants (run.input + run.learned) q.clause (get_or y.atoms i past_source) → right' ≡ (right && b)
      → a ≡ source_in (clause_of q.clause) (source_of (get_or y.atoms i past_source))
      → Finds run table y i (record { right = right; at = az }) → Finds run table y (i + 1) (record { right = right'; at = set az i a })
  finds_more y count i h long slot looked right_is so atom found_before z R is =
      named_turn z (fine R).limited table (found R is past_table) y i (constants_is R) (clauses_is R)
      (omega (arith, count, ap (λ (v : Version). count_looked v y) (run_version ∙ version_is R))) long slot looked right_is so atom (found_before z R is)

  -- The outline o of the step x was read, r is its rule's number, and of the clause table it looks at q.
  module _ (x : Step) (o : Outline) (read : record_of o ≡ without_atoms x) {r : ℕ} (numbered_so : r ≡ rule_number o.rule)
      {e c k : ℕ} {q : Looked} (last : e ≡ run.length - 1) (number : c ≡ number_looked (get_or run.trail e past_end) r o.clause) (slot : k ≡ slot_of c) (looked : q ≡ looked_in c (get_or table k past_table)) where
    looks : q ≡ looked_at S.state (step_of x)
    looks = looks_at_lem S.run_of S.table_is x last (number ∙ ap (λ (m : ℕ). number_looked (get_or run.trail e past_end) m o.clause) numbered_so ∙ (λ i. number_looked (get_or run.trail e past_end) (read i).rule (read i).clause)) slot looked

    -- What its rule is handed, and what it answers; y is the step as the rule has it.
    module _ {y : states.Step} (is : step_of x ≡ y) where
      pub handed : Handed run q y
      handed = handed_as is (S.state, S.run_of, looks)

      pub told_looked : {a b : RunAnswer} → a ≡ b → Answered run q y b → Told S.state (step_of x) a
      told_looked p answered = answered_as is p answered S.state S.run_of looks

      pub told_alone : {a b : RunAnswer} → a ≡ b → Answers run y b → Told S.state (step_of x) a
      told_alone p answers = answers_as is p answers S.state S.run_of looks

    -- The Decide y was read of it, and the last turn over its atoms is over.
    module _ (y : Step) (same : y ≡ x) (rule : o.rule ≡ rules.Decide) {m i : ℕ} (count : m ≡ count_looked version y) (over : m ≤ i) {named : Named} (names : Finds run table y i named) where
      decides : step_of y ≡ decide_of y
      decides = decide_step y (ap (λ (z : Step). z.rule) same ∙ rule_told x o read rule)

      is : step_of x ≡ decide_of y
      is = ap step_of (sym same) ∙ decides

      looks-so : q ≡ looked_at S.state (decide_of y)
      looks-so = looks ∙ ap (looked_at S.state) is

      named-is : named ≡ named_at S.state (decide_of y)
      named-is = names S.state S.run_of S.table_is ∙ named_last S.state y (count ∙ ap (λ (v : Version). count_looked v y) S.of_version) over ∙ ap (named_at S.state) decides

      pub handed_named : HandedNamed run q named (decide_of y)
      handed_named = (S.state, S.run_of, looks-so, named-is)

      pub told_named : {a b : RunAnswer} → a ≡ b → AnsweredNamed run q named (decide_of y) b → Told S.state (step_of x) a
      told_named p answered = transport⁻¹ (λ i. Told S.state (is i) (p i)) (answered S.state S.run_of looks-so named-is)

  -- The step x was read, its outline being o and its rule's number r, and answered by a.
  module _ (h : j < n) {form : Form} (form-is : form ≡ form_of version) (o : Outline) {past : ℕ} (e : got (record_of o) past ≡ outline form s cursor) {r : ℕ} (numbered_so : r ≡ rule_number o.rule)
      {a : RunAnswer} (told : Told S.state (step_of (step_there (step form s cursor))) a) where
    abbrev x : states.Step
    x = step_of (step_there (step form s cursor))

    now : Stepping s (form_of version) cursor S.others
    now = ahead_now h

    others_is : x ∷ now.others ≡ S.others
    others_is = ap (λ (y : states.Step). y ∷ now.others) (ap (λ (f : Form). step_of (step_there (step f s cursor))) form-is ∙ now.says) ∙ sym now.all

    past_is : past ≡ now.next
    past_is = next_is s (form_of version) cursor now.reads (rw form-is at e)

    name_is : name_of r ≡ rule_name x
    name_is = ap name_of numbered_so ∙ ap (λ (q : Step). name_of q.rule) (outline_told s form cursor o e) ∙ names_rule (step_there (step form s cursor))

    abbrev b : Answer
    b = told.0

    next_reached : Reached (plain whole) b.state
    next_reached = steps_keep_reached (plain whole) S.state x b S.run_of.reached told.2

    number_is : a.number ≡ b.number
    number_is = ap (λ (q : RunAnswer). q.number) told.4

    -- A refused step: its line is the last, and nothing more is tried; run and table are as they were.
    pub stop : ¬ (a.number ≡ 0) → {d₂ : List ℕ} {at₂ : ℕ} → Wrote d' at (refused_line (j + 1) (name_of r) a.number) d₂ at₂
        → Ran numbered s d d₂ run table a.number a.place at₂
    stop z {d₂} {at₂} w = record {
      says = S.says;
      next = S.next;
      is = S.is;
      lines = S.lines ++ line a.number;
      answer = b;
      tried = S.on (line a.number) b (subst (λ (xs : List states.Step). TriedWith (plain whole) (beneath numbered) S.state (j + 1) xs (line a.number) b) others_is
          (subst (λ (k : ℕ). TriedWith (plain whole) (beneath numbered) S.state (j + 1) (x ∷ now.others) (line k) b) (sym number_is) (refused b told.2 (λ q. z (number_is ∙ q)))));
      wrote = and_then S.wrote so-called;
      short = all_tried numbered (j + 1)
          (one_more numbered j S.short (omega (arith, so-called.next, length_refused (j + 1) x a.number (omega (arith, S.few)) (omega (arith, number_is, number_in_table whole S.state x b told.2)))))
          (omega (arith, S.few));
      run_is = S.run_of.is ∙ ap packed_run (sym back);
      table_is = S.table_is ∙ ap (λ (q : states.State). packed_table (clauses q)) (sym back);
      number_is = number_is;
      place_is = ap (λ (q : RunAnswer). q.place) told.4;
      reached = next_reached;
    }
      where
        line : ℕ → List ℕ
        line k = refused_line (j + 1) (rule_name x) k

        so-called : Wrote d' at (line a.number) d₂ at₂
        so-called = as_text (ap (λ (name : List ℕ). refused_line (j + 1) name a.number) name_is) w

        back : b.state ≡ S.state
        back = told.2.handed_back (λ q. z (number_is ∙ q))

    -- The record of the next state, and how long the step's line is
    module _ {run₂ : Run} (ran : run₂ ≡ a.run) where
      run-next : RunOf run₂ b.state
      run-next = record { reached = next_reached; is = ran ∙ ap (λ (q : RunAnswer). q.run) told.4 }

      line-length : length (accepted_line (j + 1) (name_of r) run₂.length run₂.level) ≤ most_line
      line-length =
          let small = kept_small (b.state, run-next) in
          subst (λ (name : List ℕ). length (accepted_line (j + 1) name run₂.length run₂.level) ≤ most_line) (sym name_is)
          (length_accepted (j + 1) x run₂.length run₂.level (omega (arith, S.few)) (omega (arith, small.few_entries)) (omega (arith, small.few_entries, small.few_decisions)))

    few_constants : run.constants ≤ most_constants
    few_constants = (kept_small kept).few_constants

    -- Beneath it there is room.
    pub beneath_fits : (shown : Bool) → most_text numbered shown ≤ length d → {run₂ : Run} → run₂ ≡ a.run
        → {d₁ : List ℕ} {at₁ : ℕ} → Wrote d' at (accepted_line (j + 1) (name_of r) run₂.length run₂.level) d₁ at₁
        → (run.constants ≤ most_constants) × (at₁ + most_beneath numbered ≤ length d₁)
    beneath_fits shown room ran w = (few_constants, omega (arith, step_room h shown room, line-length ran, w.next, same_long w))

    -- An accepted one: its line follows the others, and beneath it what it handed on; what it learned stands in the table.
    pub turn : a.number ≡ 0 → {run₂ : Run} → run₂ ≡ a.run → {table₂ : List Clause} → table₂ ≡ table_after table run a
        → {d₁ d₂ : List ℕ} {at₁ at₂ : ℕ} → Wrote d' at (accepted_line (j + 1) (name_of r) run₂.length run₂.level) d₁ at₁
        → Put (most_beneath numbered) d₁ at₁ (text_beneath numbered run.constants a.witness) d₂ at₂
        → SoFar numbered s d version n d₂ run₂ table₂ past at₂ (j + 1)
    turn z {run₂} ran {table₂} table-new w u = record {
      says = S.says;
      next = S.next;
      is = S.is;
      others = now.others;
      ahead = subst (λ (i : ℕ). Ahead s (form_of version) i now.others) (sym past_is) now.ahead;
      count = omega (arith, S.count, ap length now.all);
      few = S.few;
      state = b.state;
      run_of = run-next ran;
      of_version = S.of_version ∙ sym (version_kept S.state x b told.2);
      table_is = table-new ∙ table_after_lem S.run_of x a told S.table_is;
      lines = S.lines ++ (line b.state ++ under);
      wrote = and_then S.wrote (and_then (as_text (λ i. accepted_line (j + 1) (name_is i) ((run-next ran).is i).length ((run-next ran).is i).level) w) u.wrote);
      short = one_more numbered j S.short (omega (arith, u.room, w.next, line-length ran));
      on = λ v e t. subst (λ (l : List ℕ). TriedWith (plain whole) (beneath numbered) (opened S.says) 1 S.says.steps l e) (grouped v)
          (S.on (line b.state ++ (under ++ v)) e (subst (λ (xs : List states.Step). TriedWith (plain whole) (beneath numbered) S.state (j + 1) xs (line b.state ++ (under ++ v)) e) others_is (went b told.2 (sym number_is ∙ z) stands-beneath t)));
    }
      where
        line : states.State → List ℕ
        line q = accepted_line (j + 1) (rule_name x) (length q.trail) q.level

        under : List ℕ
        under = text_beneath numbered run.constants a.witness

        stands-beneath : beneath numbered S.state x under
        stands-beneath = told_beneath S.state (omega (arith, few_constants, constants_is S.run_of)) x numbered told.1 told.3 (sym number_is ∙ z) (constants_is S.run_of) (ap (λ (q : RunAnswer). q.witness) told.4)

        grouped : (v : List ℕ) → S.lines ++ (line b.state ++ (under ++ v)) ≡ (S.lines ++ (line b.state ++ under)) ++ v
        grouped v = simp append_assoc

-- ---- after the last step

pub done : {numbered : Bool} {s d d' : List ℕ} {version : Version} {n cursor at j : ℕ} {run : Run} {table : List Clause} → SoFar numbered s d version n d' run table cursor at j → n ≤ j
    → Ran numbered s d d' run table 0 0 at
done {numbered} {j = j} S h = record {
  says = S.says;
  next = S.next;
  is = S.is;
  lines = S.lines;
  answer = last;
  tried = rw append-nil at (S.on [] last (subst (λ (xs : List states.Step). TriedWith (plain whole) (beneath numbered) S.state (j + 1) xs [] last) (sym (drop_of_length-le S.others {i = 0} (omega (arith, S.count)))) through));
  wrote = S.wrote;
  short = all_tried numbered j S.short (omega (arith, S.few, S.count));
  run_is = S.run_of.is;
  table_is = S.table_is;
  number_is = refl;
  place_is = refl;
  reached = S.run_of.reached;
}
  where
    last : Answer
    last = record { state = S.state; number = accepted; place = 0 }
