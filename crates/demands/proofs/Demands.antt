-- The three demands.
use mathlib.Core.Path.{◌∙◌, ◌≡◌, ap, refl, subst, sym}
use mathlib.Core.List.{List, [], ◌∷◌, ◌++◌, map}
use mathlib.Core.Option.{none}
use Prim.Native.Nat.{ℕ, ◌≤◌}
use native.Mathlib.Decide.{ℕ_discrete, dec_lt}
use native.Mathlib.Omega.{arith}
use lib.ListN.{length, take, drop}
use Rattle.basis.specs.Numbers.{whole}
use Rattle.basis.specs.Refusals.{accepted, no_room}
use Rattle.basis.specs.declared.Version.{Version}
use Rattle.calculus.specs.Admission.{fresh}
use Rattle.calculus.specs.Clauses as calculus
use Rattle.calculus.specs.Rules.{Answer}
use Rattle.calculus.specs.Runs.{plain}
use Rattle.calculus.specs.Sound.{SoundStart}
use Rattle.calculus.specs.Truth.{NoModel}
use Rattle.calculus.specs.States as states
use Rattle.calculus.proofs.Answers as answers
use Rattle.calculus.proofs.Answers.{accepted_exactly_if_allowed, number_in_table}
use Rattle.calculus.proofs.Runs.{admitted_starts, start_reached}
use Rattle.calculus.proofs.Sound.{admitted_sound, sound_judge}
use Rattle.runfile.specs.Claims.{Outcome}
use Rattle.runfile.specs.File.{File, file, opened}
use Rattle.runfile.specs.Readers.{Got, got, bad}
use Rattle.runfile.proofs.Given.{every_file}
use Rattle.reaching.proofs.Reached.{some_conflict}
use Rattle.listing.specs.Lines.{bad_line, last_line}
use Rattle.listing.specs.Listing.{Ends, Listing, Tried, bad_file, good_file, most_listing, nothing, refused, through, went, with_file, with_step}
use Rattle.listing.proofs.Every.{answers_all, every_file_listed}
use Rattle.listing.proofs.NoModel.{tried_run}
use Rattle.listing.proofs.Once.{nothing_once, printed_once}
use Rattle.judging.specs.Judging.{Lists}
use Rattle.judging.proofs.EndToEnd.{end_to_end, written_text}
use Rattle.judging.proofs.Judging.{lists_once}
use Rattle.judging.specs.declared.Written.{Written}
use Rattle.judging.specs.declared.Written.TheVariants.{Bytes, Short}
use Rattle.asking.specs.Steps.{step_of}
use Rattle.asking.specs.declared.Step.{Step}
use Rattle.state.specs.States as state
use Rattle.state.specs.States.{Answers, Made, StateOf, packed_state}
use Rattle.state.specs.Runs.{CodeRun}
use Rattle.state.proofs.Opening.{admit_keeps, admit_makes_states, admit_refused}
use Rattle.state.proofs.Replaying.{code_replays}
use Rattle.state.proofs.Runs.{answer_unique, code_runs_are_runs, every_step_answered, step_keeps}
use Rattle.state.specs.declared.Answered.{Answered}
use Rattle.state.specs.declared.Opened.{Opened}
use Rattle.state.specs.declared.State.{State}
use Rattle.demands.specs.Demands as demands
use Rattle.demands.specs.Demands.{AdmitAnswered, RightAnswer, Demand1, Demand2, Demand3, FileAnswered, FileRight, Refutes, Settled, StepAnswered}

-- ---- 1: files

-- What is printed of a file, and how judging it ends
printed_ends : (s : List ℕ) → (w : List ℕ) × (k : ℕ) × (p : ℕ) × Listing s w × Ends (plain whole) s k p
printed_ends s = let (w, q) = every_file_listed (plain whole) answers_all (nothing (plain whole)) (λ o R x a j z. ([], refl)) last_line s in go q
  where
    go : {w : List ℕ} → Listing s w → (w : List ℕ) × (k : ℕ) × (p : ℕ) × Listing s w × Ends (plain whole) s k p
    go (bad_file n p f) = (_, n, p, bad_file n p f, with_file n p f)
    go (good_file F next e f t) = (_, e.number, e.place, good_file F next e f t, with_step F next e f t)

file_ends : (s d : List ℕ) → Settled (λ (a : List ℕ × Written). Lists s d a.0 a.1)
file_ends s d = elim (dec_lt (length d) most_listing) [
  | yes h ↦ record { answer = (d, Short); promised = (h, refl); only = λ a q. only a (d, Short) q (h, refl) }
  | no h ↦
      let (w, k, p, listing, ends) = printed_ends s in
      let here : Lists s d (w ++ drop (length w) d) (Bytes (length w) k p) = (omega arith, ends, (w, listing, refl, refl)) in
      record { answer = (w ++ drop (length w) d, Bytes (length w) k p); promised = here; only = λ a q. only a (w ++ drop (length w) d, Bytes (length w) k p) q here }
]
  where
    only : (a b : List ℕ × Written) → Lists s d a.0 a.1 → Lists s d b.0 b.1 → a ≡ b
    only a b q r = let (same, left) = lists_once s d a.0 b.0 a.1 b.1 q r in λ i. (left i, same i)

-- The last answer of steps tried is that of a step, or none was refused.
tried_in_table : (xs : List states.Step) {s : states.State} {n : ℕ} {w : List ℕ} {e : Answer} → Tried (plain whole) s n xs w e → e.number ≤ no_room
tried_in_table [] through = omega arith
tried_in_table (x ∷ xs) {s} (refused a j z) = number_in_table whole s x a j
tried_in_table (x ∷ xs) (went a j z b t) = tried_in_table xs t

file_right : (s d d' : List ℕ) (r : Written) → Lists s d d' r → FileRight s d d' r
file_right s d d' Short (h, e) = (h, e)
file_right s d d' (Bytes n k p) (room, ends, (w, listing, count, left)) = go ends (file s) refl (every_file s)
  where
    text : take n d' ≡ w
    text = written_text d count left

    go : {k p : ℕ} → Ends (plain whole) s k p → (g : Got File) → file s ≡ g → Outcome s g → FileAnswered s (take n d') k p
    go (with_file number place f) (got F next) g o = absurd (let z : ◌≡◌ {A = ℕ} 0 1 = cc in omega arith)
    go (with_file number place f) (bad m q) g o =
        let m-is : m ≡ number = cc in
        let q-is : q ≡ place = cc in
        FileAnswered.refused f (rw (sym m-is) o.in_table) (rw (sym q-is) o.in_file) (text ∙ printed_once (plain whole) (answers.answer_unique whole) (nothing (plain whole)) (nothing_once (plain whole)) last_line s w (bad_line number place) listing (bad_file number place f))
    go (with_step F next e f t) (bad m q) g o = absurd (let z : ◌≡◌ {A = ℕ} 0 1 = cc in omega arith)
    go (with_step F next e f t) (got G m) g o = FileAnswered.listed G (g ∙ ap (got G) o.1) (subst (Listing s) (sym text) listing) (tried_in_table F.steps t)

-- ---- 1: steps

step_right : (r : State) (x : Step) (a : Answered) → Made r → Answers r x a → StepAnswered r a
step_right r x a (s, S) h =
    let (b, n, j, handed, e) = h s S in
    let number_is = ap (λ (q : Answered). q.number) e in
    record {
      in_table = rw number_is (number_in_table whole s (step_of x) b j);
      unchanged = λ z. ap (λ (q : Answered). q.state) e ∙ ap packed_state (j.handed_back (λ q. z (number_is ∙ q))) ∙ sym S.is;
      made = step_keeps r x a (s, S) h;
    }

admit_right : (version : Version) (constants : ℕ) (arities : List ℕ) (cs : List calculus.Clause) (a : Opened) → a ≡ state.opened version constants arities cs → AdmitAnswered version constants arities cs a × Made a.state
admit_right version constants arities cs a e = (
  elim (ℕ_discrete a.number accepted) [
    | yes h ↦ let (k, S) = admit_makes_states version constants arities cs a e h in AdmitAnswered.made h k S
    | no h ↦ let (least, most, is) = admit_refused version constants arities cs a e h in AdmitAnswered.refused least most is
  ],
  admit_keeps version constants arities cs a e,
)

pub demand_1 : Demand1
demand_1 = record {
  file_ends = file_ends;
  file_right = file_right;
  admit_right = admit_right;
  step_ends = λ r x m. let (a, h) = every_step_answered r x m in record { answer = a; promised = h; only = λ b k. answer_unique r x b a m k h };
  step_right = step_right;
}

-- ---- 2

by_the_rule : (r : State) (s : states.State) (x : Step) (a : Answered) → StateOf r s → Answers r x a → RightAnswer s (step_of x) a
by_the_rule r s x a S h =
    let (b, n, j, handed, e) = h s S in
    let number_is : a.number ≡ b.number = ap (λ (q : Answered). q.number) e in
    let place_is : a.place ≡ b.place = ap (λ (q : Answered). q.place) e in
    let exactly = accepted_exactly_if_allowed whole s (step_of x) b j in
    record {
      acceptance = (λ z. exactly.0 (sym number_is ∙ z), λ k. number_is ∙ exactly.1 k);
      next_state = λ z. ap (λ (q : Answered). q.state) e ∙ ap packed_state (j.next_state (sym number_is ∙ z));
      first_lacking = rw number_is j.first_lacking;
      named = λ z. rw place_is (j.named (sym number_is ∙ z));
      no_place = λ z. place_is ∙ j.no_place (λ q. z (number_is ∙ q));
    }

no_literals : {A : Type 0} (l : List A) → length l ≡ 0 → l ≡ []
no_literals [] e = refl
no_literals (x ∷ l) e = absurd (omega arith)

sound_from : (s₀ : states.State) → SoundStart whole s₀ → (xs : List Step) (r : State) → CodeRun (packed_state s₀) xs r → Refutes r → NoModel whole s₀.arities s₀.input
sound_from s₀ S xs r run t =
    let (s, steps, is) = code_runs_are_runs s₀ r xs (start_reached (plain whole) s₀ S.start) run in
    let c = some_conflict s.conflict (sym (ap (λ (q : State). q.run.stands) is) ∙ t.stands) in
    let z = no_literals (states.conflict_of s.conflict).clause.literals (sym (ap (λ (q : State). q.run.conflict.clause.literalcount) is) ∙ t.no_literals) in
    sound_judge whole s₀ s (map step_of xs) (states.conflict_of s.conflict) S steps c z

pub demand_2 : Demand2
demand_2 = record {
  by_the_rule = by_the_rule;
  sound = λ version constants arities cs a e h xs r run t.
      let (k, S) = admit_makes_states version constants arities cs a e h in
      sound_from (fresh version constants arities cs) (admitted_sound whole (fresh version constants arities cs) k) xs r (subst (λ (q : State). CodeRun q xs r) S.is run) t;
  sound_from = sound_from;
  file_sound = end_to_end;
}

-- ---- 3

pub demand_3 : Demand3
demand_3 = record {
  replayed = λ version constants arities cs a e h xs r run free.
      let (k, S) = admit_makes_states version constants arities cs a e h in
      let (s, steps, is) = code_runs_are_runs (fresh version constants arities cs) r xs S.reached (subst (λ (q : State). CodeRun q xs r) S.is run) in
      code_replays r (s, record { reached = record { first = fresh version constants arities cs; steps = map step_of xs; start = admitted_starts (fresh version constants arities cs) k; run = steps }; is = is }) free;
  file_replayed = λ s F n w e f t calm.
      let (sayable, whole-file) = subst (Outcome s) f (every_file s) in
      let (ys, run) = tried_run t in
      code_replays (packed_state e.state) (e.state, record { reached = record { first = opened F; steps = ys; start = admitted_starts (opened F) sayable.admitted; run = run }; is = refl }) (ap states.stands calm);
}
