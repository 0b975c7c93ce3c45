-- The record of a whole state, what admission makes and what a step answers.
use Rattle.std.specs.Prelude.{◌≡◌, List, [], map, ◌↔◌, ◌&&◌, cond, false, ℕ, ◌-◌, ◌≤◌, T, eqb, ltb, ℤ, length, set}
use Rattle.std.proofs.Math.Option.{Option}
use Rattle.basis.specs.Limits.{most_clauses, most_predicates}
use Rattle.basis.specs.Numbers.{whole}
use Rattle.basis.specs.Refusals.{accepted}
use Rattle.basis.specs.declared.Version.{Version}
use Rattle.basis.specs.declared.Version.TheVariants.{One}
use Rattle.lists.specs.Arrays.{exactly}
use Rattle.calculus.specs.Admission.{Admitted, admission_refusal, fresh}
use Rattle.calculus.specs.Clauses as calculus
use Rattle.calculus.specs.Conditions.{Judged}
use Rattle.calculus.specs.Handing.{HandsOn, tests}
use Rattle.calculus.specs.Rules.{Answer, question}
use Rattle.calculus.specs.Runs.{Reached, plain}
use Rattle.calculus.specs.States as states
use Rattle.calculus.specs.States.{clauses}
use Rattle.clauses.specs.Records.{packed, packed_instanced}
use Rattle.clauses.specs.declared.Clause.{Clause}
use Rattle.rules.specs.Records.{RunAnswer, packed_run}
use Rattle.std.specs.Option.{is_some}
use Rattle.std.specs.Prelude as std
use Rattle.asking.specs.Steps.{step_of}
use Rattle.bounds.specs.Choices.{Checked}
use Rattle.rules.specs.declared.Run.{Run}
use Rattle.asking.specs.declared.Step.{Step}
use Rattle.trail.specs.Entries.{packed_trail}
use Rattle.state.specs.declared.State.{State}
use Rattle.state.specs.declared.Answered.{Answered}
use Rattle.state.specs.declared.Opened.{Opened}
use Rattle.constraint.specs.Witnesses.{packed_given, packed_numbers}

-- The table of the input clauses and the learned ones after them, blank past them
unfoldable pub packed_table : List calculus.Clause → List Clause
packed_table cs = exactly most_clauses (packed calculus.no_clause) (map packed cs)

-- The record of a state
abbrev pub packed_state : states.State → State
packed_state s = record {
  run = packed_run s;
  predicates = length s.arities;
  arities = exactly most_predicates 0 s.arities;
  table = packed_table (clauses s);
}

-- The record of an answer, with the numbers handed on
abbrev pub packed_answer : Answer → Option (List ℤ) → Answered
packed_answer a h = record { state = packed_state a.state; number = a.number; place = a.place; witness = packed_given h }

-- A record is that of one state reached at most. Proved in proofs/Packing.antt.
abbrev pub PackingInjective : Type 0
PackingInjective = (s s' : states.State) → Reached (plain whole) s → Reached (plain whole) s' → packed_state s ≡ packed_state s' → s ≡ s'

-- Taken for granted of a state record: it is that of a state reached, from admitted clauses or from any other start.
pub record StateOf (r : State) (s : states.State) : Type 0 where
  pub reached : Reached (plain whole) s
  pub is : r ≡ packed_state s

abbrev pub Made : State → Type 0
Made r = (s : states.State) × StateOf r s

-- What `step` promises: the calculus's answer, and what the step hands on, of every such state.
abbrev pub Answers : State → Step → Answered → Type 0
Answers r x a =
    (s : states.State) → StateOf r s → (b : Answer) × (h : Option (List ℤ)) × Judged whole s (step_of x) b × HandsOn s (step_of x) b.number h × (a ≡ packed_answer b h)

-- ---- admission

-- "Only admission makes a state": of what it accepts, the state in which nothing has been done. "A refused file yields no state": beside
-- a refusal stands the record of no clauses, no predicates and no constants, of version 1:
-- nothing of what was offered is left in it.
abbrev pub made_of : ℕ → Version → ℕ → List ℕ → List calculus.Clause → states.State
made_of number version constants arities cs = cond (eqb number accepted) (fresh version constants arities cs) (fresh One 0 [] [])

-- What `admit` answers of the version, constants, arities and clauses that were offered
unfoldable pub opened : Version → ℕ → List ℕ → List calculus.Clause → Opened
opened version constants arities cs =
    let r = admission_refusal constants arities cs in
    record { state = packed_state (made_of r.number version constants arities cs); number = r.number; place = r.place }

-- A run of no steps
abbrev pub new_run : Version → ℕ → ℕ → Run
new_run version constants input = record {
  version = version;
  constants = constants;
  input = input;
  learned = 0;
  level = 0;
  length = 0;
  stands = false;
  trail = packed_trail [];
  conflict = packed_instanced calculus.no_instanced;
}

-- r is the state in which nothing has been done, of the clauses whose records these are.
abbrev pub IsNew : Version → ℕ → List ℕ → List Clause → State → Type 0
IsNew version constants arities ks r = (cs : List calculus.Clause) → ks ≡ map packed cs → r ≡ packed_state (fresh version constants arities cs)

-- What is accepted is admitted, and the state handed back is its record: what `step` takes for granted. Proved in proofs/Opening.antt.
abbrev pub AdmitMakesStates : Type 0
AdmitMakesStates = (version : Version) (constants : ℕ) (arities : List ℕ) (cs : List calculus.Clause) (a : Opened) → a ≡ opened version constants arities cs → a.number ≡ accepted
    → Admitted (fresh version constants arities cs) × StateOf a.state (fresh version constants arities cs)

-- .. and so may be taken what stands beside a refusal: the state of no clauses is admitted too.
abbrev pub AdmitKeeps : Type 0
AdmitKeeps = (version : Version) (constants : ℕ) (arities : List ℕ) (cs : List calculus.Clause) (a : Opened) → a ≡ opened version constants arities cs → Made a.state

-- ---- steps

-- The table after a step of the run r: the conflict that stood is written under the number at which it was learned.
abbrev pub written : List Clause → Clause → std.Option ℕ → List Clause
written table k std.None = table
written table k (std.Some n) = set table (n - 1) k

abbrev pub table_after : List Clause → Run → RunAnswer → List Clause
table_after table r a = written table r.conflict.clause a.learned

-- Every step keeps what it takes for granted. Proved in proofs/Runs.antt.
abbrev pub StepKeeps : Type 0
StepKeeps = (r : State) (x : Step) (a : Answered) → Made r → Answers r x a → Made a.state

-- Every step has an answer where `step` may be asked. Proved in proofs/Runs.antt.
abbrev pub EveryStepAnswered : Type 0
EveryStepAnswered = (r : State) (x : Step) → Made r → (a : Answered) × Answers r x a

-- The answer is unique. Proved in proofs/Runs.antt.
abbrev pub AnswerUnique : Type 0
AnswerUnique = (r : State) (x : Step) (a b : Answered) → Made r → Answers r x a → Answers r x b → a ≡ b

-- ---- the numbers handed on

-- Numbers are given exactly by an accepted step of a rule that tests, and then a reader can check them by hand: they keep the order and make every
-- atom true that the rule asked about. Proved in proofs/Runs.antt.
pub record HandedOn (s : states.State) (x : Step) (a : Answered) : Type 0 where
  pub exactly_if : T (is_some a.witness) ↔ T (eqb a.number accepted && tests (step_of x))
  pub checked : (slots : List ℤ) → a.witness ≡ std.Some slots → (numbers : List ℤ) × (slots ≡ packed_numbers numbers) × Checked s.constants (question s (step_of x)) numbers

abbrev pub StepHandsOn : Type 0
StepHandsOn = (r : State) (s : states.State) (x : Step) (a : Answered) → StateOf r s → Answers r x a → HandedOn s x a
