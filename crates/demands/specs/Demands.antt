-- THE USER'S THREE DEMANDS, of the code. Files go through `judge`, steps through `admit` and `step`, and of these a statement here knows what
-- they promise: `Lists s d d' r` of judge, which is lent the file s and the buffer d, leaves d' and answers r; `a ≡ opened ..` of admit; and
-- `Answers r x a` of step, which is asked x at the record r. `Made r` is what step takes for granted: r is the record of a state reached, as is
-- whatever admit, step and `start_again` hand back. Each demand is proved as a whole in proofs/Demands.antt.
use Rattle.std.specs.Prelude.{◌≡◌, ◌↔◌, ◌⊎◌, List, [], ◌++◌, true, false, ℕ, ◌≤◌, ◌<◌, length, take}
use Rattle.std.proofs.Math.Option.{none}
use Rattle.basis.specs.Numbers.{whole}
use Rattle.basis.specs.Refusals.{accepted, above_limit, ends_inside, lacks_bound, no_room, not_false, surplus, too_long}
use Rattle.basis.specs.declared.Version.{Version}
use Rattle.basis.specs.declared.Version.TheVariants.{One}
use Rattle.calculus.specs.Admission.{Admitted, fresh}
use Rattle.calculus.specs.Clauses as calculus
use Rattle.calculus.specs.Conditions.{Allowed, FirstLacking, NamesNotFalse, conditions}
use Rattle.calculus.specs.Rules.{Answer, next}
use Rattle.calculus.specs.Runs.{plain}
use Rattle.calculus.specs.Sound.{SoundStart}
use Rattle.calculus.specs.States as states
use Rattle.calculus.specs.Truth.{NoModel}
use Rattle.runfile.specs.File as runfile
use Rattle.runfile.specs.File.{File, file}
use Rattle.runfile.specs.Readers.{got, bad}
use Rattle.text.specs.Text.{bytes}
use Rattle.listing.specs.Lines.{bad_line}
use Rattle.listing.specs.Listing.{Listing, Tried, most_listing}
use Rattle.judging.specs.Judging.{Lists}
use Rattle.judging.specs.declared.Written.{Written}
use Rattle.judging.specs.declared.Written.TheVariants.{Bytes, Short}
use Rattle.asking.specs.Steps.{step_of}
use Rattle.asking.specs.declared.Step.{Step}
use Rattle.state.specs.Runs.{CodeAccepts, CodeRun, start_again, behind}
use Rattle.state.specs.States.{Answers, Made, StateOf, opened, packed_state}
use Rattle.state.specs.declared.Answered.{Answered}
use Rattle.state.specs.declared.Opened.{Opened}
use Rattle.state.specs.declared.State.{State}

-- There is an answer, and one only, that is what was promised.
pub record Settled {A : Type 0} (Promised : A → Type 0) : Type 0 where
  pub answer : A
  pub promised : Promised answer
  pub only : (a : A) → Promised a → a ≡ answer

-- ---- 1. "Whatever run file or step is offered, the tool ends with a right result or a numbered refusal from its table. Nothing need be tested
-- by the caller beforehand. A refused step hands back the state it was given, unchanged; a refused file yields no state."

-- Of a file: the text written, and the number and place handed back beside it
pub data FileAnswered (s text : List ℕ) (number place : ℕ) : Type 0 where
  -- It is read to its last byte and has this listing; the number is that of the answer to the last step tried.
  listed : (F : File) → file s ≡ got F (length s) → Listing s text → number ≤ no_room → FileAnswered s text number place
  -- It is refused by a number from 1 to 8 or by 22, and this one line is all: no state, no step.
  refused : file s ≡ bad number place → ((ends_inside ≤ number) × (number ≤ surplus)) ⊎ (number ≡ too_long) → place ≤ length s → text ≡ bad_line number place → FileAnswered s text number place

-- Only of a buffer that some listing would not fit `judge` says that it is short, and leaves it.
abbrev pub FileRight : (s d d' : List ℕ) → Written → Type 0
FileRight s d d' (Bytes n k p) = FileAnswered s (take n d') k p
FileRight s d d' Short = (length d < most_listing) × (d' ≡ d)

-- Of clauses offered without a file: accepted, they are admitted and the record is their state's; refused, by a number from 3 to 6, the record
-- is that of no clauses.
pub data AdmitAnswered (version : Version) (constants : ℕ) (arities : List ℕ) (cs : List calculus.Clause) (a : Opened) : Type 0 where
  made : a.number ≡ accepted → Admitted (fresh version constants arities cs) → StateOf a.state (fresh version constants arities cs) → AdmitAnswered version constants arities cs a
  refused : above_limit ≤ a.number → a.number ≤ lacks_bound → a.state ≡ packed_state (fresh One 0 [] []) → AdmitAnswered version constants arities cs a

-- Of a step asked at the record r
pub record StepAnswered (r : State) (a : Answered) : Type 0 where
  -- The number is 0 or one of the table.
  pub in_table : a.number ≤ no_room
  -- Number not 0: the record handed back is the one given.
  pub unchanged : ¬ (a.number ≡ accepted) → a.state ≡ r
  -- What is handed back may be given to `step` again, untested.
  pub made : Made a.state

pub record Demand1 : Type 0 where
  pub file_ends : (s d : List ℕ) → Settled (λ (a : List ℕ × Written). Lists s d a.0 a.1)
  pub file_right : (s d d' : List ℕ) (r : Written) → Lists s d d' r → FileRight s d d' r
  pub admit_right : (version : Version) (constants : ℕ) (arities : List ℕ) (cs : List calculus.Clause) (a : Opened) → a ≡ opened version constants arities cs → AdmitAnswered version constants arities cs a × Made a.state
  pub step_ends : (r : State) (x : Step) → Made r → Settled (Answers r x)
  pub step_right : (r : State) (x : Step) (a : Answered) → Made r → Answers r x a → StepAnswered r a

-- ---- 2. "A step is accepted exactly when the side conditions of its SCL(T) rule hold, as document 01 reads them over whole numbers, and there is
-- room; the next state is the one the rule names. From admitted clauses, a run that reaches a conflict without foreground literals shows that
-- no reading of the predicates over the whole numbers makes every input clause true." Document 01 is the paper,
-- "What we are building and its rules".

-- Of the step x at the state s
pub record RightAnswer (s : states.State) (x : states.Step) (a : Answered) : Type 0 where
  pub acceptance : (a.number ≡ accepted) ↔ Allowed whole s x
  pub next_state : a.number ≡ accepted → a.state ≡ packed_state (next s x)
  -- The number of the first condition that does not hold, and the place: of refusal 12 a literal's, of all others 0
  pub first_lacking : FirstLacking a.number (conditions whole s x)
  pub named : a.number ≡ not_false → NamesNotFalse s x a.place
  pub no_place : ¬ (a.number ≡ not_false) → a.place ≡ 0

-- The record has a conflict without literals.
pub record Refutes (r : State) : Type 0 where
  pub stands : r.run.stands ≡ true
  pub no_literals : r.run.conflict.clause.literalcount ≡ 0

pub record Demand2 : Type 1 where
  pub by_the_rule : (r : State) (s : states.State) (x : Step) (a : Answered) → StateOf r s → Answers r x a → RightAnswer s (step_of x) a
  pub sound : (version : Version) (constants : ℕ) (arities : List ℕ) (cs : List calculus.Clause) (a : Opened) → a ≡ opened version constants arities cs → a.number ≡ accepted
      → (xs : List Step) (r : State) → CodeRun a.state xs r → Refutes r → NoModel whole arities cs
  -- So does a run from any start whose learned clauses are true wherever the input is, such as a state that was reached, started again.
  pub sound_from : (s₀ : states.State) → SoundStart whole s₀ → (xs : List Step) (r : State) → CodeRun (packed_state s₀) xs r → Refutes r → NoModel whole s₀.arities s₀.input
  -- Of a file: the steps of its listing are answered by the same rules (FileAnswered, `Listing`), and where its last line is `refuted`:
  pub file_sound : (s d d' v : List ℕ) (n k p : ℕ) → Lists s d d' (Bytes n k p) → take n d' ≡ v ++ bytes "refuted\n"
      → (F : File) × (file s ≡ got F (length s)) × NoModel whole F.arities F.input

-- ---- 3. "Take any sequence of steps from a fresh state, refused ones among them, ending with no conflict standing. Start again from an empty
-- trail at level 0, with the input clauses, constants and learned clauses held at the end. Give, left to right, the one Propagate or Decide
-- behind each foreground entry of the final trail (for an entry made by Backtrack, the Propagate of its learned clause). Under the rules of 2
-- each is accepted, and the state reached is the same in every part." A decision is given again with the atoms that it brought, and the state is
-- the same in their sources too.

-- What is given back is the run: steps given to `step`, which may take each record on the way, and whose answers are those of demand 2.
pub record Demand3 : Type 0 where
  pub replayed : (version : Version) (constants : ℕ) (arities : List ℕ) (cs : List calculus.Clause) (a : Opened) → a ≡ opened version constants arities cs → a.number ≡ accepted
      → (xs : List Step) (r : State) → CodeRun a.state xs r → r.run.stands ≡ false → CodeAccepts (start_again r) (behind r) r
  -- Of a file: the same of the record of the state in which its listing ends.
  pub file_replayed : (s : List ℕ) (F : File) (n : ℕ) (w : List ℕ) (e : Answer) → file s ≡ got F n → Tried (plain whole) (runfile.opened F) 1 F.steps w e → e.state.conflict ≡ none
      → let r = packed_state e.state in CodeAccepts (start_again r) (behind r) r
