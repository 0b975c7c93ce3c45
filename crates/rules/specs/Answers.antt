-- What a rule takes for granted of the run and of what it looks at, and what it answers.
use Rattle.std.specs.Prelude.{◌≡◌, List, ℕ, ℤ}
use Rattle.std.proofs.Math.Option.{Option}
use Rattle.basis.specs.Numbers.{whole}
use Rattle.calculus.specs.Conditions.{Judged}
use Rattle.calculus.specs.Handing.{HandsOn}
use Rattle.calculus.specs.Rules.{Answer}
use Rattle.calculus.specs.Runs.{Reached, plain}
use Rattle.calculus.specs.States.{State, Step}
use Rattle.asking.specs.Looking.{looked_at, named_at}
use Rattle.rules.specs.Records.{RunAnswer, outcome, packed_run, packed_answer}
use Rattle.asking.specs.declared.Looked.{Looked}
use Rattle.asking.specs.declared.Named.{Named}
use Rattle.rules.specs.declared.Run.{Run}
use Rattle.rules.specs.declared.Stepped.{Stepped}
use Rattle.basis.specs.declared.Refused.{Refused}
use Rattle.std.specs.Prelude.{Result}

-- r is the record of the state s, and s was reached: "only admission makes a state and only steps change it".
pub record RunOf (r : Run) (s : State) : Type 0 where
  pub reached : Reached (plain whole) s
  pub is : r ≡ packed_run s

-- The record of the calculus's answer to step x at the state s, and of what the step hands on
abbrev pub Told : State → Step → RunAnswer → Type 0
Told s x a = (b : Answer) × (h : Option (List ℤ)) × Judged whole s x b × HandsOn s x b.number h × (a ≡ packed_answer s x b h)

-- Taken for granted by each rule: the run is that of a state reached; and by a rule that looks at the clause table: it is handed what the step
-- looks at.
abbrev pub Kept : Run → Type 0
Kept r = (s : State) × RunOf r s

abbrev pub Handed : Run → Looked → Step → Type 0
Handed r k x = (s : State) × RunOf r s × (k ≡ looked_at s x)

-- .. and by Decide: what the atoms that it names are.
abbrev pub HandedNamed : Run → Looked → Named → Step → Type 0
HandedNamed r k n x = (s : State) × RunOf r s × (k ≡ looked_at s x) × (n ≡ named_at s x)

-- What each rule promises: it answers as the calculus does, of every such state.
abbrev pub Answers : Run → Step → RunAnswer → Type 0
Answers r x a = (s : State) → RunOf r s → Told s x a

abbrev pub Answered : Run → Looked → Step → RunAnswer → Type 0
Answered r k x a = (s : State) → RunOf r s → k ≡ looked_at s x → Told s x a

abbrev pub AnsweredNamed : Run → Looked → Named → Step → RunAnswer → Type 0
AnsweredNamed r k n x a = (s : State) → RunOf r s → k ≡ looked_at s x → n ≡ named_at s x → Told s x a

-- The answer is unique. Proved in proofs/Told.antt.
abbrev pub AnswerUnique : Type 0
AnswerUnique = (r : Run) (k : Looked) (x : Step) (a b : Result Stepped (Refused ℕ)) → Handed r k x → Answered r k x (outcome r a) → Answered r k x (outcome r b) → a ≡ b

-- .. and so is that of a rule that looks at no clause of the table.
abbrev pub RunAnswerUnique : Type 0
RunAnswerUnique = (r : Run) (x : Step) (a b : Result Stepped (Refused ℕ)) → Kept r → Answers r x (outcome r a) → Answers r x (outcome r b) → a ≡ b

-- .. and that of Decide.
abbrev pub NamedAnswerUnique : Type 0
NamedAnswerUnique = (r : Run) (k : Looked) (n : Named) (x : Step) (a b : Result Stepped (Refused ℕ)) → HandedNamed r k n x → AnsweredNamed r k n x (outcome r a) → AnsweredNamed r k n x (outcome r b) → a ≡ b
