-- Runs of the code: steps given to `step`; and replay: where it starts and the steps that it gives, read off the record of the final state.
use Rattle.std.specs.Prelude.{◌≡◌, List, [], ◌++◌, ◌∷◌, map, false, take}
use Rattle.std.proofs.Math.Option.{none}
use Rattle.basis.specs.Limits.{most_brought}
use Rattle.basis.specs.Numbers.{whole}
use Rattle.basis.specs.Refusals.{accepted}
use Rattle.lists.specs.Arrays.{exactly}
use Rattle.calculus.specs.Clauses.{no_instanced}
use Rattle.calculus.specs.Runs.{Reached, Run, plain, replayed, restarted}
use Rattle.calculus.specs.States as states
use Rattle.clauses.specs.Records.{packed_instanced}
use Rattle.trail.specs.Entries.{packed_trail}
use Rattle.trail.specs.declared.Entry.{Entry}
use Rattle.trail.specs.declared.Kind.{Kind}
use Rattle.trail.specs.declared.Kind.TheVariants.{Background, Brought, Propagated, Decided}
use Rattle.asking.specs.Steps.{no_source, step_of}
use Rattle.asking.specs.declared.Source.{Source}
use Rattle.asking.specs.declared.Step.{Step}
use Rattle.state.specs.States.{Answers, Made, packed_state}
use Rattle.state.specs.declared.Answered.{Answered}
use Rattle.state.specs.declared.State.{State}

-- Steps given to `step` one after the other, each at the record that the one before handed back, which `step` may take; of each answer P holds.
pub data CodeGoes (P : Answered → Type 0) : State → List Step → State → Type 0 where
  over : {r r' : State} → r ≡ r' → CodeGoes P r [] r'
  then : {r r' : State} (x : Step) {xs : List Step} (a : Answered) → Made r → Answers r x a → P a → CodeGoes P a.state xs r' → CodeGoes P r (x ∷ xs) r'

-- Any run, refused steps among them, and one with each step accepted
abbrev pub CodeRun : State → List Step → State → Type 0
CodeRun = CodeGoes (λ a. Unit {0})

abbrev pub CodeAccepts : State → List Step → State → Type 0
CodeAccepts = CodeGoes (λ a. a.number ≡ accepted)

-- Any run of the code is a run of the calculus. Proved in proofs/Runs.antt.
abbrev pub CodeRunsAreRuns : Type 0
CodeRunsAreRuns = (s₀ : states.State) (r : State) (xs : List Step) → Reached (plain whole) s₀ → CodeRun (packed_state s₀) xs r
    → (s : states.State) × Run (plain whole) s₀ (map step_of xs) s × (r ≡ packed_state s)

-- ---- replay

-- "Start again from an empty trail at level 0, with the input clauses, constants and learned clauses held at the end."
abbrev pub start_again : State → State
start_again r = record {
  run = record {
    version = r.run.version;
    constants = r.run.constants;
    input = r.run.input;
    learned = r.run.learned;
    level = 0;
    length = 0;
    stands = false;
    trail = packed_trail [];
    conflict = packed_instanced no_instanced;
  };
  predicates = r.predicates;
  arities = r.arities;
  table = r.table;
}

-- The source that an entry keeps
abbrev pub source_kept : Entry → Source
source_kept e = record { clause = e.clause; number = e.number; sign = e.sign; count = e.count; instance = e.instance }

-- The one Propagate (rule 1) or Decide (rule 2) behind a foreground entry, which "keeps its step: Propagate's clause, literal and instance (after
-- Backtrack, those of the learned clause), or Decide's with the sign" and how many atoms it brought, which are the sources of the entries after it;
-- what the rule has no use for is 0. Behind a background entry there is none.
abbrev pub behind_as : Kind → Entry → (after : List Entry) → List Step
behind_as Background e after = []
behind_as Brought e after = []
behind_as Propagated e after =
    record { rule = 1; clause = e.clause; literal = e.number; other = 0; sign = 0; amount = 0; count = e.count; brought = 0; instance = e.instance; atoms = exactly most_brought no_source [] } ∷ []
behind_as Decided e after =
    record { rule = 2; clause = e.clause; literal = e.number; other = 0; sign = e.sign; amount = 0; count = e.count; brought = e.brought; instance = e.instance; atoms = exactly most_brought no_source (map source_kept (take e.brought after)) } ∷ []

abbrev pub behind_entries : List Entry → List Step
behind_entries [] = []
behind_entries (e ∷ es) = behind_as e.kind e es ++ behind_entries es

-- "Give, left to right, the one Propagate or Decide behind each foreground entry of the final trail."
abbrev pub behind : State → List Step
behind r = behind_entries (take r.run.length r.run.trail)

-- Of the records of states these are what the calculus gives again. Proved in proofs/Replaying.antt.
abbrev pub StartAgainRestarts : Type 0
StartAgainRestarts = (s : states.State) → start_again (packed_state s) ≡ packed_state (restarted s)

abbrev pub BehindReplays : Type 0
BehindReplays = (s : states.State) → Reached (plain whole) s → s.conflict ≡ none → map step_of (behind (packed_state s)) ≡ replayed s.trail

-- What is started again may be given to `step`. Proved in proofs/Replaying.antt.
abbrev pub StartsAgain : Type 0
StartsAgain = (r : State) → Made r → Made (start_again r)

-- So replay is a run of the code: where no conflict stands, the steps behind the trail, given to `step` from the state started again, are each
-- accepted and lead to the same record. Proved in proofs/Replaying.antt.
abbrev pub CodeReplays : Type 0
CodeReplays = (r : State) → Made r → r.run.stands ≡ false → CodeAccepts (start_again r) (behind r) r
