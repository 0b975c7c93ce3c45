-- What every state reached has, and soundness and replay over the rules, with the numbers as a parameter: the demands of the code rest on them.
-- Proved in proofs/Sound.antt and proofs/Intact.antt.
use Rattle.std.specs.Prelude.{◌≡◌, Bool, not, ℕ, ◌≤◌, T, length}
use mathlib.Core.List.{List, [], ◌++◌, ◌∷◌, Memᴰ}
use Rattle.std.proofs.Math.Option.{none, some}
use Rattle.basis.specs.Limits.{most_constants, most_entries, most_learned}
use Rattle.basis.specs.declared.Literal.{Literal}
use Rattle.basis.specs.Refusals.{kept_not_possible, not_possible}
use Rattle.basis.specs.Numbers.{Numbers}
use Rattle.basis.specs.Atoms.{Possible}
use Rattle.calculus.specs.Clauses.{Clause, Instanced, ground}
use Rattle.calculus.specs.Trails.{Origin, Source, foreground, background, decided, Trail, atom_on_trail, undefined, is_false, decisions, atoms_of}
use Rattle.calculus.specs.Class.{InClass, Limited}
use Rattle.calculus.specs.States.{Decide, State, Step, clauses}
use Rattle.calculus.specs.Admission.{Admitted}
use Rattle.calculus.specs.Truth.{Follows, NoModel}
use Rattle.calculus.specs.Conditions.{Allowed, Judged}
use Rattle.calculus.specs.Rules.{Answer, brought_at, decided_trail, is_one}
use Rattle.calculus.specs.Runs.{Judge, Run, AcceptedRun, Reached, Start, plain, replayed, restarted}

-- "No atom of either kind twice on the trail": each entry is new to those before it.
abbrev pub Once : Trail → Type 0
Once [] = Unit {0}
Once (foreground l o ∷ t) = T (undefined t l) × Once t
Once (background a o ∷ t) = T (not (atom_on_trail a t)) × Once t

-- "Every state reached has: no atom of either kind twice on the trail, trail atoms possible, each learned clause true wherever the input
-- is, and within the clause class"; besides, it is within the limits, the level is the number of decisions, and a conflict's literals are
-- false on the trail.
pub record Sound (N : Numbers) (s : State) : Type 1 where
  pub once : Once s.trail
  pub possible : Possible N s.constants (atoms_of s.trail)
  pub follow : (C : Clause) → Memᴰ C s.learned → Follows N s.arities s.input C
  pub class : (C : Clause) → Memᴰ C s.learned → InClass s.arities C
  pub limited : (C : Clause) → Memᴰ C s.learned → Limited C
  -- "The trail holds at most 160 entries"; "at most .. 48 learned clauses .. 16 constants".
  pub few_entries : length s.trail ≤ most_entries
  pub few_learned : length s.learned ≤ most_learned
  pub few_constants : s.constants ≤ most_constants
  pub level : s.level ≡ decisions s.trail
  pub denied : (K : Instanced) → s.conflict ≡ some K → (l : Literal) → Memᴰ l K.clause.literals → T (is_false s.trail (ground K.instance l))

-- A start whose learned clauses are true wherever the input is: admitted clauses, and what a sound state is started again from
pub record SoundStart (N : Numbers) (s : State) : Type 1 where
  pub start : Start s
  pub follow : (C : Clause) → Memᴰ C s.learned → Follows N s.arities s.input C

-- Over the numbers N a conflict without literals, reached from such a start under the judge J, shows that no reading makes every input
-- clause true.
abbrev pub SoundJudge : Numbers → Judge → Type 1
SoundJudge N J = (s₀ : State) (o : J.Over) (xs : List Step) (K : Instanced) → SoundStart N s₀ → Run J (J.start s₀) xs o → (J.state o).conflict ≡ some K → K.clause.literals ≡ []
    → NoModel N s₀.arities s₀.input

-- What comes next is a foreground entry, or nothing. A trail has its last entry first.
pub data NextForeground : Trail → Type 0 where
  nothing : NextForeground []
  entry : (later : Trail) (l : Literal) (o : Origin) → NextForeground (later ++ (foreground l o ∷ []))

-- A decision on a trail to which the steps lead from s₀, between what stands later and what stands earlier; it keeps that it brought n atoms.
pub record DecisionIntact (N : Numbers) (s₀ : State) (xs : List Step) (later earlier : Trail) (l : Literal) (c i : ℕ) (b : Bool) (τ : List ℕ) (n : ℕ) : Type 0 where
  -- Its Decide is one of the steps, was accepted with this trail before it, and named these atoms.
  pub before : List Step
  pub after : List Step
  pub sign : ℕ
  pub offered : List Source
  pub given : xs ≡ before ++ (Decide c i sign τ offered ∷ after)
  pub asked : State
  pub run : Run (plain N) s₀ before asked
  pub stood : asked.trail ≡ earlier
  pub allowed : Allowed N asked (Decide c i sign τ offered)
  pub with_sign : is_one sign ≡ b
  -- They follow it in order, so many as it keeps, and then comes a foreground entry or nothing.
  pub as_many : length (brought_at asked offered) ≡ n
  pub next_on : Trail
  pub next_foreground : NextForeground next_on
  pub follow : later ++ (foreground l (decided c i b τ n) ∷ earlier) ≡ next_on ++ decided_trail (clauses asked) c i b τ (brought_at asked offered) earlier

module _ (N : Numbers) where
  -- What every state reached has
  abbrev pub EveryStateReached : Type 1
  EveryStateReached = (s₀ s : State) (xs : List Step) → SoundStart N s₀ → Run (plain N) s₀ xs s → Sound N s

  -- Admitted clauses are a sound start, and so is every state reached from a sound start, started again; the latter is a start in any case.
  abbrev pub AdmittedSound : Type 1
  AdmittedSound = (s : State) → Admitted s → SoundStart N s

  abbrev pub RestartedSound : Type 1
  RestartedSound = (s₀ s : State) (xs : List Step) → SoundStart N s₀ → Run (plain N) s₀ xs s → SoundStart N (restarted s)

  abbrev pub RestartedStarts : Type 0
  RestartedStarts = (s : State) → Reached (plain N) s → Start (restarted s)

  -- Started again, the steps behind the trail's foreground entries are each accepted and lead to the same state.
  abbrev pub Replays : Type 0
  Replays = (s : State) → Reached (plain N) s → s.conflict ≡ none → AcceptedRun (plain N) (restarted s) (replayed s.trail) s

  -- Where no conflict stands, the entries from a decision to the next foreground one are exactly the atoms that its Decide named, in order.
  abbrev pub DecisionsIntact : Type 0
  DecisionsIntact = (s₀ s : State) (xs : List Step) → Start s₀ → Run (plain N) s₀ xs s → s.conflict ≡ none
      → (later earlier : Trail) (l : Literal) (c i : ℕ) (b : Bool) (τ : List ℕ) (n : ℕ) → s.trail ≡ later ++ (foreground l (decided c i b τ n) ∷ earlier)
      → DecisionIntact N s₀ xs later earlier l c i b τ n

  -- A decision that brings no atoms is never refused by 13: the trail's atoms are possible. So version 1 decides as it did.
  abbrev pub NoneBroughtNever13 : Type 0
  NoneBroughtNever13 = (s : State) → Reached (plain N) s → (c l g : ℕ) (τ : List ℕ) (zs : List Source) → brought_at s zs ≡ []
      → (a : Answer) → Judged N s (Decide c l g τ zs) a → ¬ (a.number ≡ not_possible)

  -- Refusal 17 is never given.
  abbrev pub Never17 : Type 0
  Never17 = (s : State) → Reached (plain N) s → (x : Step) (a : Answer) → Judged N s x a → ¬ (a.number ≡ kept_not_possible)
