-- What Decide's weighing is shown of a state, and what it answers.
use Rattle.std.specs.Prelude.{◌≡◌, List, ◌++◌, map, reverse, Bool, ℕ, ◌-◌, length, take}
use Rattle.basis.specs.Numbers.{whole}
use Rattle.basis.specs.declared.Atom.{Atom}
use Rattle.basis.specs.declared.Version.{Version}
use Rattle.calculus.specs.Conditions.{Judged}
use Rattle.calculus.specs.Rules.{Answer, decided_literal, is_one, source_in}
use Rattle.calculus.specs.Runs.{Reached, plain}
use Rattle.calculus.specs.States as states
use Rattle.calculus.specs.States.{State, clauses}
use Rattle.calculus.specs.Trails as calculus
use Rattle.calculus.specs.Trails.{Source, atoms_of, foreground, decided}
use Rattle.trail.specs.Entries.{Recorded, packed_entry}
use Rattle.trail.specs.declared.Entry.{Entry}
use Rattle.testing.specs.Asked.{WitnessOf}
use Rattle.asking.specs.Trying.{given_number}
use Rattle.asking.specs.Looking.{atoms_looked, held_at, looked_at, named_at}
use Rattle.asking.specs.Steps.{decide_of}
use Rattle.asking.specs.declared.Looked.{Looked}
use Rattle.asking.specs.declared.Named.{Named}
use Rattle.asking.specs.declared.Step.{Step}
use Rattle.deciding.specs.declared.Weighed.{Weighed}

-- These are a state's, and it was reached: the records of its trail's entries, how many constants and clauses it has, whether
-- a conflict stands, and its version.
pub record PartsOf (trail : List Entry) (constants clauses : ℕ) (stands : Bool) (version : Version) (s : State) : Type 0 where
  pub reached : Reached (plain whole) s
  pub trail_is : trail ≡ map packed_entry (reverse s.trail)
  pub constants_is : constants ≡ s.constants
  pub clauses_is : clauses ≡ length (states.clauses s)
  pub stands_is : stands ≡ states.stands s.conflict
  pub version_is : version ≡ s.version

-- What a Decide looks at in the table: the clause that it names, and what the atoms that it names are
pub record Looks (k : Looked) (n : Named) (x : Step) (s : State) : Type 0 where
  pub clause : k ≡ looked_at s (decide_of x)
  pub atoms : n ≡ named_at s (decide_of x)

-- The atoms that sources name, those of a clause that is not held being the blank clause's
abbrev pub atoms_named : State → List Source → List Atom
atoms_named s zs = map (λ z. source_in (held_at (clauses s) z.clause) z) zs

-- The entry of the decision that x proposes, where it brings n atoms
abbrev pub entry_decided : State → Step → ℕ → calculus.Entry
entry_decided s x n =
    let τ = take x.count x.instance in
    foreground (decided_literal (held_at (clauses s) x.clause) (x.literal - 1) (is_one x.sign) τ) (decided x.clause x.literal (is_one x.sign) τ n)

-- What is weighed: the number of the calculus's answer; how many atoms are looked at; the record of the decision that brings so many; and what
-- the constraint test says of the trail's atoms and those.
pub record Weighs (s : State) (x : Step) (w : Weighed) : Type 0 where
  pub answer : Answer
  pub judged : Judged whole s (decide_of x) answer
  pub number : given_number w.refusal ≡ answer.number
  pub count : w.count ≡ length (atoms_looked s (decide_of x))
  pub own : Recorded w.own (entry_decided s x (length (atoms_looked s (decide_of x))))
  pub witness : WitnessOf s.constants (atoms_of s.trail ++ atoms_named s (atoms_looked s (decide_of x))) w.witness

-- Taken for granted: these are those of a state reached, and of what a Decide looks at there. Promised: what is weighed, of every such state.
abbrev pub Offered : List Entry → (constants clauses : ℕ) → Bool → Version → Looked → Named → Step → Type 0
Offered trail constants clauses stands version k n x = (s : State) × PartsOf trail constants clauses stands version s × Looks k n x s

abbrev pub WeighsAll : List Entry → (constants clauses : ℕ) → Bool → Version → Looked → Named → Step → Weighed → Type 0
WeighsAll trail constants clauses stands version k n x w = (s : State) → PartsOf trail constants clauses stands version s → Looks k n x s → Weighs s x w

-- It is unique. Proved in proofs/Once.antt.
abbrev pub WeighedOnce : Type 0
WeighedOnce = (trail : List Entry) (constants clauses : ℕ) (stands : Bool) (version : Version) (k : Looked) (n : Named) (x : Step) (v w : Weighed)
    → Offered trail constants clauses stands version k n x → WeighsAll trail constants clauses stands version k n x v
    → WeighsAll trail constants clauses stands version k n x w → v ≡ w
