-- Run records and answers as the calculus's states and answers.
use Rattle.std.specs.Prelude.{List, Bool, true, false, cond, ℕ, zero, suc, ◌+◌, ◌-◌, min, eqb, ℤ, length, get_or, set}
use Rattle.std.proofs.Math.Option.{Option, none, some}
use Rattle.calculus.specs.Clauses as clauses
use Rattle.calculus.specs.States as calculus
use Rattle.calculus.specs.States.{State, conflict_of}
use Rattle.basis.specs.Limits.{most_atoms, most_variables}
use Rattle.basis.specs.Refusals.{accepted, not_false, number_of}
use Rattle.basis.specs.Atoms.{no_atom}
use Rattle.basis.specs.declared.Atom.{Atom}
use Rattle.basis.specs.declared.Refused.{Refused}
use Rattle.std.specs.Prelude as std
use Rattle.calculus.specs.Rules.{Answer, learns_at}
use Rattle.calculus.specs.Trails as trails
use Rattle.calculus.specs.Trails.{background}
use Rattle.clauses.specs.Records.{instanced_of, packed_instanced}
use Rattle.clauses.specs.declared.Instanced.{Instanced}
use Rattle.lists.specs.Arrays.{exactly}
use Rattle.trail.specs.Entries.{blank_entry, packed_entry, packed_trail}
use Rattle.trail.specs.declared.Entry.{Entry}
use Rattle.lists.specs.declared.Held.{Held}
use Rattle.asking.specs.Steps.{no_source}
use Rattle.asking.specs.declared.Source.{Source}
use Rattle.rules.specs.declared.Run.{Run}
use Rattle.rules.specs.declared.Stepped.{Stepped}
use Rattle.constraint.specs.Witnesses.{packed_given}

-- The run record of a state: its predicates and clauses stand beside it. Slots past a count are blank, and so is the conflict where none stands.
abbrev pub packed_run : State → Run
packed_run s = record {
  version = s.version;
  constants = s.constants;
  input = length s.input;
  learned = length s.learned;
  level = s.level;
  length = length s.trail;
  stands = calculus.stands s.conflict;
  trail = packed_trail s.trail;
  conflict = packed_instanced (conflict_of s.conflict);
}

-- The conflict that a record says, where one stands
abbrev pub conflict_said : Bool → Instanced → Option clauses.Instanced
conflict_said false n = none
conflict_said true n = some (instanced_of n)

-- Numbers, or none, as the code has them
abbrev pub Shown : Type 0
Shown = std.Option (List ℤ)

-- What an answer says of a run: the run handed back, the number and the place, the number under which the conflict that stood was learned, if it was,
-- and the numbers handed on
pub record RunAnswer : Type 0 where
  pub run : Run
  pub number : ℕ
  pub place : ℕ
  pub learned : std.Option ℕ
  pub witness : Shown

-- What is accepted gives the next run ..
abbrev pub accepted_answer : Stepped → RunAnswer
accepted_answer a = record { run = a.run; number = accepted; place = 0; learned = a.learned; witness = a.witness }

-- .. and what is refused leaves the run r that was given: "A refused step hands back the state it was given", and no numbers.
abbrev pub outcome : Run → std.Result Stepped (Refused ℕ) → RunAnswer
outcome r (std.Ok a) = accepted_answer a
outcome r (std.Err e) = record { run = r; number = number_of e.refusal; place = e.place; learned = std.None; witness = std.None }

-- The number under which a clause is learned; 0 is none.
abbrev pub learned_under : ℕ → std.Option ℕ
learned_under zero = std.None
learned_under (suc n) = std.Some (suc n)

-- The record of an answer to the step x at the state s, with the numbers handed on; an accepted Backtrack learned the conflict that stood.
abbrev pub packed_answer : State → calculus.Step → Answer → Option (List ℤ) → RunAnswer
packed_answer s x a h =
    record { run = packed_run a.state; number = a.number; place = a.place; learned = cond (eqb a.number accepted) (learned_under (learns_at s x)) std.None; witness = packed_given h }

-- "A refused step hands back the state it was given", and no numbers; 12 names a literal.
abbrev pub refused_by : Run → ℕ → RunAnswer
refused_by r n = record { run = r; number = n; place = 0; learned = std.None; witness = packed_given none }

abbrev pub refused_at : Run → ℕ → RunAnswer
refused_at r p = record { run = r; number = not_false; place = p; learned = std.None; witness = packed_given none }

-- Accepted, and n is the conflict that stands; w is what is handed on.
abbrev pub taken_up : Run → Instanced → Shown → RunAnswer
taken_up r n w = record {
  run = record { version = r.version; constants = r.constants; input = r.input; learned = r.learned; level = r.level; length = r.length; stands = true; trail = r.trail; conflict = n };
  number = accepted;
  place = 0;
  learned = std.None;
  witness = w;
}

-- Accepted, with the first n entries of an array; c is the number under which a clause was learned, if one was, and w what is handed on.
abbrev pub lengthened : Run → ℕ → List Entry → std.Option ℕ → Shown → RunAnswer
lengthened r n es c w = record {
  run = record { version = r.version; constants = r.constants; input = r.input; learned = r.learned; level = r.level; length = n; stands = r.stands; trail = es; conflict = r.conflict };
  number = accepted;
  place = 0;
  learned = c;
  witness = w;
}

-- The array of n entries without its last d
abbrev pub without_entries : List Entry → ℕ → ℕ → List Entry
without_entries es n zero = es
without_entries es n (suc d) = set (without_entries es n d) (n - suc d) blank_entry

-- The array with the first j atoms behind entry m
abbrev pub with_atoms : List Entry → ℕ → List Atom → ℕ → List Entry
with_atoms es m az zero = es
with_atoms es m az (suc j) = set (with_atoms es m az j) (m + suc j) (packed_entry (background (get_or az j no_atom) none))

-- Accepted: the trail is cut to m entries, e is entry m, and the new atoms follow it and are the last; c and w are as above.
abbrev pub appended_at : Run → ℕ → Entry → Held Atom most_atoms → std.Option ℕ → Shown → RunAnswer
appended_at r m e f c w = lengthened r (m + f.n + 1) (with_atoms (set (without_entries r.trail r.length (r.length - m)) m e) m f.at f.n) c w

-- The source that a record says, as an entry keeps it: with at most 12 constants
abbrev pub source_kept : Source → trails.Source
source_kept z = record { clause = z.clause; number = z.number; sign = z.sign; instance = exactly (min most_variables z.count) 0 z.instance }

-- The array with the first j atoms brought behind entry m, each with its source
abbrev pub with_brought : List Entry → ℕ → List Atom → List Source → ℕ → List Entry
with_brought es m az zs zero = es
with_brought es m az zs (suc j) = set (with_brought es m az zs j) (m + suc j) (packed_entry (background (get_or az j no_atom) (some (source_kept (get_or zs j no_source)))))

-- Accepted: the decision e is appended, the atoms that it brings follow it, and k grew by one; w is what is handed on.
abbrev pub decided_at : Run → Entry → List Atom → List Source → Shown → RunAnswer
decided_at r e az zs w = record {
  run = record { version = r.version; constants = r.constants; input = r.input; learned = r.learned; level = r.level + 1; length = r.length + length az + 1; stands = r.stands; trail = with_brought (set r.trail r.length e) r.length az zs (length az); conflict = r.conflict };
  number = accepted;
  place = 0;
  learned = std.None;
  witness = w;
}
