-- A state reached is what its record says, so no two have the same record.
use mathlib.Core.Path.{◌∙◌, ◌≡◌, ap, ap₂, refl, sym}
use mathlib.Core.List.{List, map, map-id, map-map}
use Prim.Native.Nat.{◌+◌}
use native.Mathlib.Omega.{arith}
use lib.ListN.{drop, length-map, take}
use lib.Seq.{drop_at, take_at}
use Rattle.basis.specs.Limits.{most_clauses, most_predicates}
use Rattle.lists.proofs.Arrays.{take_exactly}
use Rattle.lists.proofs.Members.{map_same}
use Rattle.calculus.specs.Clauses as calculus
use Rattle.calculus.specs.States as states
use Rattle.calculus.specs.States.{clauses}
use Rattle.clauses.proofs.Records.{packed_says}
use Rattle.clauses.specs.Records.{clause_of, packed}
use Rattle.clauses.specs.declared.Clause.{Clause}
use Rattle.reaching.proofs.Reached.{few_predicates}
use Rattle.rules.proofs.Runs.{clauses_is, conflict_shown, constants_is, fine, input_is, level_is, stored, version_is}
use Rattle.rules.specs.Answers.{RunOf}
use Rattle.rules.specs.Records.{conflict_said}
use Rattle.rules.specs.declared.Run.{Run}
use Rattle.trail.specs.Entries.{trail_of}
use Rattle.state.specs.States.{PackingInjective, StateOf, packed_table}
use Rattle.state.specs.declared.State.{State}
use Rattle.state.proofs.Table.{few, run_of, table_is}

-- The first clauses of a table
abbrev clauses_of : Run → List Clause → List calculus.Clause
clauses_of run table = map clause_of (take (run.input + run.learned) table)

-- What the record of a state says
abbrev state_of : State → states.State
state_of r = record {
  version = r.run.version;
  arities = take r.predicates r.arities;
  trail = trail_of r.run.trail r.run.length;
  input = take r.run.input (clauses_of r.run r.table);
  learned = drop r.run.input (clauses_of r.run r.table);
  constants = r.run.constants;
  level = r.run.level;
  conflict = conflict_said r.run.stands r.run.conflict;
}

pub clauses_said : {run : Run} {s : states.State} {table : List Clause} → RunOf run s → table ≡ packed_table (clauses s) → clauses_of run table ≡ clauses s
unfolding packed_table
clauses_said {s = s} R is =
    ap₂ (λ n l. map clause_of (take n l)) (clauses_is R ∙ sym (length-map (clauses s) packed)) is
    ∙ ap (map clause_of) (take_exactly (packed calculus.no_clause) most_clauses (map packed (clauses s)) (omega (arith, length-map (clauses s) packed, few R is)))
    ∙ map-map clause_of packed (clauses s) ∙ map_same (λ C. clause_of (packed C)) (λ C. C) (clauses s) (λ C k. packed_says C ((fine R).limited C k)) ∙ map-id (clauses s)

module _ {r : State} {s : states.State} (S : StateOf r s) where
  held : clauses_of r.run r.table ≡ clauses s
  held = clauses_said (run_of S) (table_is S)

  arities_said : take r.predicates r.arities ≡ s.arities
  arities_said = ap (λ (q : State). take q.predicates q.arities) S.is ∙ take_exactly 0 most_predicates s.arities (few_predicates s S.reached)

  -- The input clauses stand before the learned ones.
  state_said : state_of r ≡ s
  state_said = λ i. record {
    version = version_is (run_of S) i;
    arities = arities_said i;
    trail = (stored (run_of S)).says i;
    input = (ap (take r.run.input) held ∙ take_at s.input s.learned r.run.input (sym (input_is (run_of S)))) i;
    learned = (ap (drop r.run.input) held ∙ drop_at s.input s.learned r.run.input (sym (input_is (run_of S)))) i;
    constants = constants_is (run_of S) i;
    level = level_is (run_of S) i;
    conflict = conflict_shown (run_of S) i;
  }

pub packing_injective : PackingInjective
packing_injective s s' h h' e = sym (state_said (record { reached = h; is = refl })) ∙ state_said (record { reached = h'; is = e })
