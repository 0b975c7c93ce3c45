-- A run record read as the state that it is the record of.
use Rattle.std.specs.Prelude as std
use mathlib.Core.Path.{◌∙◌, ◌≡◌, ap, refl, subst, sym}
use mathlib.Core.List.{List, [], ◌∷◌}
use mathlib.Core.Option.{Option, some}
use mathlib.Core.Bool.{Bool, ◌&&◌, false, true}
use Prim.Native.Nat.{◌+◌, ◌-◌, ◌<◌, ◌≤◌, suc, zero, ℕ}
use native.Mathlib.Omega.{arith}
use lib.Dec.{T, leb, le→leb}
use lib.ListN.{get_or, length, length-append, take}
use Rattle.basis.specs.Refusals.{accepted}
use Rattle.basis.specs.Limits.{most_atoms, most_constants, most_entries, most_input, most_learned, most_literals, most_variables}
use Rattle.lists.proofs.Tests.{T→eq, and_i}
use Rattle.rules.specs.Answers.{Kept, RunOf}
use Rattle.rules.specs.Records.{RunAnswer, Shown, conflict_said, packed_run, taken_up}
use Rattle.rules.specs.declared.Run.{Run}
use Rattle.calculus.proofs.Levels.{clause_held}
use Rattle.calculus.specs.Class.{Limited, within_limits}
use Rattle.calculus.specs.Tests.{clause_exists}
use Rattle.calculus.specs.States.{State, clause_at, clauses, conflict_of, stands, updated}
use Rattle.calculus.specs.Trails.{Trail}
use Rattle.clauses.proofs.Records.{packed_instanced_says, packed_says}
use Rattle.clauses.specs.Records.{clause_of, instanced_of, packed, packed_instanced}
use Rattle.clauses.specs.declared.Clause.{Clause}
use Rattle.clauses.specs.declared.Instanced.{Instanced}
use Rattle.deciding.specs.Weighing.{PartsOf}
use Rattle.reaching.proofs.Reached.{FineConflict, FineState, decisions_few, fine_short, no_conflict, reached_fine, some_conflict}
use Rattle.trail.proofs.Stored.{packed_length, packed_stored, row_held, stored_length}
use Rattle.trail.specs.Entries.{Stored, entry_of, past_end, trail_of}
use Rattle.trail.specs.declared.Entry as entries
use Rattle.calculus.specs.Clauses as calculus

-- ---- what the records of clauses say

conflict_said_lem : (b : Bool) (n : Instanced) (c : Option calculus.Instanced) → b ≡ stands c → (b ≡ true → instanced_of n ≡ conflict_of c) → conflict_said b n ≡ c
conflict_said_lem true n c e h = ap (λ N. some N) (h refl) ∙ sym (some_conflict c (sym e))
conflict_said_lem false n c e h = sym (no_conflict c (sym e))

pub within : (C : calculus.Clause) → Limited C → within_limits C ≡ true
within C h = T→eq (within_limits C) (and_i (leb C.variables most_variables) (leb (length C.atoms) most_atoms && leb (length C.literals) most_literals) (le→leb C.variables most_variables h.few_variables)
    (and_i (leb (length C.atoms) most_atoms) (leb (length C.literals) most_literals) (le→leb (length C.atoms) most_atoms h.few_atoms) (le→leb (length C.literals) most_literals h.few_literals)))

module _ {r : Run} {s : State} (R : RunOf r s) where
  pub fine : FineState s
  fine = reached_fine s R.reached

  pub stands_is : r.stands ≡ stands s.conflict
  stands_is = ap (λ (q : Run). q.stands) R.is

  pub version_is : r.version ≡ s.version
  version_is = ap (λ (q : Run). q.version) R.is

  pub constants_is : r.constants ≡ s.constants
  constants_is = ap (λ (q : Run). q.constants) R.is

  pub level_is : r.level ≡ s.level
  level_is = ap (λ (q : Run). q.level) R.is

  pub input_is : r.input ≡ length s.input
  input_is = ap (λ (q : Run). q.input) R.is

  pub learned_is : r.learned ≡ length s.learned
  learned_is = ap (λ (q : Run). q.learned) R.is

  pub clauses_is : r.input + r.learned ≡ length (clauses s)
  clauses_is = omega (arith, input_is, learned_is, length-append s.input s.learned)

  pub stored : Stored r.trail r.length s.trail
  stored = subst (λ (q : Run). Stored q.trail q.length s.trail) (sym R.is) (packed_stored s.trail fine.few_entries (fine_short (clauses s) s.constants s.trail fine.entries))

  pub conflict_is : r.conflict ≡ packed_instanced (conflict_of s.conflict)
  conflict_is = ap (λ (q : Run). q.conflict) R.is

  -- ---- a conflict that stands

  module _ (e : r.stands ≡ true) where
    pub standing : stands s.conflict ≡ true
    standing = sym stands_is ∙ e

    pub fine_conflict : FineConflict s.arities s.constants (conflict_of s.conflict)
    fine_conflict = fine.conflict (conflict_of s.conflict) (some_conflict s.conflict standing)

    pub conflict_says : instanced_of r.conflict ≡ conflict_of s.conflict
    conflict_says = ap instanced_of conflict_is ∙ packed_instanced_says (conflict_of s.conflict) fine_conflict.limited fine_conflict.sized.size

  -- ---- a clause that is named

  pub clause_says : (c : ℕ) (k : Clause) → T (clause_exists (clauses s) c) → k ≡ packed (clause_at (clauses s) c) → clause_of k ≡ clause_at (clauses s) c
  clause_says c k h e = ap clause_of e ∙ packed_says (clause_at (clauses s) c) (fine.limited (clause_at (clauses s) c) (clause_held (clauses s) c h))

-- What Decide's weighing is shown
pub shown : {r : Run} {s : State} → RunOf r s → PartsOf (take r.length r.trail) r.constants (r.input + r.learned) r.stands r.version s
shown {s = s} R = record {
  reached = R.reached;
  trail_is = ap (λ (q : Run). take q.length q.trail) R.is ∙ row_held s.trail (fine R).few_entries;
  constants_is = constants_is R;
  clauses_is = clauses_is R;
  stands_is = stands_is R;
  version_is = version_is R;
}

-- The run with other constants, level, trail and conflict
abbrev pub remade : Run → (constants level length : ℕ) → List entries.Entry → Instanced → Run
remade r m k n t f = record { version = r.version; constants = m; input = r.input; learned = r.learned; level = k; length = n; stands = r.stands; trail = t; conflict = f }

-- .. with another trail array
abbrev pub restored : Run → List entries.Entry → Run
restored r es = remade r r.constants r.level r.length es r.conflict

-- Accepted, with the next run q and nothing learned; w is handed on.
abbrev pub accepting : Run → Shown → RunAnswer
accepting q w = record { run = q; number = accepted; place = 0; learned = std.None; witness = w }

-- A run record that is that of a state, part by part
pub packed_as : {q : Run} (s : State) → q.version ≡ s.version → q.constants ≡ s.constants → q.input ≡ length s.input → q.learned ≡ length s.learned → q.level ≡ s.level → q.stands ≡ stands s.conflict
    → Stored q.trail q.length s.trail → q.conflict ≡ packed_instanced (conflict_of s.conflict) → q ≡ packed_run s
packed_as {q} s version constants input learned level stand trail conflict =
    λ i. record { version = version i; constants = constants i; input = input i; learned = learned i; level = level i; length = sym (stored_length trail) i; stands = stand i; trail = trail.packed i; conflict = conflict i }

-- ---- limits

-- What no sum and no index of the code goes beyond
pub record Small (r : Run) : Type 0 where
  pub few_constants : r.constants ≤ most_constants
  pub few_input : r.input ≤ most_input
  pub few_learned : r.learned ≤ most_learned
  pub few_entries : r.length ≤ most_entries
  pub few_decisions : r.level ≤ r.length
  pub slots : length r.trail ≡ most_entries

pub kept_small : {r : Run} → Kept r → Small r
kept_small {r} (s, R) = record {
  few_constants = omega (arith, constants_is R, (fine R).few_constants);
  few_input = omega (arith, input_is R, (fine R).few_input);
  few_learned = omega (arith, learned_is R, (fine R).few_learned);
  few_entries = (stored R).few;
  few_decisions = omega (arith, level_is R, (fine R).level, decisions_few s.trail, stored_length (stored R));
  slots = ap length (stored R).packed ∙ packed_length s.trail;
}

-- ---- the last entry

-- What the array has last
split_last : (es : List entries.Entry) (n : ℕ) → 1 ≤ n → trail_of es n ≡ entry_of (get_or es (n - 1) past_end) ∷ trail_of es (n - 1)
split_last es zero h = absurd (omega arith)
split_last es (suc n) h = let e : n ≡ suc n - 1 = omega arith in ap (λ (k : ℕ). entry_of (get_or es k past_end) ∷ trail_of es k) e

module _ {r : Run} {s : State} (R : RunOf r s) where
  -- A state with another conflict
  pub with_conflict : (n : Instanced) (w : Shown) (N : calculus.Instanced) → n ≡ packed_instanced N → (taken_up r n w).run ≡ packed_run (updated s s.trail s.level (some N))
  with_conflict n w N h = packed_as (updated s s.trail s.level (some N)) (version_is R) (constants_is R) (input_is R) (learned_is R) (level_is R) refl (stored R) h

-- ---- what a run shows

module _ {r : Run} {s : State} (R : RunOf r s) where
  pub stands_shown : {a : Bool} → r.stands ≡ a → stands s.conflict ≡ a
  stands_shown e = sym (stands_is R) ∙ e

  pub conflict_shown : conflict_said r.stands r.conflict ≡ s.conflict
  conflict_shown = conflict_said_lem r.stands r.conflict s.conflict (stands_is R) (conflict_says R)

  -- The last entry, which stands in slot i
  pub last_shown : (i : ℕ) → i ≡ r.length - 1 → 1 ≤ r.length → s.trail ≡ entry_of (get_or r.trail i past_end) ∷ trail_of r.trail i
  last_shown i e h = sym (stored R).says ∙ split_last r.trail r.length h ∙ ap (λ (k : ℕ). entry_of (get_or r.trail k past_end) ∷ trail_of r.trail k) (sym e)

  pub none_shown : r.length < 1 → s.trail ≡ []
  none_shown h = is-empty s.trail (omega (arith, stored_length (stored R)))
    where
      is-empty : (t : Trail) → length t ≤ 0 → t ≡ []
      is-empty [] k = refl
      is-empty (e ∷ t) k = absurd (omega arith)
