-- What the records of a state say is the state: so the text written of them is the state's.
use mathlib.Core.Path.{◌≡◌, refl, sym, ap, subst, ◌∙◌}
use mathlib.Core.List.{List, [], ◌∷◌, ◌++◌, map, reverse}
use Prim.Native.Nat.{ℕ, suc, ◌+◌, ◌≤◌}
use native.Mathlib.Omega.{arith}
use lib.ListN.{length, take}
use Rattle.calculus.specs.States.{State, clauses}
use Rattle.clauses.specs.Records.{clause_of}
use Rattle.clauses.specs.declared.Clause.{Clause}
use Rattle.trail.proofs.Stored.{packed_length, row_says}
use Rattle.trail.specs.Entries.{entry_of}
use Rattle.rules.proofs.Runs.{conflict_shown, constants_is, level_is, stored}
use Rattle.rules.specs.Answers.{RunOf}
use Rattle.rules.specs.Records.{conflict_said}
use Rattle.rules.specs.declared.Run.{Run}
use Rattle.state.proofs.Packing.{clauses_said}
use Rattle.state.proofs.Table.{run_of, table_is}
use Rattle.state.specs.States as states
use Rattle.state.specs.declared.State as whole
use Rattle.clausetext.specs.ClauseText.{in_turn}
use Rattle.inspection.specs.StateText.{entry_line, clause_line, first_line, conflict_line, state_text}
use Rattle.inspection.specs.Writing.{Beside, Recorded, ShownOnce, PutsState, clause_line_of, entry_line_of, most_state}

-- The text of elements that say others, numbered from one more
turn_says : {A B : Type 0} (f : ℕ → B → List ℕ) (g : A → B) (n : ℕ) (xs : List A) → in_turn n (λ k x. f (k + 1) (g x)) xs ≡ in_turn (n + 1) f (map g xs)
turn_says f g n [] = refl
turn_says f g n (x ∷ xs) = ap (λ (w : List ℕ). f (n + 1) (g x) ++ w) (turn_says f g (suc n) xs ∙ ap (λ (k : ℕ). in_turn k f (map g xs)) (omega arith))

module _ {run : Run} {table : List Clause} {s : State} (R : Recorded run table s) where
  trail_text : in_turn 0 entry_line_of (take run.length run.trail) ≡ in_turn 1 entry_line (reverse s.trail)
  trail_text =
      let S = stored R.run_of in
      turn_says entry_line entry_of 0 (take run.length run.trail)
      ∙ ap (in_turn 1 entry_line) (row_says run.trail run.length (omega (arith, S.few, ap length S.packed, packed_length s.trail)) ∙ ap reverse S.says)

  clauses_text : in_turn 0 clause_line_of (take (run.input + run.learned) table) ≡ in_turn 1 clause_line (clauses s)
  clauses_text = turn_says clause_line clause_of 0 (take (run.input + run.learned) table) ∙ ap (in_turn 1 clause_line) (clauses_said R.run_of R.table_is)

  -- The text of the records
  pub state_text_lem : first_line run.constants run.level ++ in_turn 0 entry_line_of (take run.length run.trail) ++ in_turn 0 clause_line_of (take (run.input + run.learned) table)
      ++ conflict_line (conflict_said run.stands run.conflict) ≡ state_text s
  unfolding state_text
  state_text_lem = λ i. first_line (constants_is R.run_of i) (level_is R.run_of i) ++ trail_text i ++ clauses_text i ++ conflict_line (conflict_shown R.run_of i)

pub shown_once : ShownOnce
shown_once run table d i d₁ d₂ r₁ r₂ (s, R) a b = ((a s R).wrote.left ∙ sym (b s R).wrote.left, (a s R).wrote.next ∙ sym (b s R).wrote.next)

-- Of a whole state record, its run and its table
pub beside_of : {r : whole.State} {run : Run} {table : List Clause} → run ≡ r.run → table ≡ r.table → states.Made r → Beside run table
beside_of e f (s, S) = (s, record { run_of = subst (λ (q : Run). RunOf q s) (sym e) (run_of S); table_is = f ∙ table_is S })

pub shown_room : {run : Run} {table : List Clause} {d d' : List ℕ} {i r : ℕ} → Beside run table → PutsState run table d i d' r → r ≤ i + most_state
shown_room (s, R) h = (h s R).room
