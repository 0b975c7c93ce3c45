-- What a step hands on beside its answer. The request "Show the numbers behind a yes": "Accepted Propagate, Conflict and Backtrack hand these on";
-- and from "Decisions that bring bounds" on Decide, "which hands on numbers".
use Rattle.std.specs.Prelude.{◌≡◌, List, [], ◌∷◌, Bool, true, false, ◌&&◌, ℕ, eqb, ℤ, pos, neg_ℤ}
use Rattle.std.proofs.Math.Option.{Option, none, some}
use Rattle.basis.specs.Choices.{NumbersOf}
use Rattle.basis.specs.Refusals.{accepted}
use Rattle.basis.specs.declared.Atom.{Atom}
use Rattle.basis.specs.declared.Version.TheVariants.{One}
use Rattle.calculus.specs.Admission.{fresh}
use Rattle.calculus.specs.Clauses.{Clause}
use Rattle.calculus.specs.Rules.{question}
use Rattle.calculus.specs.States.{State, Step, Propagate, Decide, Conflict, Resolve, Factorize, Skip, Backtrack, Grow, Unknown}

-- The rules that put their question to the constraint test
abbrev pub tests : Step → Bool
tests (Propagate c l τ) = true
tests (Decide c l g τ zs) = true
tests (Conflict c τ) = true
tests (Resolve l) = false
tests (Factorize i j) = false
tests Skip = false
tests (Backtrack l) = true
tests (Grow n) = false
tests (Unknown r) = false

-- The numbers behind the yes to these atoms; or none
abbrev pub Hands : (due : Bool) (constants : ℕ) → List Atom → Option (List ℤ) → Type 0
Hands true constants atoms h = (numbers : List ℤ) × NumbersOf constants atoms numbers × (h ≡ some numbers)
Hands false constants atoms h = h ≡ none

-- What the step x at the state s hands on where its answer has this number: an accepted one, of a rule that tests, the numbers of what it asked;
-- every other step none.
abbrev pub HandsOn : State → Step → (number : ℕ) → Option (List ℤ) → Type 0
HandsOn s x number h = Hands (eqb number accepted && tests x) s.constants (question s x) h

-- An example: two constants, an empty trail, and x ≥ 2 ∥ P1(x). An accepted Propagate at b1 asks that b1 be at least 2, and hands on 2 and 3. Proved
-- in proofs/Handing.antt.
abbrev pub FirstHands : Type 0
FirstHands =
    let atLeastTwo : Clause = record { variables = 1; atoms = record { p = 0; q = 1; c = neg_ℤ (pos 2) } ∷ []; literals = record { positive = true; predicate = 1; x = 1; y = 0; z = 0 } ∷ [] } in
    HandsOn (fresh One 2 (1 ∷ []) (atLeastTwo ∷ [])) (Propagate 1 1 (1 ∷ [])) accepted (some (pos 2 ∷ pos 3 ∷ []))
