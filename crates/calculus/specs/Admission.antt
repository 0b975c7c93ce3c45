-- Admission: which clauses make a state, and which state. The paper's sections "Clauses" and "Refusal numbers".
use Rattle.std.specs.Prelude.{◌≡◌, Bool, ◌&&◌, cond, ℕ, zero, suc, ◌≤◌, eqb, leb, length}
use mathlib.Core.List.{List, [], ◌∷◌, Memᴰ}
use Rattle.std.proofs.Math.Option.{none}
use Rattle.basis.specs.Limits.{most_input, most_predicates, most_arguments, most_constants}
use Rattle.basis.specs.Refusals.{accepted, above_limit}
use Rattle.basis.specs.declared.Version.{Version}
use Rattle.lists.specs.Lists.{all_of}
use Rattle.calculus.specs.Clauses.{Clause}
use Rattle.calculus.specs.Class.{InClass, Limited, clause_refusal}
use Rattle.calculus.specs.States.{State}

-- The state that admission makes
abbrev pub fresh : Version → ℕ → List ℕ → List Clause → State
fresh version constants arities cs = record { version = version; arities = arities; trail = []; input = cs; learned = []; constants = constants; level = zero; conflict = none }

-- ---- in the paper's terms

-- "At most 48 input .. clauses, 8 predicates of arity 0 to 3, 16 constants", each clause of the class and within its limits; and
-- nothing has been done yet.
pub record Admitted (s : State) : Type 0 where
  pub few_constants : s.constants ≤ most_constants
  pub few_predicates : length s.arities ≤ most_predicates
  pub small_arities : (n : ℕ) → Memᴰ n s.arities → n ≤ most_arguments
  pub few_clauses : length s.input ≤ most_input
  pub in_class : (C : Clause) → Memᴰ C s.input → InClass s.arities C
  pub limited : (C : Clause) → Memᴰ C s.input → Limited C
  pub new : s ≡ fresh s.version s.constants s.arities s.input

-- ---- as a test

-- A refusal's number and place; number 0 for none
pub record Refused : Type 0 where
  pub number : ℕ
  pub place : ℕ

abbrev pub counts_fit : ℕ → List ℕ → List Clause → Bool
counts_fit constants arities cs = leb constants most_constants && (leb (length arities) most_predicates && (all_of (λ n. leb n most_arguments) arities && leb (length cs) most_input))

-- The first refused clause, the clauses being numbered from k on
abbrev pub clauses_refusal : List ℕ → ℕ → List Clause → Refused
clauses_refusal arities k [] = record { number = accepted; place = zero }
clauses_refusal arities k (C ∷ cs) =
    let n = clause_refusal arities C in
    let r = clauses_refusal arities (suc k) cs in
    cond (eqb n accepted) r (record { number = n; place = k })

-- "The place is then the number of the first bad clause, or 0 .. for counts and arities, which are judged first."
abbrev pub admission_refusal : ℕ → List ℕ → List Clause → Refused
admission_refusal constants arities cs =
    let r = clauses_refusal arities 1 cs in
    cond (counts_fit constants arities cs) r (record { number = above_limit; place = zero })
