-- The paper's twelve small examples, E1 to E12, by one statement over the set; and by another those of decisions that bring atoms. Proved in
-- proofs/Examples.antt.
use Rattle.std.specs.Prelude.{◌≡◌, false, true, ℕ, neg_ℤ, pos, ℤ, length}
use mathlib.Core.List.{List, Memᴰ, [], ◌∷◌}
use Rattle.std.proofs.Math.Option.{Option, none, some}
use Rattle.basis.specs.Atoms.{Possible}
use Rattle.basis.specs.Numbers.{whole}
use Rattle.basis.specs.declared.Atom.{Atom}
use Rattle.basis.specs.declared.Literal.{Literal}
use Rattle.basis.specs.declared.Version.TheVariants.{One, Two}
use Rattle.calculus.specs.Admission.{Admitted, fresh}
use Rattle.calculus.specs.Clauses.{Clause, Instanced}
use Rattle.calculus.specs.Conditions.{Judged}
use Rattle.calculus.specs.Rules.{Answer, last_reason}
use Rattle.calculus.specs.States.{Backtrack, Conflict, Decide, Factorize, Propagate, Resolve, Skip, State, Step, clauses}
use Rattle.calculus.specs.Trails.{Entry, Source, Trail, background, decided, foreground, propagated}

-- ---- what an example says

-- A step tried, the number it is answered, and the trail's length and the level afterwards
pub record Tried : Type 0 where
  pub step : Step
  pub number : ℕ
  pub entries : ℕ
  pub level : ℕ

-- The steps are answered so, one after the other, and lead from the first state to the last.
pub data Goes : State → List Tried → State → Type 0 where
  over : {s s' : State} → s ≡ s' → Goes s [] s'
  then : {s s' : State} {x : Tried} {xs : List Tried} (a : Answer) → Judged whole s x.step a → a.number ≡ x.number → length a.state.trail ≡ x.entries
      → a.state.level ≡ x.level → Goes a.state xs s' → Goes s (x ∷ xs) s'

pub data Example : Type 0 where
  Yes : (constants : ℕ) (atoms : List Atom) → Example
  No : (constants : ℕ) (atoms : List Atom) → Example
  Admits : (constants : ℕ) (arities : List ℕ) (input : List Clause) → Example
  Runs : (from : State) (steps : List Tried) (to : State) → Example
  LastReason : (at : State) (is : Instanced) → Example

abbrev pub Shown : Example → Type 0
Shown (Yes n az) = Possible whole n az
Shown (No n az) = ¬ Possible whole n az
Shown (Admits n arities cs) = Admitted (fresh One n arities cs)
Shown (Runs s xs s') = Goes s xs s'
Shown (LastReason s R) = (last_reason (clauses s) s.trail).of ≡ R

-- ---- the words of the examples: constants a, b, c are 1, 2, 3; predicates P, Q are 1, 2

abbrev at_most : ℕ → ℕ → Atom
at_most x c = record { p = x; q = 0; c = pos c }

abbrev at_least : ℕ → ℕ → Atom
at_least x c = record { p = 0; q = x; c = neg_ℤ (pos c) }

abbrev difference : ℕ → ℕ → ℤ → Atom
difference x y c = record { p = x; q = y; c = c }

abbrev plain : ℕ → ℕ → Literal
plain n x = record { positive = true; predicate = n; x = x; y = 0; z = 0 }

abbrev denied : ℕ → ℕ → Literal
denied n x = record { positive = false; predicate = n; x = x; y = 0; z = 0 }

abbrev clause : ℕ → List Atom → List Literal → Clause
clause v az ls = record { variables = v; atoms = az; literals = ls }

abbrev tried : Step → ℕ → ℕ → ℕ → Tried
tried x n e k = record { step = x; number = n; entries = e; level = k }

-- A state with one constant and predicates P, Q of arity 1
abbrev state : Trail → List Clause → List Clause → ℕ → Option Instanced → State
state t input learned k c = record { version = One; arities = 1 ∷ 1 ∷ []; trail = t; input = input; learned = learned; constants = 1; level = k; conflict = c }

abbrev a : List ℕ
a = 1 ∷ []

-- x ≤ 10 ∥ P(x) and x ≥ 3 ∥ ¬P(x), with P alone
abbrev input7 : List Clause
input7 = clause 1 (at_most 1 10 ∷ []) (plain 1 1 ∷ []) ∷ clause 1 (at_least 1 3 ∷ []) (denied 1 1 ∷ []) ∷ []

abbrev end7 : State
end7 = record {
  version = One;
  arities = 1 ∷ [];
  trail = foreground (plain 1 1) (propagated 1 1 a) ∷ [];
  input = input7;
  learned = [];
  constants = 1;
  level = 0;
  conflict = some (record { clause = clause 1 (at_least 1 3 ∷ at_most 1 10 ∷ []) []; instance = a });
}

-- P(x) ∨ P(y) ∨ Q(z)
abbrev input8 : List Clause
input8 = clause 3 [] (plain 1 1 ∷ plain 1 2 ∷ plain 2 3 ∷ []) ∷ []

abbrev end8 : State
end8 = state (foreground (plain 1 1) (propagated 1 1 (1 ∷ 1 ∷ 1 ∷ [])) ∷ foreground (denied 2 1) (decided 1 3 false (1 ∷ 1 ∷ 1 ∷ []) 0) ∷ []) input8 [] 1 none

-- x ≥ 3, y ≥ 3 ∥ ¬P(x) ∨ ¬P(y)
abbrev input9 : List Clause
input9 = clause 2 (at_least 1 3 ∷ at_least 2 3 ∷ []) (denied 1 1 ∷ denied 1 2 ∷ []) ∷ []

abbrev end9 : State
end9 = state (foreground (plain 1 1) (decided 1 1 true (1 ∷ 1 ∷ []) 0) ∷ []) input9 [] 1 (some (record { clause = clause 1 (at_least 1 3 ∷ []) (denied 1 1 ∷ []); instance = a }))

-- ¬P(x) ∨ Q(x) and ¬P(x) ∨ ¬Q(x)
abbrev input10 : List Clause
input10 = clause 1 [] (denied 1 1 ∷ plain 2 1 ∷ []) ∷ clause 1 [] (denied 1 1 ∷ denied 2 1 ∷ []) ∷ []

abbrev decided_P : Entry
decided_P = foreground (plain 1 1) (decided 1 1 true a 0)

abbrev propagated_Q : Entry
propagated_Q = foreground (plain 2 1) (propagated 1 2 a)

abbrev end10 : State
end10 = state (propagated_Q ∷ decided_P ∷ []) input10 [] 1 (some (record { clause = clause 1 [] (denied 1 1 ∷ denied 1 1 ∷ []); instance = a }))

abbrev end11 : State
end11 = state (decided_P ∷ []) input10 [] 1 (some (record { clause = clause 1 [] (denied 1 1 ∷ []); instance = a }))

abbrev end12 : State
end12 = state (foreground (denied 1 1) (propagated 3 1 a) ∷ []) input10 (clause 1 [] (denied 1 1 ∷ []) ∷ []) 0 none

-- ---- the set

abbrev pub twelve : List Example
twelve =
    -- "E1 no constants, no atoms: possible."
    Yes 0 [] ∷
    -- "E2 three constants, a ≥ 1, c ≤ 2: not."
    No 3 (at_least 1 1 ∷ at_most 3 2 ∷ []) ∷
    -- "E3 two constants, a ≥ 1, b ≤ 2: possible."
    Yes 2 (at_least 1 1 ∷ at_most 2 2 ∷ []) ∷
    -- "E4 two, a ≥ 5, b ≤ 5: not."
    No 2 (at_least 1 5 ∷ at_most 2 5 ∷ []) ∷
    -- "E5 a − a ≤ −1: not; a − a ≤ 0: possible."
    No 1 (difference 1 1 (neg_ℤ (pos 1)) ∷ []) ∷
    Yes 1 (difference 1 1 (pos 0) ∷ []) ∷
    -- "E6 a − b ≤ −4, a ≥ 0: with b ≤ 3 not, with b ≤ 4 possible."
    No 2 (difference 1 2 (neg_ℤ (pos 4)) ∷ at_least 1 0 ∷ at_most 2 3 ∷ []) ∷
    Yes 2 (difference 1 2 (neg_ℤ (pos 4)) ∷ at_least 1 0 ∷ at_most 2 4 ∷ []) ∷
    -- "E7 the run above": the listing's numbers, and a conflict without literals at the end.
    Admits 1 (1 ∷ []) input7 ∷
    Runs (fresh One 1 (1 ∷ []) input7) (tried (Propagate 1 1 a) 0 2 0 ∷ tried (Conflict 2 a) 0 2 0 ∷ tried Skip 0 1 0 ∷ tried (Resolve 1) 0 1 0 ∷ []) end7 ∷
    -- "E8 P(x)∨P(y)∨Q(z), Q(a) false, all a: reason P(x)∨Q(z), two variables."
    Admits 1 (1 ∷ 1 ∷ []) input8 ∷
    Runs (fresh One 1 (1 ∷ 1 ∷ []) input8) (tried (Decide 1 3 0 (1 ∷ 1 ∷ 1 ∷ []) []) 0 1 1 ∷ tried (Propagate 1 1 (1 ∷ 1 ∷ 1 ∷ [])) 0 2 1 ∷ []) end8 ∷
    LastReason end8 (record { clause = clause 2 [] (plain 1 1 ∷ plain 2 2 ∷ []); instance = 1 ∷ 1 ∷ [] }) ∷
    -- "E9 Factorize of x ≥ 3, y ≥ 3 ∥ ¬P(x)∨¬P(y), both a: one atom, one literal."
    Admits 1 (1 ∷ 1 ∷ []) input9 ∷
    Runs (fresh One 1 (1 ∷ 1 ∷ []) input9) (tried (Decide 1 1 1 (1 ∷ 1 ∷ []) []) 0 1 1 ∷ tried (Conflict 1 (1 ∷ 1 ∷ [])) 0 1 1 ∷ tried (Factorize 1 2) 0 1 1 ∷ []) end9 ∷
    -- "From ¬P(x)∨Q(x) and ¬P(x)∨¬Q(x): Decide P(a), Propagate Q(a), Conflict on the second, then E10 Resolve gives ¬P(x)∨¬P(x), and
    -- Backtrack at once is refused 15;"
    Admits 1 (1 ∷ 1 ∷ []) input10 ∷
    Runs (fresh One 1 (1 ∷ 1 ∷ []) input10)
    (tried (Decide 1 1 1 a []) 0 1 1 ∷ tried (Propagate 1 2 a) 0 2 1 ∷ tried (Conflict 2 a) 0 2 1 ∷ tried (Resolve 2) 0 2 1 ∷ tried (Backtrack 1) 15 2 1 ∷ []) end10 ∷
    -- "E11 after Factorize and Skip, another Skip is refused 15, Resolve 14;"
    Runs end10 (tried (Factorize 1 2) 0 2 1 ∷ tried Skip 0 1 1 ∷ tried Skip 15 1 1 ∷ tried (Resolve 1) 14 1 1 ∷ []) end11 ∷
    -- "E12 Backtrack leaves ¬P(a), level 0, clause 3 ¬P(x)."
    Runs end11 (tried (Backtrack 1) 0 1 0 ∷ []) end12 ∷
    []

abbrev pub TwelveExamples : Type 0
TwelveExamples = (x : Example) → Memᴰ x twelve → Shown x

-- ---- decisions that bring atoms, in version 2: P(x) with x ≤ 5, Q(x) with x ≥ 6, P(x) with x ≤ 4

abbrev input13 : List Clause
input13 = clause 1 (at_most 1 5 ∷ []) (plain 1 1 ∷ []) ∷ clause 1 (at_least 1 6 ∷ []) (plain 2 1 ∷ []) ∷ clause 1 (at_most 1 4 ∷ []) (plain 1 1 ∷ []) ∷ []

abbrev begun13 : State
begun13 = fresh Two 1 (1 ∷ 1 ∷ []) input13

-- A clause's first atom at a, as it stands or denied
abbrev source : ℕ → ℕ → Source
source c g = record { clause = c; number = 1; sign = g; instance = a }

-- P(a) decided, with a ≤ 5 behind it
abbrev brought13 : Trail
brought13 = background (at_most 1 5) (some (source 1 1)) ∷ foreground (plain 1 1) (decided 1 1 true a 1) ∷ []

abbrev reached13 : Trail → State
reached13 t = record { version = Two; arities = 1 ∷ 1 ∷ []; trail = t; input = input13; learned = []; constants = 1; level = 1; conflict = none }

-- Q(a) decided, with a ≥ 6 behind it
abbrev at_least_6 : Trail
at_least_6 = background (at_least 1 6) (some (source 2 1)) ∷ foreground (plain 2 1) (decided 2 1 true a 1) ∷ []

abbrev pub bringing : List Example
bringing =
    Admits 1 (1 ∷ 1 ∷ []) input13 ∷
    -- The literal, then the atom with its source; the decision keeps that it brought one.
    Runs begun13 (tried (Decide 1 1 1 a (source 1 1 ∷ [])) 0 2 1 ∷ []) (reached13 brought13) ∷
    -- An atom that is on the trail is refused by 11, and so is its denial, 0 − a ≤ −6, whether it comes as clause 1's denied or as clause 2's.
    Runs (reached13 brought13) (tried (Decide 2 1 1 a (source 1 1 ∷ [])) 11 2 1 ∷ tried (Decide 2 1 1 a (source 1 0 ∷ [])) 11 2 1 ∷ tried (Decide 2 1 1 a (source 2 1 ∷ [])) 11 2 1 ∷ []) (reached13 brought13) ∷
    -- .. also where it is brought before by the same Decide.
    Runs begun13 (tried (Decide 1 1 1 a (source 1 1 ∷ source 1 1 ∷ [])) 11 0 0 ∷ tried (Decide 1 1 1 a (source 1 1 ∷ source 1 0 ∷ [])) 11 0 0 ∷ []) begun13 ∷
    -- Denied, clause 2's atom is a ≤ 5.
    Runs begun13 (tried (Decide 2 1 0 a (source 2 0 ∷ [])) 0 2 1 ∷ []) (reached13 (background (at_most 1 5) (some (source 2 0)) ∷ foreground (denied 2 1) (decided 2 1 false a 1) ∷ [])) ∷
    -- The atoms are tested with the trail's: a ≤ 4 is not on it, nor its denial, but is not possible with a ≥ 6.
    Runs begun13 (tried (Decide 2 1 1 a (source 2 1 ∷ [])) 0 2 1 ∷ tried (Decide 1 1 1 a (source 3 1 ∷ [])) 13 2 1 ∷ []) (reached13 at_least_6) ∷
    -- Two atoms follow the literal in the order named.
    Runs begun13 (tried (Decide 1 1 1 a (source 1 1 ∷ source 3 1 ∷ [])) 0 3 1 ∷ [])
    (reached13 (background (at_most 1 4) (some (source 3 1)) ∷ background (at_most 1 5) (some (source 1 1)) ∷ foreground (plain 1 1) (decided 1 1 true a 2) ∷ [])) ∷
    -- An atom number, a sign and a clause that are not there
    Runs begun13
    (tried (Decide 1 1 1 a (record { clause = 1; number = 2; sign = 1; instance = a } ∷ [])) 10 0 0 ∷ tried (Decide 1 1 1 a (source 1 2 ∷ [])) 4 0 0 ∷ tried (Decide 1 1 1 a (source 4 1 ∷ [])) 10 0 0 ∷ []) begun13 ∷
    -- In version 1 a Decide's atoms are not looked at.
    Runs (fresh One 1 (1 ∷ 1 ∷ []) input13) (tried (Decide 1 1 1 a (source 1 2 ∷ source 9 1 ∷ [])) 0 1 1 ∷ [])
    (record { version = One; arities = 1 ∷ 1 ∷ []; trail = foreground (plain 1 1) (decided 1 1 true a 0) ∷ []; input = input13; learned = []; constants = 1; level = 1; conflict = none }) ∷
    []

abbrev pub BringingExamples : Type 0
BringingExamples = (x : Example) → Memᴰ x bringing → Shown x
