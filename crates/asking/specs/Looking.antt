-- What a step looks at of the clause table, and what the atoms that a Decide names are: a record each, by one equation.
use Rattle.std.specs.Prelude.{List, [], ◌∷◌, map, Bool, ◌&&◌, cond, ℕ, zero, suc, ◌-◌, min, eqb, leb, get_or, length, take}
use Rattle.basis.specs.Atoms.{no_atom}
use Rattle.basis.specs.Limits.{most_brought, most_clauses, most_variables}
use Rattle.basis.specs.Versions.{form_of}
use Rattle.basis.specs.declared.Version.{Version}
use Rattle.lists.specs.Arrays.{exactly}
use Rattle.lists.specs.Lists.{all_of}
use Rattle.calculus.specs.Checks.{between}
use Rattle.calculus.specs.Clauses as calculus
use Rattle.calculus.specs.Clauses.{no_clause}
use Rattle.calculus.specs.States as states
use Rattle.calculus.specs.States.{State, Propagate, Decide, Conflict, Resolve, Factorize, Skip, Backtrack, Grow, Unknown, clauses}
use Rattle.calculus.specs.Rules.{brought_at, source_in}
use Rattle.calculus.specs.Tests.{clause_exists, fits_in}
use Rattle.calculus.specs.Trails.{Source, Trail, foreground, background, propagated, decided}
use Rattle.clauses.specs.Records.{clause_of, packed}
use Rattle.clauses.specs.declared.Clause.{Clause}
use Rattle.trail.specs.declared.Entry.{Entry}
use Rattle.asking.specs.Kinds.{is_propagated}
use Rattle.asking.specs.declared.Looked.{Looked}
use Rattle.asking.specs.declared.Named.{Named}
use Rattle.asking.specs.declared.Source as declared
use Rattle.asking.specs.declared.Step.{Step}
use Rattle.asking.specs.Steps.{source_of}

-- The clause with number c, if there is one; else the blank one
abbrev pub held_at : List calculus.Clause → ℕ → calculus.Clause
held_at cs zero = no_clause
held_at cs (suc c) = get_or cs c no_clause

-- The number of the clause that the last entry's step names, where it was propagated; else 0
abbrev pub last_named : Trail → ℕ
last_named [] = 0
last_named (foreground l (propagated c i τ) ∷ t) = c
last_named (foreground l (decided c i b τ n) ∷ t) = 0
last_named (background a o ∷ t) = 0

-- The number of the clause that a step looks at: the named one; Resolve looks at that of the last entry's step, the others at none.
abbrev pub looks_at : State → states.Step → ℕ
looks_at s (Propagate c l τ) = c
looks_at s (Decide c l g τ zs) = c
looks_at s (Conflict c τ) = c
looks_at s (Resolve l) = last_named s.trail
looks_at s (Factorize i j) = 0
looks_at s Skip = 0
looks_at s (Backtrack l) = 0
looks_at s (Grow n) = 0
looks_at s (Unknown r) = 0

-- WHAT THE STEP LOOKS AT
abbrev pub looked_at : State → states.Step → Looked
looked_at s x = record { clause = packed (held_at (clauses s) (looks_at s x)) }

-- ---- the atoms that a Decide names

-- It names an atom of a clause held, with a constant for each of the clause's variables, 12 at most.
abbrev pub named_rightly : State → Source → Bool
named_rightly s z =
    let C = held_at (clauses s) z.clause in
    leb (length z.instance) most_variables && (clause_exists (clauses s) z.clause && fits_in s.constants C z)

-- The record of atoms so named, of 24 at most: each rightly, and which they are
abbrev pub named_of : State → List Source → Named
named_of s zs = record {
  right = all_of (named_rightly s) zs;
  at = exactly most_brought no_atom (map (λ z. source_in (held_at (clauses s) z.clause) z) zs);
}

-- The atoms that are looked at for a step: of a Decide the first 24 that it brings, of the others none
abbrev pub atoms_looked : State → states.Step → List Source
atoms_looked s (Propagate c l τ) = []
atoms_looked s (Decide c l g τ zs) = take most_brought (brought_at s zs)
atoms_looked s (Conflict c τ) = []
atoms_looked s (Resolve l) = []
atoms_looked s (Factorize i j) = []
atoms_looked s Skip = []
atoms_looked s (Backtrack l) = []
atoms_looked s (Grow n) = []
atoms_looked s (Unknown r) = []

-- WHAT ITS ATOMS ARE
abbrev pub named_at : State → states.Step → Named
named_at s x = named_of s (atoms_looked s x)

-- ---- as whoever owns the table finds it

-- .. told from the last entry's record, the step's rule and the clause that it names
abbrev pub number_looked : Entry → (rule clause : ℕ) → ℕ
number_looked e rule clause =
    cond (eqb rule 1) clause
    (cond (eqb rule 2) clause
    (cond (eqb rule 3) clause
    (cond (eqb rule 4) (cond (is_propagated e.kind) e.clause 0)
    0)))

-- The slot of a clause's number in the table; of a number that no table has, the first
abbrev pub slot_of : ℕ → ℕ
slot_of c = cond (between 1 most_clauses c) (c - 1) 0

-- What is looked at where a step looks at clause c, whose slot has k
abbrev pub looked_in : ℕ → Clause → Looked
looked_in c k = record { clause = cond (between 1 most_clauses c) k (packed no_clause) }

-- How many atoms a Decide brings, where the state has this version
abbrev pub count_brought : Version → Step → ℕ
count_brought v x = cond (form_of v).brings x.brought 0

-- How many atoms of a step are looked at, where the state has this version: none where it is no Decide, and 24 at most
abbrev pub count_looked : Version → Step → ℕ
count_looked v x = cond (eqb x.rule 2) (min most_brought (count_brought v x)) 0

-- Whether the source names an atom of its clause k, where there are so many constants and clauses
abbrev pub right_in : (constants held : ℕ) → Clause → declared.Source → Bool
right_in constants held k z =
    leb z.count most_variables && (between 1 held z.clause && fits_in constants (clause_of k) (source_of z))
