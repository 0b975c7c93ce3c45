-- When each rule may be used, in the paper's words: its side conditions with the refusal given where one does not hold, and with them the
-- answer to a step. The paper's sections "The rules" and "Refusal numbers".
use Rattle.std.specs.Prelude.{◌≡◌, ◌⊎◌, ◌+◌, ◌-◌, ◌<◌, ◌≤◌, zero, ℕ, get_or, length}
use mathlib.Core.List.{List, Memᴰ, [], ◌++◌, ◌∷◌}
use Rattle.std.proofs.Math.Option.{none, some}
use Rattle.basis.specs.Atoms.{Possible, denial}
use Rattle.basis.specs.Limits.{most_brought, most_constants, most_entries, most_learned, most_variables}
use Rattle.basis.specs.Numbers.{Numbers}
use Rattle.basis.specs.Refusals.{above_limit, accepted, already_defined, kept_not_possible, no_entry, no_room, no_such, not_above, not_false, not_possible, out_of_range, unknown_rule, wrong_literal, wrong_moment}
use Rattle.basis.specs.declared.Atom.{Atom}
use Rattle.basis.specs.declared.Literal.{Literal}
use Rattle.calculus.specs.Class.{Limited}
use Rattle.calculus.specs.Clauses.{Clause, Instanced, complement, ground, no_literal}
use Rattle.calculus.specs.OnTrail.{False, Undefined}
use Rattle.calculus.specs.Rules.{Answer, back_level, brought_at, decided_literal, is_one, last_literal, literal_instance, next, other_instances, question, source_atoms}
use Rattle.calculus.specs.States.{Backtrack, Conflict, Decide, Factorize, Grow, Propagate, Resolve, Skip, State, Step, Unknown, clause_at, clauses, conflict_of}
use Rattle.calculus.specs.Trails.{Origin, Source, Trail, atoms_of, foreground, level_of, propagated}

-- ---- what the steps name

-- A number names something: "numbers start at 1".
pub record Names {A : Type 0} (of : List A) (n : ℕ) : Type 0 where
  pub from_one : 1 ≤ n
  pub there : n ≤ length of

-- The literal numbered l
abbrev pub literal_at : Clause → ℕ → Literal
literal_at C l = get_or C.literals (l - 1) no_literal

-- ""Instance" means variables replaced by constants": each variable of the clause has one of the constants.
pub record InstanceOf (constants : ℕ) (C : Clause) (τ : List ℕ) : Type 0 where
  pub for_each_variable : length τ ≡ C.variables
  pub of_constants : (b : ℕ) → Memᴰ b τ → (1 ≤ b) × (b ≤ constants)

-- A Decide names an atom rightly: "no such clause, literal or constant; wrong instance count", "also for a bad atom number". The clause may be a
-- learned one, and the instance has a constant for each of its variables.
pub record NamesAtom (s : State) (z : Source) : Type 0 where
  pub clause : Names (clauses s) z.clause
  pub atom : Names (clause_at (clauses s) z.clause).atoms z.number
  pub instance : InstanceOf s.constants (clause_at (clauses s) z.clause) z.instance

-- "an atom so brought, or its denial, is on the trail or brought before it": none is. The atoms come after the known ones, which are the trail's.
abbrev pub AtomsUndefined : (known : List Atom) → List Atom → Type 0
AtomsUndefined known [] = Unit {0}
AtomsUndefined known (a ∷ az) = (¬ Memᴰ a known) × ((¬ Memᴰ (denial a) known) × AtomsUndefined (known ++ (a ∷ [])) az)

-- The last entry is this literal, propagated.
pub record LastPropagated (t : Trail) (l : Literal) : Type 0 where
  pub clause : ℕ
  pub literal : ℕ
  pub instance : List ℕ
  pub earlier : Trail
  pub is : t ≡ foreground l (propagated clause literal instance) ∷ earlier

-- If the last entry is a literal, its complement is not in the conflict.
abbrev pub ComplementNotIn : Instanced → Trail → Type 0
ComplementNotIn K t = (l : Literal) (o : Origin) (earlier : Trail) → t ≡ foreground l o ∷ earlier → (m : Literal) → Memᴰ m K.clause.literals → ¬ (complement l ≡ ground K.instance m)

-- ---- the side conditions

-- A condition, and the refusal given where it does not hold
pub record Condition : Type 1 where
  pub Holds : Type 0
  pub refusal : ℕ

infix 68 ◌otherwise◌
abbrev pub ◌otherwise◌ : Type 0 → ℕ → Condition
P otherwise n = record { Holds = P; refusal = n }

-- The conditions of each rule in the order in which they are tried: the rule's sentence, and at each condition the words of its refusal
abbrev pub conditions : Numbers → State → Step → List Condition
-- "1 Propagate (clause, literal L, instance). No conflict. L's instance is undefined; every literal with another instance is false; trail atoms
-- and the clause's atoms together are possible."
conditions N s (Propagate c l τ) =
    let C = clause_at (clauses s) c in
    let L = ground τ (literal_at C l) in
    -- "a count .. above its limit"
    (length τ ≤ most_variables) otherwise above_limit ∷
    -- "conflict standing for 1, 2, 3, 8"
    (s.conflict ≡ none) otherwise wrong_moment ∷
    -- "no such clause, literal or constant; wrong instance count"
    (Names (clauses s) c × (Names C.literals l × InstanceOf s.constants C τ)) otherwise no_such ∷
    -- "literal already defined"
    Undefined s.trail L otherwise already_defined ∷
    -- "a literal that must be false is not"
    ((m : Literal) → Memᴰ m C.literals → ¬ (ground τ m ≡ L) → False s.trail (ground τ m)) otherwise not_false ∷
    -- "atoms not possible"
    Possible N s.constants (question s (Propagate c l τ)) otherwise not_possible ∷
    -- "no room: .. trail"
    (length (next s (Propagate c l τ)).trail ≤ most_entries) otherwise no_room ∷ []
-- "2 Decide (clause, literal, sign, instance). No conflict. The atom of the literal, with the sign given, is undefined." Of the atoms brought, as
-- source document 000 has it: each is one of a clause held, as it stands or denied, at constants; all are undefined; and they are satisfiable together
-- with the trail's atoms and the constants' order.
conditions N s (Decide c l g τ offered) =
    let C = clause_at (clauses s) c in
    let zs = brought_at s offered in
    -- "3 for the counts"
    ((length τ ≤ most_variables) × ((length zs ≤ most_brought) × ((z : Source) → Memᴰ z zs → length z.instance ≤ most_variables))) otherwise above_limit ∷
    -- "a Decide sign above 1", "4 for its sign above 1"
    ((g ≤ 1) × ((z : Source) → Memᴰ z zs → z.sign ≤ 1)) otherwise out_of_range ∷
    (s.conflict ≡ none) otherwise wrong_moment ∷
    -- "10 also for a bad atom number"
    ((Names (clauses s) c × (Names C.literals l × InstanceOf s.constants C τ)) × ((z : Source) → Memᴰ z zs → NamesAtom s z)) otherwise no_such ∷
    -- "11 also when an atom so brought, or its denial, is on the trail or brought before it"
    (Undefined s.trail (decided_literal C (l - 1) (is_one g) τ) × AtomsUndefined (atoms_of s.trail) (source_atoms (clauses s) zs)) otherwise already_defined ∷
    -- "13 now also for Decide"
    Possible N s.constants (question s (Decide c l g τ offered)) otherwise not_possible ∷
    (length (next s (Decide c l g τ offered)).trail ≤ most_entries) otherwise no_room ∷ []
-- "3 Conflict (clause, instance). No conflict. All literals false; trail and clause atoms together possible."
conditions N s (Conflict c τ) =
    let C = clause_at (clauses s) c in
    (length τ ≤ most_variables) otherwise above_limit ∷
    (s.conflict ≡ none) otherwise wrong_moment ∷
    (Names (clauses s) c × InstanceOf s.constants C τ) otherwise no_such ∷
    ((m : Literal) → Memᴰ m C.literals → False s.trail (ground τ m)) otherwise not_false ∷
    Possible N s.constants (question s (Conflict c τ)) otherwise not_possible ∷ []
-- "4 Resolve (literal L'). The last entry is a propagated literal, the complement of L'."
conditions N s (Resolve l) =
    let K = conflict_of s.conflict in
    -- "none for 4 to 7"
    (s.conflict ≡ some K) otherwise wrong_moment ∷
    Names K.clause.literals l otherwise no_such ∷
    -- "no trail entry; last one not a propagated literal"
    LastPropagated s.trail (last_literal s.trail) otherwise no_entry ∷
    -- "not the complement"
    (complement (last_literal s.trail) ≡ literal_instance K l) otherwise wrong_literal ∷
    -- "no room: clause limits counted after merging"
    Limited (conflict_of (next s (Resolve l)).conflict).clause otherwise no_room ∷ []
-- "5 Factorize (two different literals with the same instance)."
conditions N s (Factorize i j) =
    let K = conflict_of s.conflict in
    (s.conflict ≡ some K) otherwise wrong_moment ∷
    -- "Factorize of one literal twice"
    (Names K.clause.literals i × (Names K.clause.literals j × (¬ (i ≡ j)))) otherwise no_such ∷
    -- "instances differ"
    (literal_instance K i ≡ literal_instance K j) otherwise wrong_literal ∷ []
-- "6 Skip. The last entry goes, if it is an atom or if its complement is not in the conflict."
conditions N s Skip =
    let K = conflict_of s.conflict in
    (s.conflict ≡ some K) otherwise wrong_moment ∷
    -- "no trail entry"
    (¬ (s.trail ≡ [])) otherwise no_entry ∷
    -- "complement in the conflict"
    ComplementNotIn K s.trail otherwise wrong_literal ∷ []
-- "7 Backtrack (literal L, the others D). L's instance is not in D; i is the largest level in D, 0 if D is empty; L's level is above i. Kept
-- atoms and conflict atoms together are possible."
conditions N s (Backtrack l) =
    let K = conflict_of s.conflict in
    let D = other_instances K l in
    let i = back_level K l s.trail in
    (s.conflict ≡ some K) otherwise wrong_moment ∷
    Names K.clause.literals l otherwise no_such ∷
    -- "L again in D"
    (¬ Memᴰ (literal_instance K l) D) otherwise wrong_literal ∷
    -- "L's level not above i"
    (i < level_of (literal_instance K l) s.trail) otherwise not_above ∷
    -- "kept and conflict atoms not possible"
    Possible N s.constants (question s (Backtrack l)) otherwise kept_not_possible ∷
    -- "no room: .. trail, learned clauses"
    ((length (next s (Backtrack l)).trail ≤ most_entries) × (length s.learned < most_learned)) otherwise no_room ∷ []
-- "8 Grow (count). No conflict."
conditions N s (Grow n) =
    (s.conflict ≡ none) otherwise wrong_moment ∷
    -- "Grow by 0"
    (1 ≤ n) otherwise no_such ∷
    -- "no room: .. constants"
    (s.constants + n ≤ most_constants) otherwise no_room ∷ []
-- "unknown rule"
conditions N s (Unknown r) = ⊥ otherwise unknown_rule ∷ []

-- The step is allowed: each of its conditions holds.
abbrev pub EachHolds : List Condition → Type 0
EachHolds [] = Unit {0}
EachHolds (c ∷ cs) = c.Holds × EachHolds cs

abbrev pub Allowed : Numbers → State → Step → Type 0
Allowed N s x = EachHolds (conditions N s x)

-- ---- the number and the place

-- n is the refusal of the first condition that does not hold; 0 if all hold.
abbrev pub FirstLacking : ℕ → List Condition → Type 0
FirstLacking n [] = n ≡ accepted
FirstLacking n (c ∷ cs) = ((¬ c.Holds) × (n ≡ c.refusal)) ⊎ (c.Holds × FirstLacking n cs)

-- p is the number of the first literal from the left that must be false and whose instance is not.
pub record FirstNotFalse (t : Trail) (τ : List ℕ) (MustBe : Literal → Type 0) (ls : List Literal) (p : ℕ) : Type 0 where
  pub from_one : 1 ≤ p
  pub there : p ≤ length ls
  pub must_be : MustBe (get_or ls (p - 1) no_literal)
  pub is_not : ¬ False t (ground τ (get_or ls (p - 1) no_literal))
  pub those_before : (i : ℕ) → 1 ≤ i → i < p → MustBe (get_or ls (i - 1) no_literal) → False t (ground τ (get_or ls (i - 1) no_literal))

-- "Refusal 12 names the first literal from the left whose instance is not false, of those that must be": for Propagate "every literal
-- with another instance", for Conflict all. No other rule asks for it.
abbrev pub NamesNotFalse : State → Step → ℕ → Type 0
NamesNotFalse s (Propagate c l τ) p =
    let C = clause_at (clauses s) c in
    FirstNotFalse s.trail τ (λ m. ¬ (ground τ m ≡ ground τ (get_or C.literals (l - 1) no_literal))) C.literals p
NamesNotFalse s (Decide c l g τ zs) p = ⊥
NamesNotFalse s (Conflict c τ) p = FirstNotFalse s.trail τ (λ m. Unit {0}) (clause_at (clauses s) c).literals p
NamesNotFalse s (Resolve l) p = ⊥
NamesNotFalse s (Factorize i j) p = ⊥
NamesNotFalse s Skip p = ⊥
NamesNotFalse s (Backtrack l) p = ⊥
NamesNotFalse s (Grow n) p = ⊥
NamesNotFalse s (Unknown r) p = ⊥

-- ---- the answer

-- THE RULES: a is the answer to step x at state s, over the numbers N.
pub record Judged (N : Numbers) (s : State) (x : Step) (a : Answer) : Type 0 where
  -- "A step's reasons are tried in rising order."
  pub first_lacking : FirstLacking a.number (conditions N s x)
  -- The next state is the one the rule names;
  pub next_state : a.number ≡ accepted → a.state ≡ next s x
  -- "A refused step hands back the state it was given."
  pub handed_back : ¬ (a.number ≡ accepted) → a.state ≡ s
  -- Refusal 12 names a literal; "every other answer to a step has place 0".
  pub named : a.number ≡ not_false → NamesNotFalse s x a.place
  pub no_place : ¬ (a.number ≡ not_false) → a.place ≡ zero
