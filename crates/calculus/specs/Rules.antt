-- What the rules look at, and the state that each names. The paper's section "The rules"; when a rule may be used stands in Conditions.antt.
use Rattle.std.specs.Prelude.{List, [], ◌∷◌, ◌++◌, map, Bool, cond, ℕ, zero, suc, ◌+◌, ◌-◌, eqb, length, get_or}
use Rattle.std.proofs.Math.Option.{none, some}
use Rattle.lists.specs.Lists.{without}
use Rattle.basis.specs.Atoms.{denial, no_atom}
use Rattle.basis.specs.Versions.{form_of}
use Rattle.basis.specs.declared.Atom.{Atom}
use Rattle.basis.specs.declared.Literal.{Literal}
use Rattle.calculus.specs.Clauses.{Clause, Instanced, no_literal, no_instanced, rename_atom, under, ground, ground_atoms}
use Rattle.calculus.specs.Trails.{Origin, Source, propagated, decided, foreground, background, Trail, atoms_of, is_decision, largest_level, cut, append_atoms}
use Rattle.calculus.specs.Merging.{Reason, reason, resolvent, factored}
use Rattle.calculus.specs.States.{State, Step, Propagate, Decide, Conflict, Resolve, Factorize, Skip, Backtrack, Grow, Unknown, clauses, clause_at, conflict_of, updated}

-- ---- what the rules look at

-- "The atom of the literal, with the sign given": that of the clause's literal at i, from 0.
abbrev pub decided_literal : Clause → ℕ → Bool → List ℕ → Literal
decided_literal C i b τ = let L = get_or C.literals i no_literal in record { positive = b; predicate = L.predicate; x = under τ L.x; y = under τ L.y; z = under τ L.z }

-- A sign of a step as a truth value
abbrev pub is_one : ℕ → Bool
is_one n = eqb n 1

-- "Version 1 decisions bring none": the atoms of a Decide that are looked at.
abbrev pub brought_at : State → List Source → List Source
brought_at s zs = cond (form_of s.version).brings zs []

-- The atom numbered n
abbrev pub atom_numbered : Clause → ℕ → Atom
atom_numbered C n = get_or C.atoms (n - 1) no_atom

-- An atom that a Decide names, of its clause: "1 as it stands, 0 denied"
abbrev pub source_in : Clause → Source → Atom
source_in C z = let a = rename_atom (under z.instance) (atom_numbered C z.number) in let d = denial a in cond (is_one z.sign) a d

-- .. of these clauses
abbrev pub source_atom : List Clause → Source → Atom
source_atom cs z = source_in (clause_at cs z.clause) z

abbrev pub source_atoms : List Clause → List Source → List Atom
source_atoms cs zs = map (source_atom cs) zs

abbrev pub last_literal : Trail → Literal
last_literal [] = no_literal
last_literal (foreground l o ∷ t) = l
last_literal (background a o ∷ t) = no_literal

-- The last entry's reason, which follows from the step that the entry keeps
abbrev pub last_reason : List Clause → Trail → Reason
last_reason cs [] = record { of = no_instanced; own = zero }
last_reason cs (foreground l (propagated c i τ) ∷ t) = reason (clause_at cs c) (i - 1) τ
last_reason cs (foreground l (decided c i b τ n) ∷ t) = record { of = no_instanced; own = zero }
last_reason cs (background a o ∷ t) = record { of = no_instanced; own = zero }

-- The instance of the conflict's literal l, and those of the others, D
abbrev pub literal_instance : Instanced → ℕ → Literal
literal_instance N l = ground N.instance (get_or N.clause.literals (l - 1) no_literal)

abbrev pub other_instances : Instanced → ℕ → List Literal
other_instances N l = map (ground N.instance) (without (l - 1) N.clause.literals)

-- "i is the largest level in D, 0 if D is empty."
abbrev pub back_level : Instanced → ℕ → Trail → ℕ
back_level N l t = largest_level t (other_instances N l)

-- The atoms that a rule asks to be possible together: those of the trail, or of its kept part, and the clause's or those brought
abbrev pub question : State → Step → List Atom
question s (Propagate c l τ) = atoms_of s.trail ++ ground_atoms τ (clause_at (clauses s) c).atoms
question s (Decide c l g τ zs) = atoms_of s.trail ++ source_atoms (clauses s) (brought_at s zs)
question s (Conflict c τ) = atoms_of s.trail ++ ground_atoms τ (clause_at (clauses s) c).atoms
question s (Resolve l) = []
question s (Factorize i j) = []
question s Skip = []
question s (Backtrack l) =
    let N = conflict_of s.conflict in
    atoms_of (cut (back_level N l s.trail) s.trail) ++ ground_atoms N.instance N.clause.atoms
question s (Grow n) = []
question s (Unknown r) = []

-- ---- the state that each rule names

-- "Appended: L, then the atoms not yet on the trail, in clause order, each once." L is the literal at i, from 0.
abbrev pub propagated_trail : Clause → ℕ → List ℕ → Origin → Trail → Trail
propagated_trail C i τ o t = append_atoms (ground_atoms τ C.atoms) (foreground (ground τ (get_or C.literals i no_literal)) o ∷ t)

-- "Atoms follow the literal in the order named", each with its source.
abbrev pub bring : List Clause → List Source → Trail → Trail
bring cs [] t = t
bring cs (z ∷ zs) t = bring cs zs (background (source_atom cs z) (some z) ∷ t)

-- A decision's literal, and behind it the atoms that it brings
abbrev pub decided_trail : List Clause → ℕ → ℕ → Bool → List ℕ → List Source → Trail → Trail
decided_trail cs c l b τ zs t = bring cs zs (foreground (decided_literal (clause_at cs c) (l - 1) b τ) (decided c l b τ (length zs)) ∷ t)

abbrev pub without_last : Trail → Trail
without_last [] = []
without_last (e ∷ t) = t

-- "A decision skipped lowers k by one."
abbrev pub level_after_skip : Trail → ℕ → ℕ
level_after_skip [] k = k
level_after_skip (e ∷ t) k = cond (is_decision e) (k - 1) k

-- "The conflict is learned", "numbered after the input ones": the number under which a step learns a clause, 0 if it learns none.
abbrev pub learns_at : State → Step → ℕ
learns_at s (Propagate c l τ) = zero
learns_at s (Decide c l g τ zs) = zero
learns_at s (Conflict c τ) = zero
learns_at s (Resolve l) = zero
learns_at s (Factorize i j) = zero
learns_at s Skip = zero
learns_at s (Backtrack l) = suc (length (clauses s))
learns_at s (Grow n) = zero
learns_at s (Unknown r) = zero

abbrev pub next : State → Step → State
next s (Propagate c l τ) = updated s (propagated_trail (clause_at (clauses s) c) (l - 1) τ (propagated c l τ) s.trail) s.level none
next s (Decide c l g τ zs) = updated s (decided_trail (clauses s) c l (is_one g) τ (brought_at s zs) s.trail) (suc s.level) none
next s (Conflict c τ) = updated s s.trail s.level (some (record { clause = clause_at (clauses s) c; instance = τ }))
next s (Resolve l) =
    let R = last_reason (clauses s) s.trail in
    updated s s.trail s.level (some (resolvent (conflict_of s.conflict) (l - 1) R.of R.own))
next s (Factorize i j) = updated s s.trail s.level (some (factored (conflict_of s.conflict) (i - 1) (j - 1)))
next s Skip = updated s (without_last s.trail) (level_after_skip s.trail s.level) s.conflict
next s (Backtrack l) =
    let N = conflict_of s.conflict in
    let i = back_level N l s.trail in
    record {
      version = s.version;
      arities = s.arities;
      trail = propagated_trail N.clause (l - 1) N.instance (propagated (learns_at s (Backtrack l)) l N.instance) (cut i s.trail);
      input = s.input;
      learned = s.learned ++ (N.clause ∷ []);
      constants = s.constants;
      level = i;
      conflict = none;
    }
next s (Grow n) =
    record { version = s.version; arities = s.arities; trail = []; input = s.input; learned = s.learned; constants = s.constants + n; level = zero; conflict = none }
next s (Unknown r) = s

-- ---- the answer

-- "The tool takes a state and one proposed step and hands a state back, with a number (0 for accepted) and a place." S is what is handed
-- back: a state, or a state with a memory beside it.
pub record Reply (S : Type 0) : Type 0 where
  pub number : ℕ
  pub place : ℕ
  pub state : S

abbrev pub Answer : Type 0
Answer = Reply State
