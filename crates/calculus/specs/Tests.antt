-- Tests that compute, which functions promise: which numbers name something, and what the rules look at.
use Rattle.std.specs.Prelude.{List, [], ◌++◌, ◌∷◌, Bool, true, false, not, ◌&&◌, ◌||◌, cond, ℕ, zero, suc, eqb, leb, length}
use Rattle.basis.specs.Atoms.{denial}
use Rattle.basis.specs.Limits.{most_brought, most_variables}
use Rattle.basis.specs.declared.Atom.{Atom}
use Rattle.basis.specs.declared.Literal.{Literal}
use Rattle.lists.specs.Lists.{any_of, all_of}
use Rattle.calculus.specs.Checks.{between}
use Rattle.calculus.specs.Clauses.{Clause, Instanced, same_atom, same_literal, ground, complement}
use Rattle.calculus.specs.States.{clause_at}
use Rattle.calculus.specs.Trails.{Source, propagated, decided, foreground, background, Trail, is_false}

-- ---- which numbers name something

abbrev pub clause_exists : List Clause → ℕ → Bool
clause_exists cs c = between 1 (length cs) c

abbrev pub literal_exists : Clause → ℕ → Bool
literal_exists C l = between 1 (length C.literals) l

-- A constant for each variable, each among the n constants
abbrev pub instance_fits : ℕ → Clause → List ℕ → Bool
instance_fits n C τ = eqb (length τ) C.variables && all_of (between 1 n) τ

-- The counts that a Decide's atoms have are within their limits.
abbrev pub counts_few : List Source → Bool
counts_few zs = leb (length zs) most_brought && all_of (λ z. leb (length z.instance) most_variables) zs

abbrev pub signs_fit : List Source → Bool
signs_fit zs = all_of (λ z. leb z.sign 1) zs

-- It names an atom of its clause, with an instance for all of that clause's variables.
abbrev pub fits_in : ℕ → Clause → Source → Bool
fits_in n C z = between 1 (length C.atoms) z.number && instance_fits n C z.instance

-- .. of these clauses
abbrev pub source_fits : List Clause → ℕ → Source → Bool
source_fits cs n z = clause_exists cs z.clause && fits_in n (clause_at cs z.clause) z

-- ---- what the rules look at

-- None of the atoms, nor its denial, is among the known ones or stands before it.
abbrev pub atoms_undefined : List Atom → List Atom → Bool
atoms_undefined known [] = true
atoms_undefined known (a ∷ az) = not (any_of (same_atom a) known || any_of (same_atom (denial a)) known) && atoms_undefined (known ++ (a ∷ [])) az

-- Every literal with another instance than g is false.
abbrev pub others_false : Trail → List ℕ → Literal → List Literal → Bool
others_false t τ g ls = all_of (λ m. same_literal (ground τ m) g || is_false t (ground τ m)) ls

abbrev pub all_false : Trail → List ℕ → List Literal → Bool
all_false t τ ls = all_of (λ m. is_false t (ground τ m)) ls

abbrev pub nonempty : Trail → Bool
nonempty [] = false
nonempty (e ∷ t) = true

abbrev pub last_is_propagated : Trail → Bool
last_is_propagated [] = false
last_is_propagated (foreground l (propagated c i τ) ∷ t) = true
last_is_propagated (foreground l (decided c i b τ n) ∷ t) = false
last_is_propagated (background a o ∷ t) = false

-- The last entry is a literal whose complement is in the conflict.
abbrev pub complement_in_conflict : Instanced → Trail → Bool
complement_in_conflict N [] = false
complement_in_conflict N (foreground l o ∷ t) = any_of (λ k. same_literal (complement l) (ground N.instance k)) N.clause.literals
complement_in_conflict N (background a o ∷ t) = false

-- The number, from 1, of the first that fails the test
abbrev pub first_failing : (Literal → Bool) → List Literal → ℕ
first_failing f [] = zero
first_failing f (l ∷ ls) = let r = suc (first_failing f ls) in cond (f l) r 1
