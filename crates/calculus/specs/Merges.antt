-- That merging does what the paper says of it: the groups and their numbers, atoms once, which literals stay, how numbers close up.
-- Proved in proofs/Merges.antt and proofs/Closed.antt.
use Rattle.std.specs.Prelude.{◌≡◌, ◌↔◌, not, ◌-◌, ◌<◌, ◌≤◌, max, ℕ, get_or, length}
use mathlib.Core.List.{List, Memᴰ, [], ◌++◌, ◌∷◌, map}
use Rattle.basis.specs.declared.Atom.{Atom}
use Rattle.basis.specs.declared.Literal.{Literal}
use Rattle.lists.specs.Lists.{keep_if, up_from, without}
use Rattle.calculus.specs.Class.{InClass, Occurs}
use Rattle.calculus.specs.Clauses.{Instanced, complement, ground, no_literal, rename_atom, rename_literal, same_literal, under}
use Rattle.calculus.specs.Conditions.{InstanceOf}
use Rattle.calculus.specs.Merging.{Reason, close_up, distinct, factored, joins, reason, resolvent}
use Rattle.calculus.specs.Rules.{literal_instance, other_instances}

-- ---- groups

-- σ has the group's number of each variable up to v, merged by the pairs es.
pub record Groups (es : List (ℕ × ℕ)) (v : ℕ) (σ : List ℕ) : Type 0 where
  -- The two of a pair are in one group.
  pub meet : (x y : ℕ) → Memᴰ (x, y) es → under σ x ≡ under σ y
  -- No others are: whatever is the same for the two of each pair is the same throughout a group.
  pub no_others : (f : ℕ → ℕ) → ((x y : ℕ) → Memᴰ (x, y) es → f x ≡ f y) → (x : ℕ) → x ≤ v → f (under σ x) ≡ f x
  -- "A merged group takes its smallest number": one of its members, and at most each of them.
  pub member : (x : ℕ) → x ≤ v → under σ (under σ x) ≡ under σ x
  pub at_most : (x : ℕ) → x ≤ v → under σ x ≤ x

abbrev pub MergedInGroups : Type 0
MergedInGroups = (es : List (ℕ × ℕ)) (v : ℕ) → ((x y : ℕ) → Memᴰ (x, y) es → (x ≤ v) × (y ≤ v)) → Groups es v (joins es (up_from 1 v))

-- ---- atoms

abbrev pub NoneTwice : List Atom → Type 0
NoneTwice [] = Unit {0}
NoneTwice (a ∷ az) = (¬ Memᴰ a az) × NoneTwice az

-- "An atom equal to an earlier one goes", and only such atoms go.
abbrev pub AtomsOnce : Type 0
AtomsOnce = (az : List Atom) → NoneTwice (distinct az) × ((a : Atom) → Memᴰ a az ↔ Memᴰ a (distinct az))

-- ---- literals

-- The instances of the literals, in order
abbrev pub instances : Instanced → List Literal
instances K = map (ground K.instance) K.clause.literals

-- A clause of the class with an instance by the n constants
pub record Instance (arities : List ℕ) (n : ℕ) (K : Instanced) : Type 0 where
  pub class : InClass arities K.clause
  pub by_constants : InstanceOf n K.clause K.instance

-- Factorize: "the one with the larger number goes", and every other literal keeps its instance and its place.
abbrev pub LargerGoes : Type 0
LargerGoes = (arities : List ℕ) (n : ℕ) (K : Instanced) → Instance arities n K → (i j : ℕ) → literal_instance K i ≡ literal_instance K j
    → instances (factored K (i - 1) (j - 1)) ≡ map (ground K.instance) (without (max (i - 1) (j - 1)) K.clause.literals)

-- Resolve: "the old literals without L', then the reason's without its own", each with its instance.
abbrev pub OldThenReasons : Type 0
OldThenReasons = (arities : List ℕ) (n : ℕ) (K R : Instanced) → Instance arities n K → Instance arities n R → (l own : ℕ)
    → literal_instance K l ≡ complement (ground R.instance (get_or R.clause.literals own no_literal))
    → instances (resolvent K (l - 1) R own) ≡ other_instances K l ++ map (ground R.instance) (without own R.clause.literals)

-- Those of another instance than g
abbrev pub other_than : Literal → List Literal → List Literal
other_than g hs = keep_if (λ h. not (same_literal h g)) hs

-- The reason R of a clause whose literals have the instances `before`, then L's, then `after`: "L keeps its place, the others go".
pub record KeepsItsPlace (before : List Literal) (L : Literal) (after : List Literal) (R : Reason) : Type 0 where
  pub kept : instances R.of ≡ other_than L before ++ (L ∷ other_than L after)
  pub its_place : R.own ≡ length (other_than L before)

abbrev pub OthersGo : Type 0
OthersGo = (arities : List ℕ) (n : ℕ) (K : Instanced) → Instance arities n K → (before : List Literal) (L : Literal) (after : List Literal)
    → K.clause.literals ≡ before ++ (L ∷ after)
    → KeepsItsPlace (map (ground K.instance) before) (ground K.instance L) (map (ground K.instance) after) (reason K.clause (length before) K.instance)

-- ---- closing up

-- x is a variable of the clause, and it occurs.
abbrev pub Remains : Instanced → ℕ → Type 0
Remains K x = (1 ≤ x) × (x ≤ K.clause.variables) × Occurs K.clause x

-- K is closed up to K': "variables that no longer occur go, and numbers close up in order".
pub record ClosedUp (K K' : Instanced) : Type 0 where
  -- The number that each variable gets; place 0 is the number zero and stays.
  pub number : ℕ → ℕ
  pub zero_stays : number 0 ≡ 0
  -- A variable that occurs is numbered, ..
  pub numbered : (x : ℕ) → Remains K x → (1 ≤ number x) × (number x ≤ K'.clause.variables)
  -- .. each number is that of one, ..
  pub no_others : (k : ℕ) → 1 ≤ k → k ≤ K'.clause.variables → (x : ℕ) × Remains K x × (number x ≡ k)
  -- .. and they rise.
  pub in_order : (x y : ℕ) → Remains K x → Remains K y → x < y → number x < number y
  -- Atoms and literals stay in order, and a variable keeps its constant.
  pub same_atoms : K'.clause.atoms ≡ map (rename_atom number) K.clause.atoms
  pub same_literals : K'.clause.literals ≡ map (rename_literal number) K.clause.literals
  pub one_each : length K'.instance ≡ K'.clause.variables
  pub same_constant : (x : ℕ) → Remains K x → under K'.instance (number x) ≡ under K.instance x

abbrev pub NumbersCloseUp : Type 0
NumbersCloseUp = (K : Instanced) → ClosedUp K (close_up K.clause.variables K.clause.atoms K.clause.literals K.instance)

-- Nothing else is a closing up of K, if K has no variable above its count.
abbrev pub ClosedUpOnce : Type 0
ClosedUpOnce = (K A B : Instanced) → ((x : ℕ) → Occurs K.clause x → x ≤ K.clause.variables) → ClosedUp K A → ClosedUp K B → A ≡ B
