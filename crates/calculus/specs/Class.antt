-- The clause class, in the paper's terms and as a test that computes with its refusals 3 to 6. The paper's section "Clauses".
use Rattle.std.specs.Prelude.{◌≡◌, ◌⊎◌, Bool, ◌&&◌, ◌||◌, ℕ, zero, ◌+◌, ◌-◌, ◌≤◌, ℤ, pos, neg_ℤ, eqb, leb, length, get_or, take, drop}
use mathlib.Core.List.{List, [], ◌∷◌, Memᴰ}
use Rattle.std.specs.Int.Signed.{le_z}
use Rattle.basis.specs.declared.Atom.{Atom}
use Rattle.basis.specs.Limits.{most_variables, most_atoms, most_literals, most_c}
use Rattle.basis.specs.Refusals.{above_limit, out_of_range, occurs_nowhere, lacks_bound}
use Rattle.basis.specs.Atoms.{InRange, Proper}
use Rattle.lists.specs.Lists.{up_from, any_of, all_of}
use Rattle.calculus.specs.Checks.{between, ◌or◌, first_refusal}
use Rattle.basis.specs.declared.Literal.{Literal}
use Rattle.calculus.specs.Clauses.{arguments, Clause}
use Rattle.calculus.specs.Merging.{occurs_in}

-- ---- in the paper's terms

-- The nth arity is that of predicate n.
abbrev pub arity_of : List ℕ → ℕ → ℕ
arity_of arities n = get_or arities (n - 1) zero

-- "A literal is a sign, a predicate and as many variables as its arity."
pub record ProperLiteral (arities : List ℕ) (variables : ℕ) (l : Literal) : Type 0 where
  pub from_one : 1 ≤ l.predicate
  pub known : l.predicate ≤ length arities
  pub its_arguments : (x : ℕ) → Memᴰ x (take (arity_of arities l.predicate) (arguments l)) → (1 ≤ x) × (x ≤ variables)
  pub no_others : (x : ℕ) → Memᴰ x (drop (arity_of arities l.predicate) (arguments l)) → x ≡ zero

-- Variable x stands at a place of an atom or among the arguments of a literal.
pub data Occurs (C : Clause) (x : ℕ) : Type 0 where
  in_atom : (a : Atom) → Memᴰ a C.atoms → (x ≡ a.p) ⊎ (x ≡ a.q) → Occurs C x
  in_literal : (l : Literal) → Memᴰ l C.literals → Memᴰ x (arguments l) → Occurs C x

-- "an atom bounding it above (x, 0, c) and one bounding it below (0, x, c)"
pub record Bounded (atoms : List Atom) (x : ℕ) : Type 0 where
  pub upper : ℤ
  pub above : Memᴰ (record { p = x; q = zero; c = upper }) atoms
  pub lower : ℤ
  pub below : Memᴰ (record { p = zero; q = x; c = lower }) atoms

-- "A variable in an atom with two variables (equal or not) also has, in that clause, an atom bounding it above and one bounding it below."
abbrev pub DifferencesBounded : List Atom → Type 0
DifferencesBounded atoms = (a : Atom) → Memᴰ a atoms → ¬ (a.p ≡ zero) → ¬ (a.q ≡ zero) → Bounded atoms a.p × Bounded atoms a.q

-- "A clause is a record of at most 12 variables, 24 atoms and 8 literals."
pub record Limited (C : Clause) : Type 0 where
  pub few_variables : C.variables ≤ most_variables
  pub few_atoms : length C.atoms ≤ most_atoms
  pub few_literals : length C.literals ≤ most_literals

-- The clause class, limits apart: clauses before their limits are counted have it too.
pub record InClass (arities : List ℕ) (C : Clause) : Type 0 where
  pub atoms_proper : (a : Atom) → Memᴰ a C.atoms → Proper InRange C.variables a
  pub literals_proper : (l : Literal) → Memᴰ l C.literals → ProperLiteral arities C.variables l
  -- "Each variable occurs in an atom or literal."
  pub each_occurs : (x : ℕ) → 1 ≤ x → x ≤ C.variables → Occurs C x
  pub differences_bounded : DifferencesBounded C.atoms

-- ---- as a test

abbrev pub within_limits : Clause → Bool
within_limits C = leb C.variables most_variables && (leb (length C.atoms) most_atoms && leb (length C.literals) most_literals)

abbrev pub proper_atom : ℕ → Atom → Bool
proper_atom v a = leb a.p v && (leb a.q v && (leb 1 (a.p + a.q) && (le_z (neg_ℤ (pos most_c)) a.c && le_z a.c (pos most_c))))

abbrev pub proper_literal : List ℕ → ℕ → Literal → Bool
proper_literal arities v l =
    let n = arity_of arities l.predicate in
    between 1 (length arities) l.predicate && (all_of (between 1 v) (take n (arguments l)) && all_of (eqb zero) (drop n (arguments l)))

abbrev pub bounded : List Atom → ℕ → Bool
bounded az x = any_of (λ a. eqb a.p x && eqb a.q zero) az && any_of (λ a. eqb a.p zero && eqb a.q x) az

abbrev pub differences_bounded : List Atom → Bool
differences_bounded az = all_of (λ a. eqb a.p zero || (eqb a.q zero || (bounded az a.p && bounded az a.q))) az

-- "A clause's 5 then 6 at its end", after its counts and its fields
abbrev pub clause_refusal : List ℕ → Clause → ℕ
clause_refusal arities C =
    first_refusal (
    within_limits C or above_limit ∷
    (all_of (proper_atom C.variables) C.atoms && all_of (proper_literal arities C.variables) C.literals) or out_of_range ∷
    all_of (occurs_in C.atoms C.literals) (up_from 1 C.variables) or occurs_nowhere ∷
    differences_bounded C.atoms or lacks_bound ∷ [])
