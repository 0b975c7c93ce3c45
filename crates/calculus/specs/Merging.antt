-- Merging, and the three clauses that are made by it: the reason of a Propagate, the resolvent and the factored conflict.
use Rattle.std.specs.Prelude.{List, [], ◌∷◌, ◌++◌, map, Bool, not, ◌||◌, cond, ℕ, zero, suc, ◌+◌, min, max, eqb, length, get_or}
use Rattle.basis.specs.declared.Atom.{Atom}
use Rattle.lists.specs.Lists.{up_from, keep_if, any_of, without, pair_up, index_of}
use Rattle.basis.specs.declared.Literal.{Literal}
use Rattle.calculus.specs.Clauses.{arguments, Clause, Instanced, no_literal, same_atom, same_literal, rename_atom, rename_literal, under, ground}

-- "A merged group takes its smallest number": the groups of x and y become one in the table σ of group numbers.
abbrev pub join : ℕ → ℕ → List ℕ → List ℕ
join x y σ = let a = under σ x in let b = under σ y in map (λ z. cond (eqb z (max a b)) (min a b) z) σ

abbrev pub joins : List (ℕ × ℕ) → List ℕ → List ℕ
joins [] σ = σ
joins (e ∷ es) σ = joins es (join e.0 e.1 σ)

-- "An atom equal to an earlier one goes, also where no variables meet."
abbrev pub distinct : List Atom → List Atom
distinct [] = []
distinct (a ∷ az) = a ∷ keep_if (λ b. not (same_atom a b)) (distinct az)

-- Variable x occurs in an atom or a literal.
abbrev pub occurs_in : List Atom → List Literal → ℕ → Bool
occurs_in az ls x = any_of (λ a. eqb x a.p || eqb x a.q) az || any_of (λ l. any_of (eqb x) (arguments l)) ls

-- "Variables that no longer occur go, and numbers close up in order."
unfoldable pub close_up : ℕ → List Atom → List Literal → List ℕ → Instanced
close_up v az ls τ =
    let ks = keep_if (occurs_in az ls) (up_from 1 v) in
    record {
      clause = record { variables = length ks; atoms = map (rename_atom (λ x. index_of x (0 ∷ ks))) az; literals = map (rename_literal (λ x. index_of x (0 ∷ ks))) ls };
      instance = map (under τ) ks;
    }

-- The atoms and literals over v variables with the pairs of variables merged
unfoldable pub merge : List (ℕ × ℕ) → ℕ → List Atom → List Literal → List ℕ → Instanced
merge es v az ls τ =
    let σ = joins es (up_from 1 v) in
    close_up v (distinct (map (rename_atom (under σ)) az)) (map (rename_literal (under σ)) ls) τ

-- "L keeps its place, the others go": the literal at i (from 0) whatever its instance, and those of another instance than g.
abbrev pub reason_literals : List ℕ → Literal → ℕ → List Literal → List Literal
reason_literals τ g i [] = []
reason_literals τ g zero (l ∷ ls) = l ∷ keep_if (λ m. not (same_literal (ground τ m) g)) ls
reason_literals τ g (suc i) (l ∷ ls) = let r = reason_literals τ g i ls in cond (same_literal (ground τ l) g) r (l ∷ r)

-- Where the literal at i then stands, from 0
abbrev pub own_index : List ℕ → Literal → ℕ → List Literal → ℕ
own_index τ g i [] = zero
own_index τ g zero (l ∷ ls) = zero
own_index τ g (suc i) (l ∷ ls) = let r = own_index τ g i ls in let s = suc r in cond (same_literal (ground τ l) g) r s

-- The arguments of l paired with those of each literal of the instance g
abbrev pub own_pairs : List ℕ → Literal → Literal → List Literal → List (ℕ × ℕ)
own_pairs τ g l [] = []
own_pairs τ g l (m ∷ ls) = let r = own_pairs τ g l ls in cond (same_literal (ground τ m) g) (pair_up (arguments l) (arguments m) ++ r) r

-- A reason, with its own literal's place, from 0
pub record Reason : Type 0 where
  pub of : Instanced
  pub own : ℕ

-- "Its reason is the clause after merging L with all literals of the same instance." L is the literal at i, from 0.
unfoldable pub reason : Clause → ℕ → List ℕ → Reason
reason C i τ =
    let l = get_or C.literals i no_literal in
    let g = ground τ l in
    record { of = merge (own_pairs τ g l C.literals) C.variables C.atoms (reason_literals τ g i C.literals) τ; own = own_index τ g i C.literals }

-- "Renamed reason variables follow the conflict's", which are v.
abbrev pub apart : ℕ → ℕ → ℕ
apart v x = cond (eqb x zero) zero (x + v)

-- "The reason's variables are renamed apart, then merged argument by argument. New conflict: the old literals without L', then the
-- reason's without its own; old atoms, then the reason's." L' is the literal at j of the conflict N, the reason's own is at i of R.
unfoldable pub resolvent : Instanced → ℕ → Instanced → ℕ → Instanced
resolvent N j R i =
    let v = N.clause.variables in
    merge (pair_up (arguments (get_or N.clause.literals j no_literal)) (arguments (rename_literal (apart v) (get_or R.clause.literals i no_literal))))
    (v + R.clause.variables)
    (N.clause.atoms ++ map (rename_atom (apart v)) R.clause.atoms)
    (without j N.clause.literals ++ map (rename_literal (apart v)) (without i R.clause.literals))
    (N.instance ++ R.instance)

-- "Their variables are merged; the one with the larger number goes." The two literals are at i and j.
unfoldable pub factored : Instanced → ℕ → ℕ → Instanced
factored N i j =
    merge (pair_up (arguments (get_or N.clause.literals (min i j) no_literal)) (arguments (get_or N.clause.literals (max i j) no_literal)))
    N.clause.variables N.clause.atoms (without (max i j) N.clause.literals) N.instance
