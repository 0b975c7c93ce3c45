-- Room for two clauses, since two are merged before the limits are counted; and what numbers become.
use Rattle.std.specs.Prelude.{List, ◌∷◌, ℕ}
use Rattle.lists.specs.Lists.{index_of}
use Rattle.calculus.specs.Clauses.{under}
use Rattle.calculus.specs.Merging.{apart}

-- Two clauses' variables, atoms and literals
abbrev pub both_variables : ℕ
both_variables = 24

abbrev pub both_atoms : ℕ
both_atoms = 48

abbrev pub both_literals : ℕ
both_literals = 16

-- What the table t has for variable x of a clause whose variables follow v others
abbrev pub through : List ℕ → ℕ → ℕ → ℕ
through t v x = under t (apart v x)

-- The new number of variable x where the variables ks are kept
abbrev pub closed : List ℕ → ℕ → ℕ
closed ks x = index_of x (0 ∷ ks)
