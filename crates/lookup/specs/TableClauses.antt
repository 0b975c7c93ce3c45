-- The clauses of a lookup table, and their bytes. Quoted is the request "Clauses from a lookup table".
use Rattle.std.specs.Prelude.{true, List, [], ◌∷◌, ◌++◌, ℕ, ℤ, pos, neg_ℤ, ◌-ℤ◌}
use Rattle.std.proofs.Math.Option.{Option, none, some}
use Rattle.basis.specs.declared.Atom.{Atom}
use Rattle.basis.specs.declared.Literal.{Literal}
use Rattle.calculus.specs.Clauses.{Clause}
use Rattle.runfile.specs.Written.{joined, written_clause}
use Rattle.lookup.specs.declared.Match.{Match}
use Rattle.lookup.specs.declared.Match.TheVariants.{Exact, Approximate}
use Rattle.lookup.specs.Tables.{Row}

-- A variable bounded below: n at least, as 0 − v ≤ −n
abbrev pub at_least : ℕ → ℤ → Atom
at_least v n = record { p = 0; q = v; c = neg_ℤ n }

-- A variable bounded above: n at most, as v − 0 ≤ n
abbrev pub at_most : ℕ → ℤ → Atom
at_most v n = record { p = v; q = 0; c = n }

-- "Gets being predicate 1", "x is variable 1", and y is variable 2: Gets(x, y)
abbrev pub gets : Literal
gets = record { positive = true; predicate = 1; x = 1; y = 2; z = 0 }

-- x bounded above, where it has an upper end
abbrev pub up_to : Option ℤ → List Atom
up_to none = []
up_to (some n) = at_most 1 n ∷ []

-- The clause of a row in which x ends at n: "x, then y, bounded below, then above"
abbrev pub row_clause : Row → Option ℤ → Clause
row_clause r n = record {
  variables = 2;
  atoms = at_least 1 r.key ∷ up_to n ++ (at_least 2 r.result ∷ at_most 2 r.result ∷ []);
  literals = gets ∷ [];
}

-- Where x ends in a row, before the later ones: "exact, x equals the key ..; approximate, x runs from the key to one below the next key, without
-- upper end for the last row"
abbrev pub end_of : Match → Row → (later : List Row) → Option ℤ
end_of Exact r later = some r.key
end_of Approximate r [] = none
end_of Approximate r (next ∷ later) = some (next.key -ℤ pos 1)

-- "Gets(x, y) has one clause per row", "rows in order".
abbrev pub table_clauses : Match → List Row → List Clause
table_clauses m [] = []
table_clauses m (r ∷ later) = row_clause r (end_of m r later) ∷ table_clauses m later

-- Gets alone, of arity 2
abbrev pub gets_arities : List ℕ
gets_arities = 2 ∷ []

-- "They go as file clauses .. into a lent buffer": one after the other, and no count before them.
abbrev pub table_bytes : Match → List Row → List ℕ
table_bytes m rows = joined (written_clause gets_arities) (table_clauses m rows)
