-- Three wrong ways to make a table's clauses: none says what the table returns, so strong is `GetsExactly`. Proved in proofs/WrongTables.antt.
use Rattle.std.specs.Prelude.{List, [], ◌∷◌}
use Rattle.std.proofs.Math.Option.{some}
use Rattle.calculus.specs.Clauses.{Clause, no_clause}
use Rattle.lookup.specs.declared.Match.{Match}
use Rattle.lookup.specs.declared.Match.TheVariants.{Exact}
use Rattle.lookup.specs.Tables.{Row}
use Rattle.lookup.specs.TableClauses.{end_of, row_clause, table_clauses}
use Rattle.lookup.specs.Claims.{GetsFollows, SaysExactly}

-- Each row but the last ends at the next key itself: there two results follow.
abbrev pub too_far : Match → List Row → List Clause
too_far m [] = []
too_far m (r ∷ []) = row_clause r (end_of m r []) ∷ []
too_far m (r ∷ next ∷ later) = row_clause r (some next.key) ∷ too_far m (next ∷ later)

-- The kind of match is not looked at: between the keys nothing follows.
abbrev pub keys_alone : Match → List Row → List Clause
keys_alone m rows = table_clauses Exact rows

-- No reading satisfies the clauses: everything follows.
abbrev pub no_reading : Match → List Row → List Clause
no_reading m rows = no_clause ∷ []

-- None of the three does what the clauses of a table do.
abbrev pub WrongTablesExcluded : Type 1
WrongTablesExcluded = (¬ SaysExactly GetsFollows too_far) × (¬ SaysExactly GetsFollows keys_alone) × (¬ SaysExactly GetsFollows no_reading)
