-- How many clauses and bytes a table has: 31 bytes for the clause of a row, and 6 less where x has no upper end.
use mathlib.Core.Path.{◌≡◌, refl, ap, ◌∙◌}
use mathlib.Core.List.{List, [], ◌∷◌}
use mathlib.Core.Option.{Option, none, some}
use Prim.Native.Nat.{ℕ, zero, suc, ◌+◌, ◌-◌, ◌*◌, ◌≤◌}
use native.Mathlib.Omega.{arith}
use lib.IntN.{ℤ}
use lib.ListN.{length, length-append}
use Rattle.runfile.specs.Written.{written_clause}
use Rattle.lookup.specs.declared.Match.{Match}
use Rattle.lookup.specs.declared.Match.TheVariants.{Exact, Approximate}
use Rattle.lookup.specs.Tables.{InOrder, Row, rows_of}
use Rattle.lookup.specs.TableClauses.{end_of, gets_arities, row_clause, table_bytes, table_clauses}
use Rattle.lookup.specs.Making.{bytes_for}

clauses_long : (m : Match) (rows : List Row) → length (table_clauses m rows) ≡ length rows
clauses_long m [] = refl
clauses_long m (r ∷ later) = ap suc (clauses_long m later)

-- The bytes of the clause of a row in which x ends at n
abbrev row_long : Option ℤ → ℕ
row_long none = 25
row_long (some n) = 31

row_long_lem : (r : Row) (n : Option ℤ) → length (written_clause gets_arities (row_clause r n)) ≡ row_long n
unfolding written_clause
row_long_lem r none = refl
row_long_lem r (some n) = refl

-- The bytes of a table of n rows
abbrev pub table_long : Match → ℕ → ℕ
table_long m zero = 0
table_long Exact (suc n) = 31 + 31 * n
table_long Approximate (suc n) = 25 + 31 * n

table_long_lem : (m : Match) (rows : List Row) → length (table_bytes m rows) ≡ table_long m (length rows)
table_long_lem m [] = refl
table_long_lem m (r ∷ later) =
    length-append (written_clause gets_arities (row_clause r (end_of m r later))) (table_bytes m later) ∙ go m later (row_long_lem r (end_of m r later)) (table_long_lem m later)
  where
    go : (m : Match) (later : List Row) {a b : ℕ} → a ≡ row_long (end_of m r later) → b ≡ table_long m (length later) → a + b ≡ table_long m (suc (length later))
    go Exact [] e f = omega arith
    go Exact (o ∷ later) e f = omega arith
    go Approximate [] e f = omega arith
    go Approximate (o ∷ later) e f = omega arith

pub table_long_most : (m : Match) (n : ℕ) → table_long m n ≤ 31 * n
table_long_most m zero = omega arith
table_long_most Exact (suc n) = omega arith
table_long_most Approximate (suc n) = omega arith

-- Where no result is missing, there are as many rows as keys.
rows_long : (keys results : List ℤ) → length keys ≤ length results → length (rows_of keys results) ≡ length keys
rows_long [] results h = refl
rows_long (k ∷ keys) [] h = omega arith
rows_long (k ∷ keys) (w ∷ results) h = omega (arith, rows_long keys results (omega arith))

pub enough_results : (keys results : List ℤ) → InOrder keys results → length keys ≤ length results
enough_results [] results h = omega arith
enough_results (k ∷ keys) results h = (h (length keys) (omega arith)).has_result

-- .. and a clause for each.
pub one_for_each : (m : Match) {keys results : List ℤ} → InOrder keys results → length (table_clauses m (rows_of keys results)) ≡ length keys
one_for_each m {keys} {results} I = clauses_long m (rows_of keys results) ∙ rows_long keys results (enough_results keys results I)

-- The bytes of the table that is offered, by the number of its keys
pub offered_long : (m : Match) (keys results : List ℤ) → InOrder keys results → length (bytes_for keys results m) ≡ table_long m (length keys)
offered_long m keys results I = table_long_lem m (rows_of keys results) ∙ ap (table_long m) (rows_long keys results (enough_results keys results I))

pub exact_long : (n : ℕ) → table_long Exact n ≡ 31 * n
exact_long zero = omega arith
exact_long (suc n) = omega arith

pub approximate_long : (n : ℕ) → table_long Approximate n ≡ 31 * n - 6
approximate_long zero = omega arith
approximate_long (suc n) = omega arith
