-- What the clauses of a table mean, and that a run file has them from these bytes. Quoted is the request "Clauses from a lookup table". Proved in
-- proofs/Meaning.antt, proofs/InFile.antt and proofs/Making.antt.
use Rattle.std.specs.Prelude.{◌≡◌, ◌↔◌, ℕ, ◌+◌, ◌*◌, ◌≤◌, ℤ, length, take, Ok}
use mathlib.Core.List.{List, [], ◌∷◌, ◌++◌, Memᴰ}
use Rattle.basis.specs.Limits.{most_input, most_rows}
use Rattle.basis.specs.Numbers.{whole}
use Rattle.calculus.specs.Clauses.{Clause}
use Rattle.calculus.specs.Class.{InClass, Limited, arity_of}
use Rattle.calculus.specs.Truth.{Reading, True}
use Rattle.runfile.specs.Readers.{got}
use Rattle.runfile.specs.File.{File, file, most_file}
use Rattle.runfile.specs.Written.{joined, written_clause, written_with}
use Rattle.runfile.specs.Claims.{Sayable}
use Rattle.lookup.specs.declared.Match.{Match}
use Rattle.lookup.specs.Tables.{InOrder, Returns, Row, rows_of}
use Rattle.lookup.specs.TableClauses.{table_clauses}
use Rattle.lookup.specs.Making.{Makes, bytes_for}

-- The table is accepted, if there is room for its clauses.
pub record TableAccepted (keys results : List ℤ) : Type 0 where
  pub few_rows : length keys ≤ most_rows
  pub in_order : InOrder keys results

-- ---- what the clauses mean

-- At no x two results are returned.
abbrev pub ReturnsOnce : Type 0
ReturnsOnce = (keys results : List ℤ) → TableAccepted keys results → (m : Match) (x y z : ℤ) → Returns m (rows_of keys results) x y → Returns m (rows_of keys results) x z → y ≡ z

-- The nth arity is that of predicate n; Gets is predicate 1.
module _ (arities : List ℕ) where
  -- Gets(x, y) under a reading
  abbrev pub Gets : Reading whole arities → ℤ → ℤ → Type 0
  Gets I x y = I 1 (x ∷ y ∷ [])

  -- The reading "satisfies these clauses".
  abbrev pub Satisfies : Reading whole arities → List Clause → Type 0
  Satisfies I cs = (C : Clause) → Memᴰ C cs → True whole arities I C

  -- "Gets(x, y) must be true in every reading that satisfies these clauses": as clauses are true there, it can't be that it does not hold.
  abbrev pub GetsFollows : List Clause → ℤ → ℤ → Type 1
  GetsFollows cs x y = (I : Reading whole arities) → Satisfies I cs → ¬ (¬ Gets I x y)

  -- The same over readings that decide of any numbers whether a predicate holds: Gets(x, y) holds.
  abbrev pub GetsHolds : List Clause → ℤ → ℤ → Type 1
  GetsHolds cs x y = (I : Reading whole arities) → ((n : ℕ) (ws : List ℤ) → Dec (I n ws)) → Satisfies I cs → Gets I x y

-- "Gets(x, y) must be true in every reading that satisfies these clauses exactly if the table returns y at x": what `follows` from the clauses
-- that `make` makes is what is returned, for every accepted table, each kind of match and all whole x and y, wherever Gets has two arguments.
abbrev pub SaysExactly : (follows : List ℕ → List Clause → ℤ → ℤ → Type 1) (make : Match → List Row → List Clause) → Type 1
SaysExactly follows make =
    (keys results : List ℤ) → TableAccepted keys results → (m : Match) (arities : List ℕ) → arity_of arities 1 ≡ 2
    → (x y : ℤ) → follows arities (make m (rows_of keys results)) x y ↔ Returns m (rows_of keys results) x y

-- The clauses of a table do.
abbrev pub GetsExactly : Type 1
GetsExactly = SaysExactly GetsFollows table_clauses

-- .. and for decidable readings without double negation
abbrev pub GetsExactlyDecided : Type 1
GetsExactlyDecided = SaysExactly GetsHolds table_clauses

-- ---- the clauses in a run file

-- Each clause is of the class and within the limits.
abbrev pub TableInClass : Type 0
TableInClass =
    (keys results : List ℤ) → TableAccepted keys results → (m : Match) (arities : List ℕ) → arity_of arities 1 ≡ 2
    → (C : Clause) → Memᴰ C (table_clauses m (rows_of keys results)) → InClass arities C × Limited C

-- The bytes of the file F with its input clauses, between which, after `before`, stand the bytes w of n more
abbrev pub written_among : File → (before : List Clause) (n : ℕ) (w : List ℕ) (after : List Clause) → List ℕ
written_among F before n w after = written_with F (length F.input + n) (joined (written_clause F.arities) before ++ w ++ joined (written_clause F.arities) after)

-- The file F, but with other input clauses
abbrev pub with_input : File → List Clause → File
with_input F cs = record { version = F.version; constants = F.constants; arities = F.arities; input = cs; steps = F.steps }

-- In any file that can be said and in which predicate 1 has two arguments, the table's bytes between those of its input clauses, or alone where it
-- has none, are read as exactly the table's clauses, and all else as it was, if there are at most 48 input clauses in all and the file is not too
-- long: with the table's bytes it has at most 65,536.
abbrev pub TableReadBack : Type 0
TableReadBack =
    (keys results : List ℤ) → TableAccepted keys results → (m : Match) (F : File) → Sayable F → arity_of F.arities 1 ≡ 2
    → (before after : List Clause) → F.input ≡ before ++ after → length F.input + length keys ≤ most_input
    → let s = written_among F before (length keys) (bytes_for keys results m) after in
    length s ≤ most_file → file s ≡ got (with_input F (before ++ table_clauses m (rows_of keys results) ++ after)) (length s)

-- A clause: three counts, at most four atoms of six bytes, and a literal of four
abbrev pub most_table_bytes : ℕ
most_table_bytes = most_rows * (3 + 4 * 6 + 4)

-- No table has more than 1,488 bytes.
abbrev pub TableShort : Type 0
TableShort = (keys results : List ℤ) → TableAccepted keys results → (m : Match) → length (bytes_for keys results m) ≤ most_table_bytes

-- ---- from the buffer to the meaning

-- What `clauses_from` leaves in the buffer, put so into any such file, is read as clauses from which Gets(x, y) follows exactly if the table returns
-- y at x; all else of the file is as it was.
abbrev pub WrittenExactly : Type 1
WrittenExactly =
    (keys results : List ℤ) (m : Match) (d d' : List ℕ) (n : ℕ) → Makes keys results m d d' (Ok n) → (F : File) → Sayable F → arity_of F.arities 1 ≡ 2
    → (before after : List Clause) → F.input ≡ before ++ after → length F.input + length keys ≤ most_input
    → let s = written_among F before (length keys) (take n d') after in
    length s ≤ most_file → (cs : List Clause) × (file s ≡ got (with_input F (before ++ cs ++ after)) (length s)) × ((x y : ℤ) → GetsFollows F.arities cs x y ↔ Returns m (rows_of keys results) x y)
