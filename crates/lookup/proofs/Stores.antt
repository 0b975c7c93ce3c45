-- What the stores leave: the record of a row's clause, filled from the blank one, and the bytes of the clauses one after the other.
use mathlib.Core.Path.{◌≡◌, ap, ap₂, ◌∙◌}
use mathlib.Core.List.{List, [], ◌∷◌}
use mathlib.Core.Option.{none, some}
use Prim.Native.Nat.{ℕ, zero, suc, ◌+◌, ◌≤◌, ◌<◌}
use native.Mathlib.Omega.{arith}
use lib.IntN.{ℤ}
use lib.ListN.{length, get_or, set, take}
use Rattle.basis.specs.declared.Atom.{Atom}
use Rattle.basis.specs.declared.Literal.{Literal}
use Rattle.lists.specs.Arrays.{exactly}
use Rattle.calculus.specs.Clauses.{no_clause}
use Rattle.calculus.specs.Clauses as calculus
use Rattle.runfile.specs.Written.{joined, written_clause}
use Rattle.clauses.specs.declared.Clause.{Clause}
use Rattle.clauses.specs.Records.{clause_of, packed}
use Rattle.clauses.proofs.Records.{packed_says}
use Rattle.text.specs.Text.{Wrote}
use Rattle.text.proofs.Text.{as_text}
use Rattle.clausebytes.proofs.Members.{room_for, one_more, all_written}
use Rattle.lookup.specs.declared.Match.{Match}
use Rattle.lookup.specs.Tables.{InOrder, Row, rows_of}
use Rattle.lookup.specs.TableClauses.{at_least, at_most, end_of, gets, gets_arities, row_clause, table_clauses}
use Rattle.lookup.specs.Making.{bytes_for}
use Rattle.lookup.proofs.Lengths.{one_for_each}
use Rattle.lookup.proofs.Rows.{row_limited}

-- ---- the record of a clause

module _ (k w : ℤ) {c : Clause} {x y z : Atom} {l : Literal} (blank : c ≡ packed no_clause) (from_key : x ≡ at_least 1 k) (from-result : y ≡ at_least 2 w) (to-result : z ≡ at_most 2 w) (literal : l ≡ gets) where
  pub endless_filled : ◌≡◌ {A = Clause} (record { variables = 2; atomcount = 3; literalcount = 1; atoms = set (set (set c.atoms 0 x) 1 y) 2 z; literals = set c.literals 0 l })
      (packed (row_clause (record { key = k; result = w }) none))
  unfolding exactly
  endless_filled = rw (blank, from_key, from-result, to-result, literal)

  pub banded_filled : {n : ℤ} {e : Atom} → e ≡ at_most 1 n
      → ◌≡◌ {A = Clause} (record { variables = 2; atomcount = 4; literalcount = 1; atoms = set (set (set (set c.atoms 0 x) 1 e) 2 y) 3 z; literals = set c.literals 0 l })
      (packed (row_clause (record { key = k; result = w }) (some n)))
  unfolding exactly
  banded_filled to_end = rw (blank, from_key, to_end, from-result, to-result, literal)

-- ---- the bytes

-- The record of each clause says the clause.
record_says : (m : Match) (rows : List Row) (j : ℕ) → clause_of (packed (get_or (table_clauses m rows) j no_clause)) ≡ get_or (table_clauses m rows) j no_clause
record_says m [] j = packed_says no_clause (record { few_variables = omega arith; few_atoms = omega arith; few_literals = omega arith })
record_says m (r ∷ later) zero = packed_says (row_clause r (end_of m r later)) (row_limited r (end_of m r later))
record_says m (r ∷ later) (suc j) = record_says m later j

-- After j rows
abbrev pub RowsPut : (keys results : List ℤ) → Match → (j : ℕ) (d d' : List ℕ) (r : ℕ) → Type 0
RowsPut keys results m j d d' r = Wrote d 0 (joined (written_clause gets_arities) (take j (table_clauses m (rows_of keys results)))) d' r

module _ {keys results : List ℤ} (I : InOrder keys results) (m : Match) where
  abbrev clauses : List calculus.Clause
  clauses = table_clauses m (rows_of keys results)

  module _ {j r : ℕ} {d d₁ : List ℕ} (t : RowsPut keys results m j d d₁ r) where
    -- What is put for row j
    module _ {arities : List ℕ} {c : Clause} (h : j < length keys) (e : arities ≡ gets_arities) (f : c ≡ packed (get_or (table_clauses m (rows_of keys results)) j no_clause)) where
      row_written : written_clause arities (clause_of c) ≡ written_clause gets_arities (get_or (table_clauses m (rows_of keys results)) j no_clause)
      row_written = ap₂ written_clause e (ap clause_of f ∙ record_says m (rows_of keys results) j)

      -- .. finds room,
      pub row_fits : length (bytes_for keys results m) ≤ length d → r + length (written_clause arities (clause_of c)) ≤ length d₁
      row_fits room = rw row_written (room_for (written_clause gets_arities) clauses j t no_clause (omega (arith, one_for_each m I)) (omega (arith, room)))

      -- .. and is one row more.
      pub row_put : {d₂ : List ℕ} {r₂ : ℕ} → Wrote d₁ r (written_clause arities (clause_of c)) d₂ r₂ → RowsPut keys results m (j + 1) d d₂ r₂
      row_put a = one_more (written_clause gets_arities) clauses j t no_clause (omega (arith, one_for_each m I)) (as_text row_written a)

    pub all_put : length keys ≤ j → Wrote d 0 (bytes_for keys results m) d₁ r
    all_put h = all_written (written_clause gets_arities) clauses j t (omega (arith, one_for_each m I))
