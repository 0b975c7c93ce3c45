-- What the code finds at row j: its clause.
use mathlib.Core.Path.{◌≡◌, refl, ap, ◌∙◌, subst₂}
use mathlib.Core.Bool.{Bool, true, false}
use mathlib.Core.List.{List, [], ◌∷◌}
use mathlib.Core.Option.{Option, none, some}
use Prim.Native.Nat.{ℕ, zero, suc, ◌+◌, ◌-◌, ◌≤◌, ◌<◌}
use native.Mathlib.Numerals.{add-one}
use native.Mathlib.Omega.{arith}
use lib.IntN.{ℤ, pos, ◌-ℤ◌}
use lib.Signed.{◌≤ℤ◌, ◌<ℤ◌, lt_z, clash_ℤ}
use lib.ListN.{length, get_or, drop, drop_of_length-le}
use lib.Seq.{drop-cons}
use Rattle.basis.specs.Atoms.{InRange}
use Rattle.lists.specs.Tests.{Decides}
use Rattle.integers.proofs.Order.{lt_z_true, lt_z_false}
use Rattle.calculus.specs.Clauses.{no_clause}
use Rattle.lookup.specs.declared.Match.{Match}
use Rattle.lookup.specs.declared.Match.TheVariants.{Exact, Approximate}
use Rattle.lookup.specs.Tables.{InOrder, Row, RowInOrder, rows_of}
use Rattle.lookup.specs.TableClauses.{end_of, row_clause, table_clauses}
use Rattle.lookup.proofs.Lengths.{enough_results}

-- Where x ends in a row with the key k, before the later keys
abbrev end_before : Match → ℤ → (later : List ℤ) → Option ℤ
end_before Exact k later = some k
end_before Approximate k [] = none
end_before Approximate k (next ∷ later) = some (next -ℤ pos 1)

-- Row j
abbrev pub row_at : (keys results : List ℤ) → ℕ → Row
row_at keys results j = record { key = get_or keys j (pos 0); result = get_or results j (pos 0) }

clause_at_lem : (m : Match) (keys results : List ℤ) (j : ℕ) → length keys ≤ length results → j < length keys
    → get_or (table_clauses m (rows_of keys results)) j no_clause ≡ row_clause (row_at keys results j) (end_before m (get_or keys j (pos 0)) (drop (suc j) keys))
clause_at_lem m [] results j h l = absurd (omega arith)
clause_at_lem m (k ∷ keys) [] j h l = absurd (omega arith)
clause_at_lem m (k ∷ keys) (w ∷ results) (suc j) h l = clause_at_lem m keys results j (omega arith) (omega arith)
clause_at_lem m (k ∷ keys) (w ∷ results) zero h l = ap (row_clause (record { key = k; result = w })) (end m keys results (omega arith))
  where
    end : (m : Match) (ks ws : List ℤ) → length ks ≤ length ws → end_of m (record { key = k; result = w }) (rows_of ks ws) ≡ end_before m k ks
    end Exact ks ws g = refl
    end Approximate [] ws g = refl
    end Approximate (x ∷ ks) [] g = absurd (omega arith)
    end Approximate (x ∷ ks) (y ∷ ws) g = refl

module _ {keys results : List ℤ} (I : InOrder keys results) {j : ℕ} (h : j < length keys) where
  -- .. with these keys after it
  clause_before : (m : Match) (later : List ℤ) → drop (suc j) keys ≡ later
      → get_or (table_clauses m (rows_of keys results)) j no_clause ≡ row_clause (row_at keys results j) (end_before m (get_or keys j (pos 0)) later)
  clause_before m later e =
      clause_at_lem m keys results j (enough_results keys results I) h ∙ ap (λ (later : List ℤ). row_clause (row_at keys results j) (end_before m (get_or keys j (pos 0)) later)) e

  pub exact_at : get_or (table_clauses Exact (rows_of keys results)) j no_clause ≡ row_clause (row_at keys results j) (some (get_or keys j (pos 0)))
  exact_at = clause_before Exact (drop (suc j) keys) refl

  -- Of the last row
  pub last_at : length keys ≤ j + 1 → get_or (table_clauses Approximate (rows_of keys results)) j no_clause ≡ row_clause (row_at keys results j) none
  last_at l = clause_before Approximate [] (drop_of_length-le keys {i = suc j} (omega arith))

  -- Of a row before another
  pub next_at : j + 1 < length keys → get_or (table_clauses Approximate (rows_of keys results)) j no_clause ≡ row_clause (row_at keys results j) (some (get_or keys (j + 1) (pos 0) -ℤ pos 1))
  next_at l = rw (add-one j) (clause_before Approximate (get_or keys (suc j) (pos 0) ∷ drop (suc (suc j)) keys) (drop-cons keys (suc j) (pos 0) (omega arith)))
