-- What each wrong way says that the table does not return, or does not say that it returns.
use mathlib.Core.Path.{◌≡◌, refl, ap, sym, subst, ◌∙◌}
use mathlib.Core.List.Memᴰ
use mathlib.Core.List.{List, [], ◌∷◌, Memᴰ}
use mathlib.Core.Option.{some}
use Prim.Native.Nat.{ℕ, zero, suc, ◌≤◌, ◌<◌}
use native.Mathlib.Omega.{arith}
use lib.Dec.{le→leb}
use lib.IntN.{ℤ, pos, nat_abs}
use lib.Signed.{◌≤ℤ◌, ◌<ℤ◌, le_z_yes, lt_z_yes}
use lib.ListN.{length, get_or}
use Rattle.basis.specs.Atoms.{InRange}
use Rattle.lists.proofs.Members.{first_or_later}
use Rattle.integers.proofs.Linear.{le→}
use Rattle.calculus.specs.Clauses.{no_clause}
use Rattle.lookup.specs.declared.Match.TheVariants.{Exact, Approximate}
use Rattle.lookup.specs.Tables.{Returns, Row, RowInOrder, rows_of}
use Rattle.lookup.specs.TableClauses.{gets_arities}
use Rattle.lookup.specs.Claims.{TableAccepted}
use Rattle.lookup.specs.WrongTables.{WrongTablesExcluded, too_far}
use Rattle.lookup.proofs.Meaning.{gets_exactly, row_follows}

small : (n : ℕ) → n ≤ 1000000 → InRange (pos n)
small n h = record { low = le_z_yes tt; high = le_z_yes (le→leb n 1000000 h) }

-- The table of one row: at 0 it returns 0.
abbrev one : List ℤ
one = pos 0 ∷ []

one_accepted : TableAccepted one one
one_accepted = record { few_rows = omega arith; in_order = row }
  where
    row : (j : ℕ) → j < length one → RowInOrder one one j
    row zero h = record { has_result = h; rises = λ i e. absurd (omega arith); key_range = small 0 (omega arith); result_range = small 0 (omega arith) }
    row (suc j) h = absurd (omega arith)

-- The table of two rows: at 0 it returns 0, at 1 it returns 1.
abbrev two : List ℤ
two = pos 0 ∷ pos 1 ∷ []

two_accepted : TableAccepted two two
two_accepted = record { few_rows = omega arith; in_order = row }
  where
    first : (i : ℕ) → 1 ≡ suc i → get_or two i (pos 0) <ℤ pos 1
    first zero e = lt_z_yes tt
    first (suc i) e = absurd (omega arith)

    row : (j : ℕ) → j < length two → RowInOrder two two j
    row zero h = record { has_result = h; rises = λ i e. absurd (omega arith); key_range = small 0 (omega arith); result_range = small 0 (omega arith) }
    row (suc zero) h = record { has_result = h; rises = first; key_range = small 1 (omega arith); result_range = small 1 (omega arith) }
    row (suc (suc j)) h = absurd (omega arith)

apart : ¬ (pos 0 ≡ pos 1)
apart e = absurd (omega (arith, ap nat_abs e))

above : ¬ (pos 1 ≤ℤ pos 0)
above h = absurd (omega (arith, le→ h))

-- At 1 the row of the key 0 is not found.
not_zero : ¬ Returns Approximate (rows_of two two) (pos 1) (pos 0)
not_zero (r, f, e) =
    first_or_later f.0
    (λ q. above (subst (λ (z : Row). pos 1 ≤ℤ z.key) q (f.2 (record { key = pos 1; result = pos 1 }) (Memᴰ.tail (Memᴰ.head refl)) (le_z_yes tt))))
    (λ m. first_or_later m (λ q. apart (sym e ∙ ap (λ (z : Row). z.result) q)) (λ n. Memᴰ.not-nil n))

-- Between the keys nothing is found exactly.
not_exact : ¬ Returns Exact (rows_of one one) (pos 1) (pos 0)
not_exact (r, f, e) = first_or_later f.0 (λ q. apart (sym (ap (λ (z : Row). z.key) q) ∙ f.1)) (λ n. Memᴰ.not-nil n)

found : Returns Approximate (rows_of one one) (pos 1) (pos 0)
found = (record { key = pos 0; result = pos 0 }, (Memᴰ.head refl, le_z_yes tt, largest), refl)
  where
    largest : (o : Row) → Memᴰ o (rows_of one one) → o.key ≤ℤ pos 1 → o.key ≤ℤ pos 0
    largest o m h = first_or_later m (λ q. subst (λ (z : Row). z.key ≤ℤ pos 0) (sym q) (le_z_yes tt)) (λ n. absurd (Memᴰ.not-nil n))

pub wrong_tables_excluded : WrongTablesExcluded
wrong_tables_excluded = (
  λ h. not_zero ((h two two two_accepted Approximate gets_arities refl (pos 1) (pos 0)).0
      (row_follows gets_arities refl (record { key = pos 0; result = pos 0 }) (some (pos 1)) (pos 1) (pos 0) (le_z_yes tt, le_z_yes tt) refl (too_far Approximate (rows_of two two)) (Memᴰ.head refl))),
  λ h. not_exact ((gets_exactly one one one_accepted Exact gets_arities refl (pos 1) (pos 0)).0 ((h one one one_accepted Approximate gets_arities refl (pos 1) (pos 0)).1 found)),
  λ h. not_exact ((h one one one_accepted Exact gets_arities refl (pos 1) (pos 0)).0 (λ I s n. s no_clause (Memᴰ.head refl) (λ k. pos 0) refl (λ a m. absurd (Memᴰ.not-nil m)) (λ l m. absurd (Memᴰ.not-nil m)))),
)
