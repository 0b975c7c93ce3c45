-- Whether a table is in order is decided; so whatever is offered has an answer.
use mathlib.Core.Path.{◌≡◌, refl, sym}
use mathlib.Core.Logic.Dec
use mathlib.Core.Logic.{inl, inr}
use mathlib.Core.List.{List, ◌++◌}
use Prim.Native.Nat.{ℕ, zero, suc, ◌≤◌}
use native.Mathlib.Decide.{dec_le, dec_lt, map_dec}
use native.Mathlib.Omega.{arith}
use lib.IntN.{ℤ, pos, neg_ℤ}
use lib.Signed.{◌<ℤ◌}
use lib.ListN.{length, get_or, drop}
use Rattle.basis.specs.Limits.{most_c, most_rows}
use Rattle.basis.specs.Refusals.{buffer_short, not_in_order, too_many_rows}
use Rattle.basis.specs.Atoms.{InRange}
use Rattle.lists.proofs.Decided.{all_decided}
use Rattle.integers.proofs.Order.{at_most_decided, below_decided}
use Rattle.std.specs.Prelude.{Result, Ok, Err}
use Rattle.basis.specs.declared.Refusal.{Refusal}
use Rattle.basis.specs.declared.Refusal.TheVariants.{TooManyRows, NotInOrder, BufferShort}
use Rattle.basis.specs.declared.Refused.{Refused}
use Rattle.lookup.specs.Tables.{InOrder, RowInOrder}
use Rattle.lookup.specs.Making.{EveryTable, Makes, bytes_for}

range_decided : (n : ℤ) → Dec (InRange n)
range_decided n = map_dec (λ h. record { low = h.0; high = h.1 }) (λ h. (h.low, h.high)) (Dec.and (at_most_decided (neg_ℤ (pos most_c)) n) (at_most_decided n (pos most_c)))

rises_decided : (keys : List ℤ) (j : ℕ) → Dec ((i : ℕ) → j ≡ suc i → get_or keys i (pos 0) <ℤ get_or keys j (pos 0))
rises_decided keys zero = yes (λ i e. absurd (omega arith))
rises_decided keys (suc j) = map_dec each (λ f. f j refl) (below_decided (get_or keys j (pos 0)) (get_or keys (suc j) (pos 0)))
  where
    each : get_or keys j (pos 0) <ℤ get_or keys (suc j) (pos 0) → (i : ℕ) → suc j ≡ suc i → get_or keys i (pos 0) <ℤ get_or keys (suc j) (pos 0)
    each h i e = let q : j ≡ i = omega arith in rw (sym q) h

row_decided : (keys results : List ℤ) (j : ℕ) → Dec (RowInOrder keys results j)
row_decided keys results j =
    map_dec (λ h. record { has_result = h.0; rises = h.1.0; key_range = h.1.1.0; result_range = h.1.1.1 }) (λ h. (h.has_result, (h.rises, (h.key_range, h.result_range))))
    (Dec.and (dec_lt j (length results)) (Dec.and (rises_decided keys j) (Dec.and (range_decided (get_or keys j (pos 0))) (range_decided (get_or results j (pos 0))))))

in_order_decided : (keys results : List ℤ) → Dec (InOrder keys results)
in_order_decided keys results = all_decided (RowInOrder keys results) (row_decided keys results) (length keys)

pub every_table : EveryTable
every_table keys results m d = by (dec_le (length keys) most_rows) (in_order_decided keys results) (dec_le (length w) (length d))
  where
    w : List ℕ
    w = bytes_for keys results m

    by : Dec (length keys ≤ most_rows) → Dec (InOrder keys results) → Dec (length w ≤ length d) → (d' : List ℕ) × (r : Result ℕ (Refused ℕ)) × Makes keys results m d d' r
    by (no h) o f = (d, Err (record { refusal = TooManyRows; place = 0 }), (inl (h, refl), refl, refl))
    by (yes h) (no o) f = (d, Err (record { refusal = NotInOrder; place = 0 }), (inr (h, inl (o, refl)), refl, refl))
    by (yes h) (yes o) (no f) = (d, Err (record { refusal = BufferShort; place = 0 }), (inr (h, inr (o, inl (f, refl))), refl, refl))
    by (yes h) (yes o) (yes f) = (w ++ drop (length w) d, Ok (length w), ((h, (o, (f, tt))), refl, refl))
