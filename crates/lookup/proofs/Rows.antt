-- The rows of a table: keys that rise, numbers within the range, and the clause of each row with its atoms.
use mathlib.Core.Path.{refl, sym, subst}
use mathlib.Core.List.Memᴰ
use mathlib.Core.List.{List, [], ◌∷◌, Memᴰ}
use mathlib.Core.Option.{Option, none, some}
use Prim.Native.Nat.{ℕ, suc, ◌<◌}
use native.Mathlib.Omega.{arith}
use lib.IntN.{ℤ, pos, neg_ℤ, ◌-ℤ◌}
use lib.Signed.{◌<ℤ◌}
use lib.ListN.{length, get_or}
use Rattle.basis.specs.declared.Atom.{Atom}
use Rattle.basis.specs.Atoms.{InRange}
use Rattle.lists.proofs.Members.{first_or_later}
use Rattle.integers.proofs.Linear.{le→, lt→, →le, →lt, negated, sum}
use Rattle.calculus.specs.Clauses.{Clause}
use Rattle.calculus.specs.Class.{Limited}
use Rattle.lookup.specs.declared.Match.{Match}
use Rattle.lookup.specs.declared.Match.TheVariants.{Exact, Approximate}
use Rattle.lookup.specs.Tables.{Row, rows_of}
use Rattle.lookup.specs.TableClauses.{at_least, at_most, end_of, row_clause, table_clauses}
use Rattle.lookup.specs.Claims.{TableAccepted}

-- ---- keys that rise

-- The keys of all rows are above k.
abbrev pub Above : ℤ → List Row → Type 0
Above k rows = (r : Row) → Memᴰ r rows → k <ℤ r.key

-- Each key is below those of all later rows.
abbrev pub Rises : List Row → Type 0
Rises [] = Unit {0}
Rises (r ∷ later) = Above r.key later × Rises later

pub above_all : {k : ℤ} {r : Row} {later : List Row} → k <ℤ r.key → Above r.key later → Above k (r ∷ later)
above_all {k} {r} {later} h above o m = first_or_later m (λ e. subst (λ (z : Row). k <ℤ z.key) (sym e) h) (λ n. →lt k o.key (omega (arith, lt→ h, lt→ (above o n))))

rows_rise : (keys results : List ℤ) → ((j : ℕ) → suc j < length keys → get_or keys j (pos 0) <ℤ get_or keys (suc j) (pos 0)) → Rises (rows_of keys results)
rows_rise [] ws h = tt
rows_rise (k ∷ keys) [] h = tt
rows_rise (k ∷ keys) (w ∷ ws) h = let later = rows_rise keys ws (λ j l. h (suc j) (omega arith)) in (first keys ws (h 0) later, later)
  where
    first : (ks vs : List ℤ) → (1 < length (k ∷ ks) → k <ℤ get_or ks 0 (pos 0)) → Rises (rows_of ks vs) → Above k (rows_of ks vs)
    first [] vs g R = λ o m. absurd (Memᴰ.not-nil m)
    first (j ∷ ks) [] g R = λ o m. absurd (Memᴰ.not-nil m)
    first (j ∷ ks) (v ∷ vs) g R = above_all (g (omega arith)) R.0

pub accepted_rise : {keys results : List ℤ} → TableAccepted keys results → Rises (rows_of keys results)
accepted_rise {keys} {results} A = rows_rise keys results (λ j l. (A.in_order (suc j) l).rises j refl)

-- ---- the atoms of a row

-- P holds of the atom for the upper end, where there is one.
abbrev pub AtEnd : (Atom → Type 0) → Option ℤ → Type 0
AtEnd P none = Unit {0}
AtEnd P (some n) = P (at_most 1 n)

pub each_atom : (P : Atom → Type 0) (r : Row) (n : Option ℤ) → P (at_least 1 r.key) → AtEnd P n → P (at_least 2 r.result) → P (at_most 2 r.result)
    → (a : Atom) → Memᴰ a (row_clause r n).atoms → P a
each_atom P r n h₁ h₂ h₃ h₄ a m = first n h₂ m
  where
    one : (b : Atom) (l : List Atom) → P b → (Memᴰ a l → P a) → Memᴰ a (b ∷ l) → P a
    one b l h f k = first_or_later k (λ e. subst P (sym e) h) f

    result : Memᴰ a (at_least 2 r.result ∷ at_most 2 r.result ∷ []) → P a
    result = one (at_least 2 r.result) (at_most 2 r.result ∷ []) h₃ (one (at_most 2 r.result) [] h₄ (λ q. absurd (Memᴰ.not-nil q)))

    first : (n : Option ℤ) → AtEnd P n → Memᴰ a (row_clause r n).atoms → P a
    first none h = one (at_least 1 r.key) (at_least 2 r.result ∷ at_most 2 r.result ∷ []) h₁ result
    first (some n) h = one (at_least 1 r.key) (at_most 1 n ∷ at_least 2 r.result ∷ at_most 2 r.result ∷ []) h₁ (one (at_most 1 n) (at_least 2 r.result ∷ at_most 2 r.result ∷ []) h result)

pub row_limited : (r : Row) (n : Option ℤ) → Limited (row_clause r n)
row_limited r none = record { few_variables = omega arith; few_atoms = omega arith; few_literals = omega arith }
row_limited r (some n) = record { few_variables = omega arith; few_atoms = omega arith; few_literals = omega arith }

-- ---- numbers within the range

pub negated_range : {n : ℤ} → InRange n → InRange (neg_ℤ n)
negated_range {n} h = record { low = →le _ _ (omega (arith, le→ h.high, negated n)); high = →le _ _ (omega (arith, le→ h.low, negated n)) }

-- One below a key that is above another
end_range : {k n : ℤ} → k <ℤ n → InRange k → InRange n → InRange (n -ℤ pos 1)
end_range {k} {n} l h g = record {
  low = →le _ _ (omega (arith, lt→ l, le→ h.low, sum n (neg_ℤ (pos 1)), negated (pos 1)));
  high = →le _ _ (omega (arith, le→ g.high, sum n (neg_ℤ (pos 1)), negated (pos 1)));
}

-- Key and result are within the range.
pub record Ranged (r : Row) : Type 0 where
  pub key_range : InRange r.key
  pub result_range : InRange r.result

-- The upper end is within the range, where there is one.
abbrev pub EndRanged : Option ℤ → Type 0
EndRanged none = Unit {0}
EndRanged (some n) = InRange n

rows_ranged : (keys results : List ℤ) → ((j : ℕ) → j < length keys → InRange (get_or keys j (pos 0)) × InRange (get_or results j (pos 0))) → (r : Row) → Memᴰ r (rows_of keys results) → Ranged r
rows_ranged [] ws h r m = absurd (Memᴰ.not-nil m)
rows_ranged (k ∷ keys) [] h r m = absurd (Memᴰ.not-nil m)
rows_ranged (k ∷ keys) (w ∷ ws) h r m =
    first_or_later m
    (λ e. let g = h 0 (omega arith) in subst Ranged (sym e) (record { key_range = g.0; result_range = g.1 }))
    (λ n. rows_ranged keys ws (λ j l. h (suc j) (omega arith)) r n)

pub accepted_ranged : {keys results : List ℤ} → TableAccepted keys results → (r : Row) → Memᴰ r (rows_of keys results) → Ranged r
accepted_ranged {keys} {results} A = rows_ranged keys results (λ j l. ((A.in_order j l).key_range, (A.in_order j l).result_range))

ends_ranged : (m : Match) (r : Row) (later : List Row) → Rises (r ∷ later) → ((o : Row) → Memᴰ o (r ∷ later) → Ranged o) → EndRanged (end_of m r later)
ends_ranged Exact r later R h = (h r (Memᴰ.head refl)).key_range
ends_ranged Approximate r [] R h = tt
ends_ranged Approximate r (next ∷ later) R h =
    end_range (R.0 next (Memᴰ.head refl)) (h r (Memᴰ.head refl)).key_range (h next (Memᴰ.tail (Memᴰ.head refl))).key_range

-- What holds of the clause of each row holds of every clause.
pub each_clause : (P : Clause → Type 0) (m : Match) (rows : List Row) → Rises rows → ((r : Row) → Memᴰ r rows → Ranged r)
    → ((r : Row) (n : Option ℤ) → Ranged r → EndRanged n → P (row_clause r n)) → (C : Clause) → Memᴰ C (table_clauses m rows) → P C
each_clause P m [] R h f C k = absurd (Memᴰ.not-nil k)
each_clause P m (r ∷ later) R h f C k =
    first_or_later k
    (λ e. subst P (sym e) (f r (end_of m r later) (h r (Memᴰ.head refl)) (ends_ranged m r later R h)))
    (λ n. each_clause P m later R.1 (λ o q. h o (Memᴰ.tail q)) f C n)
