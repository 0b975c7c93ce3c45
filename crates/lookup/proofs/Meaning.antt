-- The clauses of a table whose keys rise say what the table returns: x lies in the band of the row that is found, and the reading that makes Gets
-- true of these results alone is the least.
use mathlib.Core.Path.{◌≡◌, refl, sym, ap, ◌∙◌, subst}
use mathlib.Core.Logic.Dec
use mathlib.Core.Logic.{◌⊎◌, inl, inr}
use mathlib.Core.List.Memᴰ
use mathlib.Core.List.{List, [], ◌∷◌, Memᴰ}
use mathlib.Core.Option.{Option, none, some}
use Prim.Native.Nat.{ℕ, zero, suc}
use native.Mathlib.Omega.{arith}
use lib.IntN.{◌-ℤ◌, neg_ℤ, pos, ℤ, ℤ_discrete}
use lib.Signed.{◌≤ℤ◌, ◌<ℤ◌, lt_z, lt_z_yes, lt_z_no, clash_ℤ, ≤ℤ_refl, <ℤ_irrefl}
use Rattle.basis.specs.declared.Literal.{Literal}
use Rattle.basis.specs.Numbers.{whole}
use Rattle.basis.specs.Atoms.{Holds}
use Rattle.lists.proofs.Tests.{Said, holds, fails, said}
use Rattle.integers.proofs.Linear.{le→, lt→, →le, →lt, sum, negated}
use Rattle.lists.proofs.Decided.{either_decided}
use Rattle.lists.proofs.Members.{first_or_later}
use Rattle.integers.proofs.Order.{at_most_decided, <→≤, ≤ℤ_antisym}
use Rattle.calculus.specs.Clauses.{Clause}
use Rattle.calculus.specs.Class.{arity_of}
use Rattle.calculus.specs.Truth.{AllHold, LiteralHolds, Reading}
use Rattle.lookup.specs.declared.Match.{Match}
use Rattle.lookup.specs.declared.Match.TheVariants.{Exact, Approximate}
use Rattle.lookup.specs.Tables.{Returns, Row, rows_of}
use Rattle.lookup.specs.TableClauses.{at_least, at_most, end_of, gets, row_clause, table_clauses}
use Rattle.lookup.specs.Claims.{Gets, GetsExactly, GetsExactlyDecided, GetsFollows, ReturnsOnce, Satisfies}
use Rattle.lookup.proofs.Rows.{Above, AtEnd, Rises, above_all, accepted_rise, each_atom}

-- ---- the band of a row

-- x lies in the band of the row that ends at n.
abbrev InBand : Row → Option ℤ → ℤ → Type 0
InBand r none x = r.key ≤ℤ x
InBand r (some n) x = (r.key ≤ℤ x) × (x ≤ℤ n)

-- x lies in the band of a row with the result y.
abbrev Covers : Match → List Row → ℤ → ℤ → Type 0
Covers m [] x y = ⊥
Covers m (r ∷ later) x y = (InBand r (end_of m r later) x × (r.result ≡ y)) ⊎ Covers m later x y

from_key : (r : Row) (n : Option ℤ) (x : ℤ) → InBand r n x → r.key ≤ℤ x
from_key r none x h = h
from_key r (some n) x h = h.0

one_below : {x k : ℤ} → x <ℤ k → x ≤ℤ (k -ℤ pos 1)
one_below {x} {k} h = →le x (k -ℤ pos 1) (omega (arith, lt→ h, sum k (neg_ℤ (pos 1)), negated (pos 1)))

below_next : {x k : ℤ} → x ≤ℤ (k -ℤ pos 1) → x <ℤ k
below_next {x} {k} h = →lt x k (omega (arith, le→ h, sum k (neg_ℤ (pos 1)), negated (pos 1)))

-- Beyond an approximate row's band are the keys of all later rows ..
past : (r : Row) (later : List Row) (x : ℤ) → Rises (r ∷ later) → InBand r (end_of Approximate r later) x → Above x later
past r [] x R h = λ o n. absurd (Memᴰ.not-nil n)
past r (next ∷ later) x R h = above_all (below_next h.1) R.1.0

-- .. and where they are beyond x, it is in the band.
within_band : (r : Row) (later : List Row) (x : ℤ) → r.key ≤ℤ x → Above x later → InBand r (end_of Approximate r later) x
within_band r [] x h above = h
within_band r (next ∷ later) x h above = (h, one_below (above next (Memᴰ.head refl)))

module _ (x y : ℤ) where
  covers_returns : (m : Match) (rows : List Row) → Rises rows → Covers m rows x y → Returns m rows x y
  covers_returns m [] R h = absurd h
  covers_returns Exact (r ∷ later) R (inl h) = (r, (Memᴰ.head refl, ≤ℤ_antisym h.0.0 h.0.1), h.1)
  covers_returns Exact (r ∷ later) R (inr h) = let (o, f, e) = covers_returns Exact later R.1 h in (o, (Memᴰ.tail f.0, f.1), e)
  covers_returns Approximate (r ∷ later) R (inl h) = (r, (Memᴰ.head refl, from_key r (end_of Approximate r later) x h.0, largest), h.1)
    where
      largest : (o : Row) → Memᴰ o (r ∷ later) → o.key ≤ℤ x → o.key ≤ℤ r.key
      largest o n l = first_or_later n (λ e. subst (λ (z : Row). o.key ≤ℤ z.key) e (≤ℤ_refl o.key)) (λ k. clash_ℤ (past r later x R h.0 o k) l)
  covers_returns Approximate (r ∷ later) R (inr h) = more (covers_returns Approximate later R.1 h)
    where
      more : Returns Approximate later x y → Returns Approximate (r ∷ later) x y
      more (o, f, e) = (o, (Memᴰ.tail f.0, f.1, largest), e)
        where
          largest : (p : Row) → Memᴰ p (r ∷ later) → p.key ≤ℤ x → p.key ≤ℤ o.key
          largest p n l = first_or_later n (λ q. subst (λ (z : Row). z.key ≤ℤ o.key) (sym q) (<→≤ (R.0 o f.0))) (λ k. f.2 p k l)

  returns_covers : (m : Match) (rows : List Row) → Rises rows → Returns m rows x y → Covers m rows x y
  returns_covers Exact [] R (o, f, e) = Memᴰ.not-nil f.0
  returns_covers Approximate [] R (o, f, e) = Memᴰ.not-nil f.0
  returns_covers Exact (r ∷ later) R (o, f, e) =
      first_or_later f.0
      (λ q. inl (at_key (subst (λ (z : Row). z.key ≡ x) q f.1), subst (λ (z : Row). z.result ≡ y) q e))
      (λ n. inr (returns_covers Exact later R.1 (o, (n, f.1), e)))
    where
      at_key : r.key ≡ x → (r.key ≤ℤ x) × (x ≤ℤ r.key)
      at_key q = subst (λ (z : ℤ). (r.key ≤ℤ z) × (z ≤ℤ r.key)) q (≤ℤ_refl r.key, ≤ℤ_refl r.key)
  returns_covers Approximate (r ∷ later) R (o, f, e) =
      first_or_later f.0
      (λ q. inl (within_band r later x (subst (λ (z : Row). z.key ≤ℤ x) q f.1) (beyond q), subst (λ (z : Row). z.result ≡ y) q e))
      (λ n. inr (returns_covers Approximate later R.1 (o, (n, f.1, λ p k l. f.2 p (Memᴰ.tail k) l), e)))
    where
      -- The key of no later row is at most x: it would be larger than the largest.
      beyond : o ≡ r → Above x later
      beyond q p n = by (said (lt_z x p.key))
        where
          by : Said (lt_z x p.key) → x <ℤ p.key
          by (holds t) = lt_z_yes t
          by (fails t) = clash_ℤ (R.0 p n) (subst (λ (z : Row). p.key ≤ℤ z.key) q (f.2 p (Memᴰ.tail n) (lt_z_no t)))

-- ---- what a table returns is decided

band_decided : (r : Row) (n : Option ℤ) (x : ℤ) → Dec (InBand r n x)
band_decided r none x = at_most_decided r.key x
band_decided r (some n) x = Dec.and (at_most_decided r.key x) (at_most_decided x n)

covers_decided : (m : Match) (rows : List Row) (x y : ℤ) → Dec (Covers m rows x y)
covers_decided m [] x y = no (λ h. h)
covers_decided m (r ∷ later) x y = either_decided (Dec.and (band_decided r (end_of m r later) x) (ℤ_discrete r.result y)) (covers_decided m later x y)

-- ---- the atoms of a row

-- x for variable 1 and y for variable 2
abbrev values : ℤ → ℤ → ℕ → ℤ
values x y zero = pos 0
values x y (suc zero) = x
values x y (suc (suc k)) = y

at_least_lem : {z a : ℤ} (n : ℤ) → z ≡ pos 0 → (z -ℤ a) ≤ℤ neg_ℤ n → n ≤ℤ a
at_least_lem {z} {a} n e h = →le n a (omega (arith, le→ (subst (λ (k : ℤ). (k -ℤ a) ≤ℤ neg_ℤ n) e h), sum (pos 0) (neg_ℤ a), negated a, negated n))

at_most_lem : {z a : ℤ} (n : ℤ) → z ≡ pos 0 → (a -ℤ z) ≤ℤ n → a ≤ℤ n
at_most_lem {z} {a} n e h = →le a n (omega (arith, le→ (subst (λ (k : ℤ). (a -ℤ k) ≤ℤ n) e h), sum a (neg_ℤ (pos 0)), negated (pos 0)))

least_holds : {a : ℤ} (n : ℤ) → n ≤ℤ a → (pos 0 -ℤ a) ≤ℤ neg_ℤ n
least_holds {a} n h = →le (pos 0 -ℤ a) (neg_ℤ n) (omega (arith, le→ h, sum (pos 0) (neg_ℤ a), negated a, negated n))

most_holds : {a : ℤ} (n : ℤ) → a ≤ℤ n → (a -ℤ pos 0) ≤ℤ n
most_holds {a} n h = →le (a -ℤ pos 0) n (omega (arith, le→ h, sum a (neg_ℤ (pos 0)), negated (pos 0)))

module _ (arities : List ℕ) where
  -- The atoms of a row hold of x in its band and its result.
  row_holds : (r : Row) (n : Option ℤ) (x y : ℤ) → InBand r n x → r.result ≡ y → AllHold whole arities (values x y) (row_clause r n).atoms
  row_holds r n x y h e =
      each_atom (Holds whole (values x y)) r n (least_holds r.key (from_key r n x h)) (to_end n h)
      (least_holds r.result (subst (λ (k : ℤ). r.result ≤ℤ k) e (≤ℤ_refl r.result)))
      (most_holds r.result (subst (λ (k : ℤ). k ≤ℤ r.result) e (≤ℤ_refl r.result)))
    where
      to_end : (n : Option ℤ) → InBand r n x → AtEnd (Holds whole (values x y)) n
      to_end none h = tt
      to_end (some n) h = most_holds n h.1

  -- Where they hold, x is in its band and y is its result.
  result_of : (ρ : ℕ → ℤ) (n : ℤ) → ρ zero ≡ pos 0 → AllHold whole arities ρ (at_least 2 n ∷ at_most 2 n ∷ []) → n ≡ ρ 2
  result_of ρ n z h = ≤ℤ_antisym (at_least_lem n z (h (at_least 2 n) (Memᴰ.head refl))) (at_most_lem n z (h (at_most 2 n) (Memᴰ.tail (Memᴰ.head refl))))

  row_of : (r : Row) (n : Option ℤ) (ρ : ℕ → ℤ) → ρ zero ≡ pos 0 → AllHold whole arities ρ (row_clause r n).atoms → InBand r n (ρ 1) × (r.result ≡ ρ 2)
  row_of r none ρ z h = (at_least_lem r.key z (h (at_least 1 r.key) (Memᴰ.head refl)), result_of ρ r.result z (λ a m. h a (Memᴰ.tail m)))
  row_of r (some n) ρ z h = (
    (at_least_lem r.key z (h (at_least 1 r.key) (Memᴰ.head refl)), at_most_lem n z (h (at_most 1 n) (Memᴰ.tail (Memᴰ.head refl)))),
    result_of ρ r.result z (λ a m. h a (Memᴰ.tail (Memᴰ.tail m))),
  )

-- ---- what follows from the clauses

module _ (arities : List ℕ) (two : arity_of arities 1 ≡ 2) where
  -- Gets(x, y) as the clauses have it
  as_gets : (I : Reading whole arities) (ρ : ℕ → ℤ) → LiteralHolds whole arities I ρ gets → Gets arities I (ρ 1) (ρ 2)
  as_gets I ρ h = rw two at h

  as_literal : (I : Reading whole arities) (ρ : ℕ → ℤ) → Gets arities I (ρ 1) (ρ 2) → LiteralHolds whole arities I ρ gets
  as_literal I ρ h = rw two h

  -- What a row covers follows from its clause ..
  pub row_follows : (r : Row) (n : Option ℤ) (x y : ℤ) → InBand r n x → r.result ≡ y → (cs : List Clause) → Memᴰ (row_clause r n) cs → GetsFollows arities cs x y
  row_follows r n x y h e cs m I s none-holds =
      s (row_clause r n) m (values x y) refl (row_holds arities r n x y h e) (λ l k t. none-holds (as_gets I (values x y) (its-literal l k t)))
    where
      its-literal : (l : Literal) → Memᴰ l (gets ∷ []) → LiteralHolds whole arities I (values x y) l → LiteralHolds whole arities I (values x y) gets
      its-literal l k t = first_or_later k (λ q. subst (LiteralHolds whole arities I (values x y)) q t) (λ q. absurd (Memᴰ.not-nil q))

  -- .. and so does what the table covers.
  covers_follows : (m : Match) (rows : List Row) (x y : ℤ) → Covers m rows x y → GetsFollows arities (table_clauses m rows) x y
  covers_follows m [] x y h I s n = h
  covers_follows m (r ∷ later) x y (inl h) I s n = row_follows r (end_of m r later) x y h.0 h.1 (table_clauses m (r ∷ later)) (Memᴰ.head refl) I s n
  covers_follows m (r ∷ later) x y (inr h) I s n = covers_follows m later x y h I (λ C k. s C (Memᴰ.tail k)) n

  -- The least reading: what is covered, and nothing else
  abbrev least : Match → List Row → Reading whole arities
  least m rows n [] = ⊥
  least m rows n (x ∷ []) = ⊥
  least m rows n (x ∷ y ∷ []) = Covers m rows x y
  least m rows n (x ∷ y ∷ z ∷ ws) = ⊥

  least_decided : (m : Match) (rows : List Row) (n : ℕ) (ws : List ℤ) → Dec (least m rows n ws)
  least_decided m rows n [] = no (λ h. h)
  least_decided m rows n (x ∷ []) = no (λ h. h)
  least_decided m rows n (x ∷ y ∷ []) = covers_decided m rows x y
  least_decided m rows n (x ∷ y ∷ z ∷ ws) = no (λ h. h)

  -- It satisfies the clauses: where a clause's atoms hold, x and y are covered, and Gets(x, y) is its literal.
  covered : (m : Match) (rows : List Row) (C : Clause) → Memᴰ C (table_clauses m rows) → (ρ : ℕ → ℤ) → ρ zero ≡ pos 0 → AllHold whole arities ρ C.atoms
      → Covers m rows (ρ 1) (ρ 2) × Memᴰ gets C.literals
  covered m [] C k ρ z h = absurd (Memᴰ.not-nil k)
  covered m (r ∷ later) C k ρ z h =
      first_or_later k
      (λ e. (inl (row_of arities r (end_of m r later) ρ z (subst (λ (D : Clause). AllHold whole arities ρ D.atoms) e h)), subst (λ (D : Clause). Memᴰ gets D.literals) (sym e) (Memᴰ.head refl)))
      (λ n. let (c, g) = covered m later C n ρ z h in (inr c, g))

  least_satisfies : (m : Match) (rows : List Row) → Satisfies arities (least m rows) (table_clauses m rows)
  least_satisfies m rows C k ρ z h none-holds = let (c, g) = covered m rows C k ρ z h in none-holds gets g (as_literal (least m rows) ρ c)

pub gets_exactly : GetsExactly
gets_exactly keys results A m arities two x y =
    let rows = rows_of keys results in
    let R = accepted_rise A in (
      λ f. covers_returns x y m rows R ((Dec.not-not (covers_decided m rows x y)).0 (f (least arities two m rows) (least_satisfies arities two m rows))),
      λ h. covers_follows arities two m rows x y (returns_covers x y m rows R h),
    )

pub gets_exactly_decided : GetsExactlyDecided
gets_exactly_decided keys results A m arities two x y =
    let rows = rows_of keys results in
    let R = accepted_rise A in (
      λ f. covers_returns x y m rows R (f (least arities two m rows) (least_decided arities two m rows) (least_satisfies arities two m rows)),
      λ h I d s. (Dec.not-not (d 1 (x ∷ y ∷ []))).0 (covers_follows arities two m rows x y (returns_covers x y m rows R h) I s),
    )

-- ---- one result

-- Rows with the same key are one.
same_row : (rows : List Row) (r o : Row) → Rises rows → Memᴰ r rows → Memᴰ o rows → r.key ≡ o.key → r ≡ o
same_row [] r o R p q e = absurd (Memᴰ.not-nil p)
same_row (k ∷ later) r o R p q e =
    first_or_later p
    (λ f. first_or_later q (λ g. f ∙ sym g) (λ n. absurd (apart r o f n e)))
    (λ n. first_or_later q (λ g. absurd (apart o r g n (sym e))) (λ l. same_row later r o R.1 n l e))
  where
    apart : (a b : Row) → a ≡ k → Memᴰ b later → a.key ≡ b.key → ⊥
    apart a b f n g = <ℤ_irrefl (subst (λ (z : ℤ). z <ℤ b.key) (sym (ap (λ (w : Row). w.key) f) ∙ g) (R.0 b n))

pub returns_once : ReturnsOnce
returns_once keys results A Exact x y z (r, f, e) (o, g, h) = sym e ∙ ap (λ (w : Row). w.result) (same_row (rows_of keys results) r o (accepted_rise A) f.0 g.0 (f.1 ∙ sym g.1)) ∙ h
returns_once keys results A Approximate x y z (r, f, e) (o, g, h) =
    sym e ∙ ap (λ (w : Row). w.result) (same_row (rows_of keys results) r o (accepted_rise A) f.0 g.0 (≤ℤ_antisym (g.2 r f.0 f.1) (f.2 o g.0 g.1))) ∙ h
