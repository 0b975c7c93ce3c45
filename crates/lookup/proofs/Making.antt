-- The answer to a table, and what is left of the buffer, are unique; and which numbers an answer has.
use mathlib.Core.Path.{sym, ap, ◌∙◌}
use mathlib.Core.Logic.{inl, inr}
use mathlib.Core.List.{List, ◌++◌}
use Prim.Native.Nat.{ℕ, ◌≤◌}
use native.Mathlib.Omega.{arith}
use lib.IntN.{ℤ}
use lib.ListN.{length, drop}
use Rattle.calculus.proofs.Answers.{lacking_once, none_lacking}
use Rattle.lookup.specs.declared.Match.{Match}
use Rattle.std.specs.Prelude.{Ok, Err}
use Rattle.basis.specs.Refusals.{number_of}
use Rattle.basis.specs.declared.Refused.{Refused}
use Rattle.lookup.proofs.Refusals.{not_accepted, same_refusal}
use Rattle.lookup.specs.Making.{Makes, MakesOnce, RefusedByThree, bytes_for, table_conditions}
use Rattle.lookup.specs.Claims.{TableShort, most_table_bytes}
use Rattle.lookup.proofs.Lengths.{offered_long, table_long_most}

pub makes_once : MakesOnce
makes_once keys results m d d₁ d₂ (Ok n) (Ok k) (H, e, f) (G, g, h) =
    let same = e ∙ sym g in (ap Ok same, f ∙ (λ i. bytes_for keys results m ++ drop (same i) d) ∙ sym h)
makes_once keys results m d d₁ d₂ (Ok n) (Err r) (H, e, f) (L, g, h) =
    absurd (not_accepted r.refusal (none_lacking (number_of r.refusal) (table_conditions keys results m (length d)) H L))
makes_once keys results m d d₁ d₂ (Err r) (Ok k) (L, g, h) (H, e, f) =
    absurd (not_accepted r.refusal (none_lacking (number_of r.refusal) (table_conditions keys results m (length d)) H L))
makes_once keys results m d d₁ d₂ (Err r) (Err q) (L, e, f) (M, g, h) =
    let refusal = same_refusal (lacking_once (number_of r.refusal) (number_of q.refusal) (table_conditions keys results m (length d)) L M) in
    let place = e ∙ sym g in
    ((λ i. Err (record { refusal = refusal i; place = place i })), f ∙ sym h)

pub table_short : TableShort
table_short keys results A m = omega (arith, offered_long m keys results A.in_order, table_long_most m (length keys), A.few_rows)

pub refused_by_three : RefusedByThree
refused_by_three keys results m d d' r (inl (h, e), f, g) = (omega arith, omega arith)
refused_by_three keys results m d d' r (inr (h, inl (k, e)), f, g) = (omega arith, omega arith)
refused_by_three keys results m d d' r (inr (h, inr (k, inl (l, e))), f, g) = (omega arith, omega arith)
refused_by_three keys results m d d' r (inr (h, inr (k, inr (l, e))), f, g) = absurd (not_accepted r.refusal e)

-- The bytes that are written
pub made_short : (keys results : List ℤ) (m : Match) (d d' : List ℕ) (n : ℕ) → Makes keys results m d d' (Ok n) → n ≤ most_table_bytes
made_short keys results m d d' n ((few, (I, room)), e, f) = omega (arith, e, table_short keys results (record { few_rows = few; in_order = I }) m)
