-- By the kind of match, and whether there is a next row. What is handed on is the row's.
use mathlib.Core.Path.{◌≡◌, refl, sym, ap, ◌∙◌}
use mathlib.Core.List.{List}
use mathlib.Core.Option.{Option, none, some}
use Prim.Native.Nat.{ℕ, ◌+◌}
use lib.IntN.{ℤ, pos}
use lib.ListN.{get_or}
use mir.Syntax.{w32}
use mir.Val.{SFits, to_z, of_z}
use mir.Facts.{to_z-of_z}
use borrow.Author.Rules.{rules}
use Rattle.basis.specs.Atoms.{InRange}
use Rattle.clauses.specs.Records.{packed}
use Rattle.lookup.specs.TableClauses.{row_clause}
use Rattle.lookup.proofs.Numbers.{one_less_read}
use Rattle.lookup.proofs.Walks.{exact_at, last_at, next_at, row_at}
use Rattle.lookup.proofs.row_clause.Goals.{Else-keys-j}
use Rattle.lookup.proofs.row_clause.Goals as goal

module _ (keys results : List ℤ) (j : ℕ) (key : SFits w32 (get_or keys j (pos 0))) (result : SFits w32 (get_or results j (pos 0))) where
  as_row : {n m : Option ℤ} → n ≡ m
      → packed (row_clause (record { key = to_z w32 (of_z w32 (get_or keys j (pos 0))); result = to_z w32 (of_z w32 (get_or results j (pos 0))) }) n)
      ≡ packed (row_clause (row_at keys results j) m)
  as_row e = λ i. packed (row_clause (record { key = to_z-of_z key i; result = to_z-of_z result i }) (e i))

-- The key of the next row
next_range : (w : Else-keys-j) → InRange (get_or w.args.keys.now (w.args.j + 1) (pos 0))
next_range w = (w.requires.0 (w.args.j + 1) (search rules)).key_range

pub returns-then-keys-j : goal.returns-then-keys-j
returns-then-keys-j c =
    rw c.in-Approximate.is (c.endless.ensures ∙ as_row c.args.keys.now c.args.results.now c.args.j (search rules) (search rules) {n = none} refl ∙ ap packed (sym (last_at c.requires.0 c.requires.1 (search rules))))

pub returns-in-Exact : goal.returns-in-Exact
returns-in-Exact c =
    let key : SFits w32 (get_or c.args.keys.now c.args.j (pos 0)) = search rules in
    rw c.in-Exact.is (c.banded.ensures ∙ as_row c.args.keys.now c.args.results.now c.args.j key (search rules) (ap some (to_z-of_z key)) ∙ ap packed (sym (exact_at c.requires.0 c.requires.1)))

pub returns-else-keys-j : goal.returns-else-keys-j
returns-else-keys-j c =
    let next : SFits w32 (get_or c.args.keys.now (c.args.j + 1) (pos 0)) = search rules in
    let end = one_less_read (next_range (goal.at.returns-else-keys-j c).Else-keys-j) (to_z-of_z next) in
    rw c.in-Approximate.is
    (c.banded-in-Approximate.ensures ∙ as_row c.args.keys.now c.args.results.now c.args.j (search rules) (search rules) (ap some end) ∙ ap packed (sym (next_at c.requires.0 c.requires.1 (search rules))))
