-- After j turns the first j bounds of the row are lowered.
use Rattle.std.proofs.Common.{ℤ, pos, ◌+ℤ◌, to_z, of_z, w64, lit<, ap, ap₂, ◌∙◌, arith, rules}
use Rattle.std.specs.Int.{int_min}
use mir.Val.{SFits}
use mir.Facts.{to_z-of_z}
use borrow.Author.Rules.{sfits_of}
use Rattle.lists.proofs.Walk.{upto_set}
use Rattle.integers.proofs.Machine.{back}
use Rattle.constraint.specs.Square.{at}
use Rattle.constraint.proofs.lower_row.Goals as goal

pub loop-j-preserved : goal.loop-j-preserved
loop-j-preserved c =
    let old_fits : SFits w64 (at c.loop-j.row c.loop-j.j) = search rules in
    let start : ℤ = to_z w64 (of_z w64 c.args.start) in
    let on : ℤ = at c.args.via.now c.loop-j.j in
    let sum_fits : SFits w64 (start +ℤ to_z w64 (of_z w64 on)) = search rules in
    upto_set (pos 0) _ c.loop-j.invariant (omega arith)
    (to_z-of_z {w = w64} (sfits_of c.min.type_inv) ∙ c.min.ensures.value
    ∙ ap₂ int_min (to_z-of_z old_fits ∙ c.loop-j.invariant.rest c.loop-j.j (omega arith)) (to_z-of_z sum_fits ∙ ap (λ (x : ℤ). start +ℤ x) (back w64 (c.requires.0 c.loop-j.j (search rules)) (lit< tt))))
