-- After k turns the first k slots have their constants' numbers.
use Rattle.std.proofs.Common.{◌≡◌, ◌∙◌, ℕ, ◌+◌, List, set, ℤ, ◌-ℤ◌, w32, w64, sym, subst, ap, ap₂, arith, rules}
use mir.Facts.{to_z-of_z}
use borrow.Author.Rules.{sfits_of}
use Rattle.integers.specs.Sides.{Within}
use Rattle.bounds.specs.Whole.{whole_bounds}
use Rattle.bounds.specs.Squares.{lowest, values}
use Rattle.constraint.specs.Square.{far, at, entry}
use Rattle.constraint.proofs.Numbers.{values_within, row_after, numbers_turn}
use Rattle.constraint.proofs.numbers_of.Goals as goal

pub less_zero-requires : goal.less_zero-requires
less_zero-requires c =
    let small = values_within _ _ c.requires.0 c.requires.1 in
    let own : c.lowest_of.result ≡ values whole_bounds c.args.constants (entry c.args.t.now) (c.loop-k.k + 1)
    = c.lowest_of.ensures ∙ ap (λ (row : List ℤ). lowest whole_bounds (at row) c.args.constants) (row_after c.args.constants c.loop-k.k c.args.t.now (search rules)) in (
      subst (Within far) (sym (to_z-of_z {w = w64} (sfits_of c.lowest_of.type_inv) ∙ own)) (small (c.loop-k.k + 1) (search rules)),
      subst (Within far) (sym (to_z-of_z {w = w64} (sfits_of c.lowest_of-zeroth.type_inv) ∙ c.lowest_of-zeroth.ensures)) (small 0 (omega arith)),
    )

pub loop-k-preserved : goal.loop-k-preserved
loop-k-preserved c =
    let v : ℕ → ℤ = values whole_bounds c.args.constants (entry c.args.t.now) in
    let own : c.lowest_of.result ≡ v (c.loop-k.k + 1)
    = c.lowest_of.ensures ∙ ap (λ (row : List ℤ). lowest whole_bounds (at row) c.args.constants) (row_after c.args.constants c.loop-k.k c.args.t.now (search rules)) in
    ap₂ (λ (l : List ℤ) (x : ℤ). set l c.loop-k.k x) c.loop-k.invariant
    (to_z-of_z {w = w32} (sfits_of c.less_zero.type_inv) ∙ c.less_zero.ensures
    ∙ ap₂ ◌-ℤ◌ (to_z-of_z {w = w64} (sfits_of c.lowest_of.type_inv) ∙ own) (to_z-of_z {w = w64} (sfits_of c.lowest_of-zeroth.type_inv) ∙ c.lowest_of-zeroth.ensures))
    ∙ numbers_turn c.loop-k.k v (search rules)
