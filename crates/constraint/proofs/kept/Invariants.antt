-- After k turns the square stands for the order and the first k atoms; within a turn, after i rows the first i have the turn's atom put in.
use Rattle.std.proofs.Common.{◌≡◌, ℕ, ◌<◌, [], length}
use Rattle.lists.specs.Walk.{Upto}
use Rattle.bounds.specs.Whole.{whole_bounds}
use Rattle.bounds.specs.Squares.{put}
use Rattle.constraint.specs.Square.{places, at, entry, Stands, Posed}
use Rattle.constraint.proofs.kept.Given as goal

abbrev pub invariant-loop-a : goal.invariant-loop-a
invariant-loop-a l = Stands (Posed l.constants l.atoms l.a-index) l.t × (length l.t ≡ places)

abbrev pub invariant-loop-row : goal.invariant-loop-row
invariant-loop-row l = (l.p < places) × (l.q < places) × Upto [] (λ n row. (j : ℕ) → j < places → at row j ≡ put whole_bounds (entry l.initial.row-items) l.p l.q l.c n j) l.initial.row-items l.row-items l.row-index
