-- Of the entries passed: how many decisions, the two levels, and how many of them are kept.
use mathlib.Core.Path.{◌≡◌}
use Prim.Native.Nat.{◌≤◌}
use lib.ListN.{length}
use Rattle.basis.specs.Limits.{most_entries}
use Rattle.calculus.specs.Trails.{cut, decisions, largest_level, level_of}
use Rattle.trail.specs.Entries.{trail_of}
use Rattle.trail.proofs.levels.Given as goal

abbrev pub invariant-loop-k : goal.invariant-loop-k
invariant-loop-k l = record {
  few : length l.trail ≤ most_entries;
  counted : l.decisions ≡ decisions (trail_of l.trail l.k);
  own : l.own ≡ level_of l.g (trail_of l.trail l.k);
  others : l.others ≡ largest_level (trail_of l.trail l.k) l.literals;
  kept : l.kept ≡ length (cut (largest_level (trail_of l.trail l.k) l.literals) (trail_of l.trail l.k));
}
