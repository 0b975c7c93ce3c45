-- Outside, the literals passed are false or need not be; inside, no entry passed is the literal's complement.
use mathlib.Core.Path.{◌≡◌}
use mathlib.Core.Bool.{false}
use lib.ListN.{take}
use Rattle.lists.specs.Lists.{any_of}
use Rattle.calculus.specs.Trails.{is_literal}
use Rattle.std.specs.Prelude.{None}
use Rattle.trail.specs.Answers.{passes}
use Rattle.trail.specs.Entries.{entries_of, entry_of}
use Rattle.trail.proofs.NotFalse.{AllPass}
use Rattle.trail.proofs.first_failing.Given as goal

abbrev pub invariant-loop-e : goal.invariant-loop-e
invariant-loop-e l = any_of (λ e. is_literal l.denied (entry_of e)) (take l.e-index l.trail) ≡ false

abbrev pub invariant-literals : goal.invariant-literals
invariant-literals l = record {
  none : l.first ≡ None;
  passed : AllPass (passes l.own (entries_of l.trail) l.instance) l.literals l.j;
}
