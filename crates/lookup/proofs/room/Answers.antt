-- By the kind of match.
use mathlib.Core.Path.{sym, ◌∙◌}
use Rattle.lookup.specs.declared.Match.TheVariants.{Exact, Approximate}
use Rattle.lookup.proofs.Lengths.{offered_long, exact_long, approximate_long}
use Rattle.lookup.proofs.room.Goals as goal

pub returns-in-Exact : goal.returns-in-Exact
returns-in-Exact c = rw c.in-Exact.is (sym (offered_long Exact _ _ c.requires.in_order ∙ exact_long _))

pub returns-in-Approximate : goal.returns-in-Approximate
returns-in-Approximate c = rw c.in-Approximate.is (c.saturating_sub.ensures ∙ sym (offered_long Approximate _ _ c.requires.in_order ∙ approximate_long _))
