-- The atoms and the literal are stored in their slots.
use mathlib.Core.Path.{ap, ◌∙◌}
use mir.Facts.{to_z-of_z}
use Rattle.lookup.specs.TableClauses.{at_least, at_most}
use Rattle.lookup.proofs.Stores.{endless_filled}
use Rattle.lookup.proofs.endless.Goals as goal

pub returns : goal.returns
returns c =
    endless_filled c.args.key c.args.res c.no_clause-c.ensures
    (c.at_least.ensures ∙ ap (at_least 1) (to_z-of_z c.ranges.key))
    (c.at_least-2.ensures ∙ ap (at_least 2) (to_z-of_z c.ranges.res))
    (c.at_most.ensures ∙ ap (at_most 2) (to_z-of_z c.ranges.res))
    c.gets_literal.ensures
