use borrow.Author.Rules.{rules}
use Rattle.rules.proofs.Growing.{recorded_source}
use Rattle.rules.proofs.source_entry.Goals as goal

pub returns : goal.returns
returns c = recorded_source c.args.z (let g = c.well_formed.1.0.1.1.1.1.1.1.0 in search rules) c.constants.ensures c.brought_entry.ensures
