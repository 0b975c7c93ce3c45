-- What is written of each literal
use Rattle.std.proofs.Common.{◌+◌}
use Rattle.clausetext.specs.ClauseText.{listed_literal}
use Rattle.clausetext.specs.Room.{most_literal}
use Rattle.clausetext.proofs.put_literals.Given as goal

abbrev pub ghost-put_each : goal.ghost-put_each
ghost-put_each a = record { most = 1 + most_literal; text = listed_literal }
