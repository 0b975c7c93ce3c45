-- What is written of each number
use Rattle.std.proofs.Common.{◌+◌}
use Rattle.clausetext.specs.ClauseText.{number_text}
use Rattle.clausetext.specs.Room.{most_number}
use Rattle.clausetext.proofs.put_tuple.Given as goal

abbrev pub ghost-put_each : goal.ghost-put_each
ghost-put_each a = record { most = 1 + most_number; text = number_text }
