-- What is written of each atom
use Rattle.std.proofs.Common.{◌+◌}
use Rattle.clausetext.specs.ClauseText.{listed_atom}
use Rattle.clausetext.specs.Room.{most_atom}
use Rattle.clausetext.proofs.put_atoms.Given as goal

abbrev pub ghost-put_each : goal.ghost-put_each
ghost-put_each a = record { most = 1 + most_atom; text = listed_atom }
