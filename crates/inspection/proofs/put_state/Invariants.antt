-- What is written of each entry and of each clause
use Rattle.inspection.specs.Writing.{most_entry_line, most_clause_line, clause_line_of, entry_line_of}
use Rattle.inspection.proofs.put_state.Given as goal

abbrev pub ghost-put_each : goal.ghost-put_each
ghost-put_each a = record { most = most_entry_line; text = entry_line_of }

abbrev pub ghost-put_each-2 : goal.ghost-put_each-2
ghost-put_each-2 a = record { most = most_clause_line; text = clause_line_of }
