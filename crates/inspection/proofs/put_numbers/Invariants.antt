-- What is written of each number
use Rattle.inspection.specs.NumbersText.{listed_number, most_listed_number}
use Rattle.inspection.proofs.put_numbers.Given as goal

abbrev pub ghost-put_each : goal.ghost-put_each
ghost-put_each a = record { most = most_listed_number; text = listed_number }
