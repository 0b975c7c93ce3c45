-- What was written lies within the buffer.
use lib.ListN.{replicate}
use Rattle.judging.proofs.Judging.{shows_within}
use Rattle.inspect.proofs.print_inspection.Goals as goal

pub print_text-requires : goal.print_text-requires
print_text-requires c = shows_within c.args.file.now (replicate 136558 0) c.inspect-written.new.out c.inspect-written.result c.inspect-written.ensures
