use Rattle.calculus.specs.Clauses.{no_clause}
use Rattle.clauses.specs.Records.{packed}
use Rattle.state.proofs.Opening.{front_of}
use Rattle.state.proofs.with_room.Goals as goal

pub returns : goal.returns
returns c = rw (c.copy_from_slice.ensures.after, c.no_clause-out.ensures) (front_of (packed no_clause) 96 c.args.clauses.now c.requires)
