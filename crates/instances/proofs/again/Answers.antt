-- L's instance looked for among the others.
use Rattle.instances.proofs.Others.{listed_says}
use Rattle.instances.proofs.again.Goals as goal

pub returns : goal.returns
returns c = rw (c.among.ensures, c.conflict_instance.ensures, c.as_slice.ensures, listed_says c.other_instances.ensures)
