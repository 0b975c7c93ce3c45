-- What the closure reads is a byte.
use Rattle.std.proofs.Common.{rules}
use Rattle.runfile.specs.File.{byte}
use Rattle.steps.proofs.instance_at.Goals as goal

pub several-requires : goal.several-requires
several-requires c = (search rules, (search rules, (search rules, (byte, c.args.s.now, search rules))))
