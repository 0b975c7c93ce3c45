-- `lists::Held::new` meets its contract.
use Rattle.std.proofs.Common.{sym}
use Rattle.lists.proofs.Arrays.{exactly_none}
use Rattle.lists.proofs.Held.new.Goals as goal

pub returns : goal.returns
returns g c = λ i. record { n = 0; at = (sym (exactly_none c.args.blank g.row.N)) i }
