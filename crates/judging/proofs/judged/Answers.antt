-- `judging::judged` meets its contract.
use Rattle.judging.proofs.Judging.{bad_fits, leaves_bad, leaves_run}
use borrow.Author.Rules.{rules}
use Rattle.judging.proofs.judged.Goals as goal

pub returns-in-Ok : goal.returns-in-Ok
returns-in-Ok c = leaves_run c.requires c.run_steps-ended.ensures

pub returns-in-Err : goal.returns-in-Err
returns-in-Err c = leaves_bad c.args.numbered c.requires (rw c.from-number.ensures c.in-Err.ensures) (search rules) (search rules) (bad_fits c.args.numbered c.args.shown) c.put_bad-count.ensures
