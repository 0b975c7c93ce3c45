-- `steps::read_file` meets its contract.
use Rattle.std.proofs.Common.{rules, arith}
use Rattle.steps.proofs.Files.{file_long, file_read}
use Rattle.steps.proofs.read_file.Goals as goal

pub returns-then-s-gt-MOST_FILE : goal.returns-then-s-gt-MOST_FILE
returns-then-s-gt-MOST_FILE c = file_long c.args.s.now (omega (arith, c.if-s-gt-MOST_FILE.true))

pub returns-in_err-head : goal.returns-in_err-head
returns-in_err-head c = rw (file_read c.args.s.now (omega (arith, c.if-s-gt-MOST_FILE.false))) (search rules)

pub returns-in_err-last : goal.returns-in_err-last
returns-in_err-last c = rw (file_read c.args.s.now (omega (arith, c.if-s-gt-MOST_FILE.false))) (search rules)

pub returns-in_err-end_at : goal.returns-in_err-end_at
returns-in_err-end_at c = rw (file_read c.args.s.now (omega (arith, c.if-s-gt-MOST_FILE.false))) (search rules)

pub returns : goal.returns
returns c = rw (file_read c.args.s.now (omega (arith, c.if-s-gt-MOST_FILE.false))) (search rules)
