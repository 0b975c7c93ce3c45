-- `fields::field_at` meets its contract.
use Rattle.std.proofs.Common.{◌≡◌, ◌+◌, ◌-◌, length, arith}
use borrow.Author.Tests.{le-leb, lt-leb}
use Rattle.runfile.specs.Readers.{field}
use Rattle.fields.proofs.field_at.Goals as goal
use Rattle.fields.proofs.field_at.Goals.{else-n-s-via-then-n-s+else-at-s, else-n-s-via-else-n-s}

pub returns-then-at-s-clause-reads : goal.returns-then-at-s-clause-reads
unfolding field
returns-then-at-s-clause-reads c =
    let a : c.args.at + c.args.n - c.args.at ≡ c.args.n = omega arith in
    rw (a, le-leb (c.args.at + c.args.n) (length c.args.s.now) (omega arith))

pub returns-else-n-s-clause-reads : goal.returns-else-n-s-clause-reads
unfolding field
returns-else-n-s-clause-reads c =
    elim c.else-n-s.branch [
      | else-n-s-via-then-n-s+else-at-s w ↦ rw (lt-leb (c.args.at + c.args.n) (length c.args.s.now) (omega arith))
      | else-n-s-via-else-n-s w ↦ rw (lt-leb (c.args.at + c.args.n) (length c.args.s.now) (omega arith))
    ]
