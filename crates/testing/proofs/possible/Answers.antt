-- `testing::possible` meets its contract.
use Rattle.std.proofs.Common.{◌≡◌, ap, arith, length, subst}
use Rattle.basis.specs.Limits.{most_tested}
use Rattle.testing.specs.Asked.{WitnessOf, tested_atoms}
use Rattle.testing.proofs.Asked.{answered, witness_of}
use Rattle.testing.proofs.possible.Goals as goal

pub returns-in-Ok : goal.returns-in-Ok
returns-in-Ok c =
    let long : length c.args.tested.now.atoms ≡ most_tested = omega arith in
    subst (WitnessOf c.args.constants (tested_atoms c.args.tested.now)) (ap witness_of c.in-Ok.is) (answered c.args.constants c.args.tested.now long c.possible.result (rw c.all.ensures at c.possible.ensures))

pub returns-in-Err : goal.returns-in-Err
returns-in-Err c =
    let long : length c.args.tested.now.atoms ≡ most_tested = omega arith in
    subst (WitnessOf c.args.constants (tested_atoms c.args.tested.now)) (ap witness_of c.in-Err.is) (answered c.args.constants c.args.tested.now long c.possible.result (rw c.all.ensures at c.possible.ensures))
