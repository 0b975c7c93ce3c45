-- What a Decide asks is seen.
use mathlib.Core.Path.{◌∙◌}
use Rattle.calculus.specs.Tests.{atoms_undefined}
use Rattle.testing.proofs.Gathering.{in_room, known_says, step_says, tested_says}
use Rattle.testing.proofs.decision_seen.Goals as goal

pub all_undefined-requires : goal.all_undefined-requires
all_undefined-requires c = in_room c.gathered_with-tested.ensures

pub returns : goal.returns
returns c =
    let G = c.gathered_with-tested.ensures in
    record {
      free = c.undefined.ensures;
      fresh = c.all_undefined.ensures ∙ (λ i. atoms_undefined (known_says G i) (step_says G i));
      witness = rw (tested_says G) at c.possible.ensures;
    }
