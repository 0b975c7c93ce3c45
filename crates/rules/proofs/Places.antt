-- What has been seen of the trail's first entries is what has been seen of the trail.
use mathlib.Core.Path.{◌≡◌}
use Prim.Native.Nat.{◌≤◌}
use native.Mathlib.Omega.{arith}
use lib.ListN.{length, take}
use Rattle.rules.specs.declared.Run.{Run}
use Rattle.rules.specs.Answers.{Kept}
use Rattle.rules.proofs.Runs.{kept_small}
use Rattle.trail.specs.Entries.{entries_of, trail_of}
use Rattle.trail.proofs.Walks.{entries_first}

module _ {r : Run} (K : Kept r) where
  within : r.length ≤ length r.trail
  within = let h = kept_small K in omega (arith, h.few_entries, h.slots)

  pub first_entries : entries_of (take r.length r.trail) ≡ trail_of r.trail r.length
  first_entries = entries_first r.trail r.length within
