-- What a merge gives back, where it is within the limits.
use Rattle.std.specs.Prelude.{◌≡◌, List, ℕ, ◌<◌, length, get_or, map, Option, Some, None, cond}
use Rattle.lists.specs.Arrays.{exactly}
use Rattle.calculus.specs.Clauses as calculus
use Rattle.calculus.specs.Class.{within_limits}
use Rattle.clauses.specs.declared.Instanced.{Instanced}
use Rattle.clauses.specs.Records.{packed_instanced}

-- The slots are what g makes of the list's elements, blank past them, for each g that P allows alone.
abbrev pub MadeBy : {A : Type 0} → (A → A → Type 0) → ℕ → A → List A → List A → Type 0
MadeBy {A} P n d l out = (g : A → A) → ((k : ℕ) → k < length l → (r : A) → P (get_or l k d) r → r ≡ g (get_or l k d)) → out ≡ exactly n d (map g l)

-- "No room: clause limits counted after merging."
unfoldable pub fitted : calculus.Instanced → Option Instanced
fitted N = cond (within_limits N.clause) (Some (packed_instanced N)) None
