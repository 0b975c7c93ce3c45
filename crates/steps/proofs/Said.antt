-- The record of a step says that step.
use mathlib.Core.Path.{◌∙◌, ◌≡◌, ap, ap₂, refl, subst, sym}
use mathlib.Core.List.Memᴰ
use mathlib.Core.List.{List, Memᴰ, [], ◌∷◌, map}
use mathlib.Core.Bool.{Bool, false, true}
use Prim.Native.Nat.{◌≤◌}
use native.Mathlib.Omega.{arith}
use lib.ListN.{length, length-map}
use Rattle.basis.specs.Limits.{most_brought, most_variables}
use Rattle.lists.specs.Arrays.{exactly}
use Rattle.runfile.specs.Claims.{BroughtHeld, SourcesHeld}
use Rattle.asking.proofs.Steps.{array_said, instance_said}
use Rattle.asking.specs.Steps.{no_source, source_of}
use Rattle.steps.specs.Records.{StepSaid, packed_source}
use Rattle.calculus.specs.States.{Backtrack, Conflict, Decide, Factorize, Grow, Propagate, Resolve, Skip, Unknown}
use Rattle.calculus.specs.Trails.{Source}

-- Those of one that brings none are held to the same.
brought_held : (brings : Bool) (zs : List Source) → BroughtHeld brings zs → SourcesHeld zs
brought_held true zs h = h
brought_held false zs e = subst SourcesHeld (sym e) (record { few = omega arith; signs = λ z m. absurd (Memᴰ.not-nil m); instances = λ z m. absurd (Memᴰ.not-nil m) })

each_said : (zs : List Source) → ((z : Source) → Memᴰ z zs → length z.instance ≤ most_variables) → map source_of (map packed_source zs) ≡ zs
each_said [] h = refl
each_said (z ∷ zs) h = ap₂ {B = List Source} (λ y ys. y ∷ ys) (λ i. record { clause = z.clause; number = z.number; sign = z.sign; instance = instance_said z.instance (h z (Memᴰ.head refl)) i }) (each_said zs (λ y m. h y (Memᴰ.tail m)))

sources_said : (zs : List Source) → SourcesHeld zs → map source_of (exactly (length zs) no_source (exactly most_brought no_source (map packed_source zs))) ≡ zs
sources_said zs h =
    let n = length-map zs packed_source in
    ap (map source_of) (rw n at (array_said no_source most_brought (map packed_source zs) (omega (arith, h.few)))) ∙ each_said zs h.instances

pub step_said : StepSaid
step_said b (Propagate c l τ) h = ap (Propagate c l) (instance_said τ h)
step_said b (Decide c l g τ zs) h = ap₂ (Decide c l g) (instance_said τ h.1) (sources_said zs (brought_held b zs h.2))
step_said b (Conflict c τ) h = ap (Conflict c) (instance_said τ h)
step_said b (Resolve l) h = refl
step_said b (Factorize l m) h = refl
step_said b Skip h = refl
step_said b (Backtrack l) h = refl
step_said b (Grow n) h = refl
step_said b (Unknown r) h = absurd h
