-- The constants copied stand in front of blanks.
use mathlib.Core.Path.{◌∙◌, ◌≡◌, ap, ap₂}
use mathlib.Core.List.{List, ◌++◌}
use native.Mathlib.Omega.{arith}
use Prim.Native.Nat.{min, ℕ}
use lib.ListN.{drop, length, length-take, replicate, take}
use Rattle.std.proofs.lemmas.List.{take_min}
use Rattle.basis.specs.Limits.{most_variables}
use Rattle.instances.proofs.Constants.{blank_behind}
use Rattle.instances.proofs.first_constants.Goals as goal

pub returns : goal.returns
returns c =
    let constants = c.args.instance.now in
    let n : c.min-n.result ≡ min most_variables (length constants) = omega (arith, c.min-n.ensures) in
    ap₂ (λ (l : List ℕ) (k : ℕ). l ++ drop k (replicate most_variables 0))
    (c.copy_from_slice.ensures.after ∙ ap (λ k. take k constants) n ∙ take_min most_variables constants)
    (omega (arith, n, length-take most_variables constants))
    ∙ blank_behind 0 most_variables constants
