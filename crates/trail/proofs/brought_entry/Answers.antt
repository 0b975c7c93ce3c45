-- The constants are the first ones, and as many as are counted.
use mathlib.Core.Path.{◌∙◌, ◌≡◌, sym}
use native.Mathlib.Omega.{arith}
use lib.ListN.{length, length-take, take}
use Rattle.basis.specs.Limits.{most_variables}
use Rattle.instances.proofs.Constants.{exactly_first}
use Rattle.trail.proofs.brought_entry.Goals as goal

pub returns : goal.returns
returns c =
    let constants = take most_variables c.args.instance.now in
    let counted : c.min.result ≡ length constants = omega (arith, c.min.ensures, length-take most_variables c.args.instance.now) in
    let kept = c.first_constants.ensures ∙ sym (exactly_first 0 most_variables c.args.instance.now) in
    record { is = rw (c.blank_entry.ensures, counted, kept); short = omega (arith, length-take most_variables c.args.instance.now) }
