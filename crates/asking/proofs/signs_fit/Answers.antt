-- The signs in the slots are those of the sources.
use Rattle.std.proofs.Common.{rules, tests, ◌∙◌, sym, leb, take}
use Rattle.std.proofs.lemmas.Iterator.{YieldsList-from_slice}
use Rattle.std.proofs.lemmas.Iterator.Search.{all_from_yields_List}
use native.Mathlib.Omega.{arith}
use Rattle.asking.proofs.Sources.{signs_are}
use Rattle.asking.proofs.signs_fit.Goals as goal

pub returns : goal.returns
returns c =
    let all = all_from_yields_List (λ z. leb z.sign 1) _ _ c.all.result c.all.ensures.ran (YieldsList-from_slice (take c.args.n c.args.x.atoms) cc) (λ x b q k. search (rules, tests)) in
    all ∙ sym (signs_are c.args.n c.args.x (let long = c.well_formed in omega arith))
