-- The step's atoms passed are free.
use mathlib.Core.Path.{◌∙◌, ◌≡◌, ap, sym}
use native.Mathlib.Omega.{arith}
use lib.ListN.{drop, take}
use lib.Seq.{take-take}
use Rattle.calculus.specs.Tests.{atoms_undefined}
use Rattle.testing.proofs.Free.{free_turn, not_free}
use Rattle.testing.specs.Asked.{known_atoms, step_atoms}
use Rattle.testing.proofs.all_undefined.Goals as goal

pub returns-then-is_defined : goal.returns-then-is_defined
returns-then-is_defined c =
    let t = c.args.tested.now in
    let all = c.all-all.result.now in
    let same : atoms_undefined (take c.from-known.result all) (drop c.from-known.result all) ≡ atoms_undefined (known_atoms t) (step_atoms t) =
    (λ i. atoms_undefined (take (c.from-known.ensures i) (c.all-all.ensures i)) (drop (c.from-known.ensures i) (c.all-all.ensures i)))
    ∙ ap (λ l. atoms_undefined l (step_atoms t)) (take-take t.known t.count t.atoms c.requires.ordered) in
    sym (sym same ∙ not_free all c.from-known.result c.loop-j.j (omega arith) (omega arith) (sym c.is_defined.ensures ∙ c.if-is_defined.true))

pub loop-j-preserved : goal.loop-j-preserved
loop-j-preserved c =
    free_turn c.all-all.result.now c.from-known.result c.loop-j.j (omega arith) (omega arith) c.loop-j.invariant (sym c.is_defined.ensures ∙ c.if-is_defined.false)
