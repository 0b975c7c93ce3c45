-- Behind the trail's atoms stand the instances of those of the clause that are passed.
use mathlib.Core.Path.{◌∙◌, ap, sym}
use mathlib.Core.List.{[], ◌∷◌, ◌++◌, map}
use Prim.Native.Nat.{◌<◌}
use native.Mathlib.Omega.{arith}
use lib.ListN.{length, length-map, length-take, take}
use Rattle.basis.specs.Atoms.{no_atom}
use Rattle.basis.specs.Limits.{most_atoms}
use Rattle.lists.proofs.Walks.{map_more}
use Rattle.calculus.specs.Clauses.{ground_atoms, rename_atom, under}
use Rattle.testing.proofs.Gathering.{counted_room, gathers_more}
use Rattle.testing.proofs.gathered.Goals as goal
use Rattle.testing.proofs.gathered.Goals.{After-ground_atom}

few : (c : After-ground_atom) → length (ground_atoms c.args.instance.now (take c.loop-a.a-index c.atoms-a-items.result.now)) < most_atoms
few c =
    let l = c.atoms-a-items.result.now in
    let j = c.loop-a.a-index in
    omega (arith, length-map (take j l) (rename_atom (under c.args.instance.now)), length-take j l, ap length c.atoms-a-items.ensures, length-take c.args.clause.atomcount c.args.clause.atoms)

pub push-requires : goal.push-requires
push-requires c = counted_room c.loop-a.invariant (few (goal.at.push-requires c).After-ground_atom)

pub loop-a-preserved : goal.loop-a-preserved
loop-a-preserved c =
    let loop = c.loop-a in
    let l = c.atoms-a-items.result.now in
    let f = rename_atom (under c.args.instance.now) in
    let az = map f (take loop.a-index l) in
    rw c.push.ensures
    (gathers_more _ loop.invariant (few (goal.at.loop-a-preserved c).After-ground_atom)
    (map_more f l loop.a-index no_atom (omega arith) ∙ ap (λ a. az ++ (a ∷ [])) (sym c.ground_atom.ensures)))
