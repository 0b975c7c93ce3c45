-- The new ones of the atoms passed are held.
use mathlib.Core.Path.{◌∙◌, ap, sym}
use Prim.Native.Nat.{◌<◌}
use native.Mathlib.Omega.{arith}
use lib.ListN.{drop, get_or, length, length-drop, length-take, take}
use Rattle.basis.specs.Atoms.{no_atom}
use Rattle.basis.specs.Limits.{most_atoms}
use Rattle.lists.specs.Arrays.{pushed}
use Rattle.testing.specs.New.{new_atoms, packed_atoms}
use Rattle.testing.proofs.New.{known_turn, new_few, new_turn, packed_more}
use Rattle.testing.proofs.new_atoms.Goals as goal
use Rattle.testing.proofs.new_atoms.Goals.{After-is_among, then-not-is_among, else-not-is_among}

room : (c : After-is_among) → length (new_atoms (take c.from-known.result c.all-all.result.now) (drop c.from-known.result (take c.loop-j.j c.all-all.result.now))) < most_atoms
room c =
    let all = c.all-all.result.now in
    let i = c.from-known.result in
    let j = c.loop-j.j in
    let t = c.args.tested.now in
    omega (arith, new_few (take i all) (drop i (take j all)), length-drop i (take j all), length-take j all, ap length c.all-all.ensures, length-take t.count t.atoms, c.from-known.ensures, c.requires.few_step)

pub push-requires : goal.push-requires
push-requires c = (omega arith, omega (arith, ap (λ h. h.n) c.loop-j.invariant, room (goal.at.push-requires c).After-is_among))

pub loop-j-preserved : goal.loop-j-preserved
loop-j-preserved c =
    let all = c.all-all.result.now in
    let i = c.from-known.result in
    let loop = c.loop-j in
    elim c.if-not-is_among.branch [
      | then-not-is_among w ↦
          w.fresh-is ∙ w.push.ensures ∙ ap (λ h. pushed h (get_or all loop.j no_atom)) loop.invariant ∙ packed_more _ _ (room (goal.at.loop-j-preserved c).After-is_among)
          ∙ ap packed_atoms (sym (new_turn all i loop.j (omega arith) (omega arith) (sym c.is_among.ensures ∙ w.if-not-is_among.true)))
      | else-not-is_among w ↦
          w.fresh-is ∙ loop.invariant ∙ ap packed_atoms (sym (known_turn all i loop.j (omega arith) (omega arith) (sym c.is_among.ensures ∙ w.if-not-is_among.false)))
    ]
