-- Of the entries passed the atoms are gathered.
use mathlib.Core.Path.{◌∙◌, ◌≡◌, ap, sym}
use mathlib.Core.List.{[]}
use lib.ListN.{length}
use Rattle.calculus.specs.Trails.{atoms_of}
use Rattle.trail.specs.Entries.{trail_of}
use native.Mathlib.Omega.{arith}
use Rattle.testing.proofs.Gathering.{atoms_few, atoms_skip, atoms_turn, gathers_trail, none_packed, trail_more}
use Rattle.testing.specs.Asked.{packed_tested}
use Rattle.testing.proofs.trail_gathered.Goals as goal
use Rattle.testing.proofs.trail_gathered.Goals.{then-is_background, else-is_background}

pub loop-e-init : goal.loop-e-init
loop-e-init c = none_packed c.no_atom-blank.ensures

pub push-requires : goal.push-requires
push-requires c = omega (arith, ap (λ t. t.count) c.loop-e.invariant, atoms_few c.args.trail.now c.loop-e.e-index)

pub loop-e-preserved : goal.loop-e-preserved
loop-e-preserved c =
    let es = c.args.trail.now in
    let loop = c.loop-e in
    let k = loop.e-index in
    elim c.if-is_background.branch [
      | then-is_background w ↦
          w.tested-is ∙ w.push.ensures
          ∙ trail_more (atoms_of (trail_of es k)) _ loop.invariant (atoms_turn es k (sym c.is_background.ensures ∙ w.if-is_background.true)) (omega (arith, atoms_few es k))
      | else-is_background w ↦
          w.tested-is ∙ loop.invariant ∙ ap (packed_tested []) (sym (atoms_skip es k (sym c.is_background.ensures ∙ w.if-is_background.false)))
    ]

pub returns : goal.returns
returns c =
    let es = c.args.trail.now in
    let loop = c.loop-e in
    let all : loop.e-index ≡ length es = omega arith in
    gathers_trail (omega (arith, atoms_few es (length es))) (loop.invariant ∙ ap (packed_tested []) (ap (λ k. atoms_of (trail_of es k)) all))
