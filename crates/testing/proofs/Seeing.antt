-- What a Decide asks of a trail has one answer.
use mathlib.Core.Path.{◌∙◌, sym}
use mathlib.Core.List.{◌++◌}
use Rattle.calculus.specs.Trails.{atoms_of}
use Rattle.testing.specs.Asked.{SeesOnce}
use Rattle.testing.proofs.Asked.{witness_once}

pub sees_once : SeesOnce
sees_once constants t l az r s f g =
    let free = f.free ∙ sym g.free in
    let fresh = f.fresh ∙ sym g.fresh in
    let witness = witness_once constants (atoms_of t ++ az) r.witness s.witness f.witness g.witness in
    λ i. record { free = free i; fresh = fresh i; witness = witness i }
