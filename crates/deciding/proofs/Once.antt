-- What is weighed is unique.
use mathlib.Core.Path.{◌∙◌, ◌≡◌, ap, sym}
use mathlib.Core.List.{◌++◌}
use lib.ListN.{length}
use Rattle.basis.specs.Numbers.{whole}
use Rattle.calculus.proofs.Answers.{answer_unique}
use Rattle.calculus.specs.Rules.{Answer}
use Rattle.calculus.specs.Trails.{atoms_of}
use Rattle.trail.proofs.Stored.{recorded_once}
use Rattle.testing.proofs.Asked.{witness_once}
use Rattle.asking.proofs.Trying.{given_number_once}
use Rattle.asking.specs.Looking.{atoms_looked}
use Rattle.asking.specs.Steps.{decide_of}
use Rattle.deciding.specs.Weighing.{WeighedOnce, Weighs, atoms_named, entry_decided}
use Rattle.deciding.specs.declared.Weighed.{Weighed}
use Rattle.asking.specs.declared.Step.{Step}
use Rattle.calculus.specs.States.{State}

weighed_same : (s : State) (x : Step) (v w : Weighed) → Weighs s x v → Weighs s x w → v ≡ w
weighed_same s x v w f g =
    let zs = atoms_looked s (decide_of x) in
    let own = recorded_once v.own w.own (entry_decided s x (length zs)) f.own g.own in
    let witness = witness_once s.constants (atoms_of s.trail ++ atoms_named s zs) v.witness w.witness f.witness g.witness in
    let refusal = given_number_once v.refusal w.refusal g.answer.number (f.number ∙ ap (λ (a : Answer). a.number) (answer_unique whole s (decide_of x) f.answer g.answer f.judged g.judged)) g.number in
    let count : v.count ≡ w.count = f.count ∙ sym g.count in
    λ i. record { own = own i; witness = witness i; refusal = refusal i; count = count i }

pub weighed_once : WeighedOnce
weighed_once trail constants clauses stands version k n x v w (s, S, L) f g = weighed_same s x v w (f s S L) (g s S L)
