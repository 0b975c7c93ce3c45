-- Each literal is as it is read.
use Rattle.std.proofs.Common.{◌≡◌, ◌∙◌, ap, ap₂, List, ◌+◌, ◌<◌, ℕ, arith, get_or, length, map, set, take, drop, length-take}
use lib.ListN.{length-map}
use lib.Seq.{get_or-append-add, get_or-drop}
use Rattle.basis.specs.declared.Literal.{Literal}
use Rattle.lists.proofs.Arrays.{each_turn}
use Rattle.calculus.specs.Clauses.{no_literal}
use Rattle.admission.specs.Offered.{cleaned}
use Rattle.admission.proofs.clean_literals.Goals as goal

pub loop-l-preserved : goal.loop-l-preserved
loop-l-preserved c =
    let s = c.loop-l in
    let f = cleaned c.args.arities.now in
    let ls = c.args.literals in
    let j = s.l-index in
    let inside : j < length ls = omega (arith, s.invariant.0) in
    let passed : j ≡ length (map f (take j ls)) + 0 = omega (arith, length-map (take j ls) f, length-take j ls) in
    let none : j + 0 ≡ j = omega arith in
    let here : get_or s.l-items j no_literal ≡ get_or ls j no_literal =
    ap₂ (λ (l : List Literal) (i : ℕ). get_or l i no_literal) s.invariant.1 passed ∙ get_or-append-add (map f (take j ls)) (drop j ls) 0 no_literal ∙ get_or-drop j ls 0 no_literal
    ∙ ap (λ (i : ℕ). get_or ls i no_literal) none in
    (s.invariant.0, ap₂ (λ (l : List Literal) (x : Literal). set l j x) s.invariant.1 (c.clean_literal.ensures ∙ ap f here) ∙ each_turn f ls j no_literal inside)
