-- The instances of the literals passed but one are held, blank from there on.
use mathlib.Core.Path.{◌∙◌, ◌≡◌, ap, sym}
use mathlib.Core.List.{[], ◌++◌, ◌∷◌, map}
use native.Mathlib.Omega.{arith}
use Prim.Native.Nat.{◌<◌, ◌≤◌}
use lib.ListN.{length, length-map, length-take, take}
use lib.Seq.{take_all}
use Rattle.basis.specs.Limits.{most_literals}
use Rattle.basis.specs.declared.Literal.{Literal}
use Rattle.lists.proofs.Walks.{without_short}
use Rattle.lists.specs.Arrays.{held}
use Rattle.lists.specs.Lists.{without}
use Rattle.lists.specs.declared.Held.{Held}
use Rattle.calculus.specs.Clauses.{ground, no_literal}
use Rattle.calculus.specs.Rules.{other_instances}
use Rattle.clauses.specs.Records.{instanced_of}
use Rattle.instances.proofs.Others.{others_kept, others_skipped, held_more}
use Rattle.instances.proofs.other_instances.Goals as goal
use Rattle.instances.proofs.other_instances.Goals.{then-j-i, else-j-i}

pub push-requires : goal.push-requires
push-requires c =
    let loop = c.loop-j in
    let passed = take loop.j c.literals-literals.result.now in
    let others = without c.index_of-i.result passed in (
      omega arith,
      omega (
        arith,
        ap (λ (h : Held Literal most_literals). h.n) loop.invariant.gathered,
        length-map others (ground c.constants-constants.result.now),
        without_short c.index_of-i.result passed,
        length-take loop.j c.literals-literals.result.now,
      ),
    )

pub loop-j-preserved : goal.loop-j-preserved
loop-j-preserved c =
    let loop = c.loop-j in
    let f = ground c.constants-constants.result.now in
    let i = c.index_of-i.result in
    let l = c.literals-literals.result.now in
    let passed = take loop.j l in
    let short : length (map f (without i passed)) < most_literals = omega (arith, length-map (without i passed) f, without_short i passed, length-take loop.j l) in
    record {
      room = loop.invariant.room;
      gathered = elim c.if-j-i.branch [
        | then-j-i w ↦
            w.others-is ∙ w.push.ensures ∙ held_more no_literal most_literals loop.others (map f (without i passed)) _ w.ground.result loop.invariant.gathered short
            (others_kept f i l loop.j no_literal c.loop-j-test.true w.if-j-i.true ∙ ap (λ g. map f (without i passed) ++ (g ∷ [])) (sym w.ground.ensures))
        | else-j-i w ↦ w.others-is ∙ loop.invariant.gathered ∙ ap (held most_literals no_literal) (sym (others_skipped f i l loop.j no_literal c.loop-j-test.true (omega arith)))
      ];
    }

pub returns : goal.returns
returns c =
    let loop = c.loop-j in
    let f = ground c.constants-constants.result.now in
    let l = c.literals-literals.result.now in
    let all : map f (without c.index_of-i.result (take loop.j l)) ≡ other_instances (instanced_of c.args.n) c.args.l = λ i. map (ground (c.constants-constants.ensures i)) (without (c.index_of-i.ensures i) ((take_all loop.j l c.loop-j-test.false ∙ c.literals-literals.ensures) i)) in
    let passed = take loop.j l in
    let short : length (map f (without c.index_of-i.result passed)) ≤ most_literals =
    omega (arith, length-map (without c.index_of-i.result passed) f, without_short c.index_of-i.result passed, length-take loop.j l) in
    record { few = omega (arith, ap length all, short); packed = loop.invariant.gathered ∙ ap (held most_literals no_literal) all }
