use Rattle.std.proofs.Common.{◌≡◌, ◌∙◌, sym, ap, ap₂, subst, get_or, map, List, arith}
use lib.ListN.{set}
use lib.Seq.{take_all}
use Rattle.lists.specs.Arrays.{exactly}
use Rattle.lists.proofs.Arrays.{exactly_none, get_d_any, mapped_turn}
use Rattle.joining.proofs.fit.Goals as goal

pub loop-j-init : goal.loop-j-init
loop-j-init g c = λ h p. sym (exactly_none c.args.blank g.row.N)

pub loop-j-preserved : goal.loop-j-preserved
loop-j-preserved g c = λ h p.
    let list = c.args.list.now in
    let j = c.loop-j.j in
    let x = c.index-list-j.result in
    let here : x ≡ get_or list j c.args.blank = c.index-list-j.is ∙ get_d_any list j x c.args.blank c.loop-j-test.true in
    let made = p j c.loop-j-test.true c.f.result (subst (λ (y : g.row.T.Denot). g.F.Fn.post c.args.f (y, tt) c.f.result) here c.f.ensures) in
    ap₂ (λ (l : List g.row.T.Denot) (y : g.row.T.Denot). set l j y) (c.loop-j.invariant h p) made ∙ mapped_turn h g.row.N c.args.blank c.args.blank list j (omega arith) (omega arith)

pub returns : goal.returns
returns g c = λ h p. c.loop-j.invariant h p ∙ ap (λ (l : List g.row.T.Denot). exactly g.row.N c.args.blank (map h l)) (take_all c.loop-j.j c.args.list.now (omega arith))
