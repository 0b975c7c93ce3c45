-- `fields::several` meets its contract.
use Rattle.std.proofs.Common.{◌∙◌, ap, sym, List, arith}
use Rattle.std.proofs.lemmas.Result.{err_from_is_err_and}
use Rattle.lists.specs.Arrays.{held, pushed}
use Rattle.lists.proofs.Arrays.{exactly_none}
use Rattle.runfile.specs.Readers.{got}
use Rattle.fields.proofs.Turns.{held_more, made_ended, made_more, made_none}
use Rattle.fields.proofs.several.Goals as goal

pub loop-j-init : goal.loop-j-init
loop-j-init g c = λ f s calls.
    made_none f s c.args.at (held g.row.N c.args.blank) ∙ ap (λ (l : List g.row.T.Denot). got (record { n = 0; at = l }) c.args.at) (exactly_none c.args.blank g.row.N)

pub returns-in_err-value-clause-reads : goal.returns-in_err-value-clause-reads
returns-in_err-value-clause-reads g c = λ f s calls.
    let p = err_from_is_err_and c.from_residual.result c.from_residual.ensures.1 in
    rw (p.1, p.2, made_ended f s c.args.at (held g.row.N c.args.blank) c.loop-j.j c.args.n _ c.loop-j.past _ _ (c.loop-j.invariant f s calls) (sym (calls c.loop-j.past _ c.in_err-value.ensures)) (omega (arith, c.loop-j-test.true, c.from-count.ensures)))

pub loop-j-preserved : goal.loop-j-preserved
loop-j-preserved g c = λ f s calls.
    made_more f s c.args.at (held g.row.N c.args.blank) c.loop-j.j _ c.loop-j.past c.in_ok-value.value c.in_ok-value.next (λ h. pushed h c.in_ok-value.value) (c.loop-j.invariant f s calls)
    (sym (calls c.loop-j.past _ c.in_ok-value.ensures)) (λ xs e. held_more g.row.N c.args.blank xs c.in_ok-value.value c.loop-j.j e (omega (arith, c.loop-j-test.true, c.requires.room)))
