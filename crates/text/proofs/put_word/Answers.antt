-- The loop writes the word's bytes in turn.
use Rattle.std.proofs.Common.{◌∙◌, add-one, ap, arith, refl, sym}
use Rattle.std.proofs.Math.Seq.{take-suc}
use Rattle.std.proofs.lemmas.List.{take_all}
use Rattle.std.proofs.lemmas.List.Edits.{sets}
use Rattle.text.proofs.Text.{and_then, as_text}
use Rattle.text.proofs.put_word.Goals as goal

pub loop-j-preserved : goal.loop-j-preserved
loop-j-preserved c = rw add-one (as_text (sym (take-suc c.args.word.now c.loop-j.j 0 c.loop-j-test.true)) (and_then c.loop-j.invariant (record { next = omega arith; left = refl })))

pub returns : goal.returns
returns c = record { next = refl; left = c.loop-j.invariant.left ∙ ap (sets c.args.out.now c.args.at) (take_all c.loop-j.j c.args.word.now (omega arith)) }
