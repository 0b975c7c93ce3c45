-- Neither the literal nor its complement is on the trail: no entry is about it.
use mathlib.Core.Path.{◌∙◌, ap, sym}
use mathlib.Core.Bool.{not}
use Rattle.trail.specs.Answers.{is_about}
use Rattle.trail.specs.Entries.{entries_of}
use Rattle.trail.proofs.Walks.{any_of_entries, either_on}
use Rattle.trail.proofs.undefined.Goals as goal

pub returns : goal.returns
returns c =
    let es = c.args.trail.now in
    let l = c.args.l in
    ap not (c.is_defined.ensures ∙ sym (any_of_entries (is_about l) es) ∙ sym (either_on l (entries_of es)))
