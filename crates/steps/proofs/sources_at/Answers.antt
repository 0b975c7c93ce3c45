-- `steps::sources_at` meets its contract.
use Rattle.std.proofs.Common.{rules, ◌∙◌, sym}
use Rattle.basis.specs.Limits.{most_brought}
use Rattle.asking.specs.Steps.{no_source}
use Rattle.runfile.specs.File.{source, sources}
use Rattle.steps.specs.Records.{packed_source, source_record}
use Rattle.fields.proofs.Turns.{filled_made}
use Rattle.steps.proofs.sources_at.Goals as goal

pub several-requires : goal.several-requires
several-requires c = (search rules, (search rules, (search rules, (source_record, c.args.s.now, search rules))))

pub returns-in_err-n-clause-reads : goal.returns-in_err-n-clause-reads
unfolding sources
returns-in_err-n-clause-reads c = rw c.if-form.true (search rules)

pub returns-in_ok-n-clause-reads : goal.returns-in_ok-n-clause-reads
unfolding sources
returns-in_ok-n-clause-reads c =
    let own = c.several.ensures.reads source_record c.args.s.now (search rules) in
    let all = rw c.no_source.ensures at own in
    let made = filled_made most_brought no_source source packed_source c.args.s.now c.in_ok-n.n c.in_ok-n.at in
    rw (c.if-form.true, sym c.in_ok-n.ensures.reads) (all ∙ made)

pub returns-else-form-clause-reads : goal.returns-else-form-clause-reads
unfolding sources
returns-else-form-clause-reads c = rw c.if-form.false (search rules)
