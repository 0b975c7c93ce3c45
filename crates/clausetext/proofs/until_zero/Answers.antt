-- As many are taken as stand before the first 0.
use Rattle.std.proofs.Common.{◌∙◌, ap, length, take}
use Rattle.std.specs.Option.{unwrap_or}
use Rattle.clausetext.proofs.Literals.{until_taken}
use Rattle.clausetext.proofs.until_zero.Goals as goal

pub returns : goal.returns
returns c =
    ap (λ n. take n c.args.numbers.now) (c.unwrap_or.ensures ∙ ap (λ r. unwrap_or r (length c.args.numbers.now)) c.zero_at.ensures) ∙ until_taken c.args.numbers.now
