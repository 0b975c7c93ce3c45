-- The digits of the tenth, and one more
use Rattle.std.proofs.Common.{ℕ, [], ◌∷◌, ◌++◌, ◌/◌, ◌∙◌, sym, ap}
use Rattle.text.specs.Text.{decimal}
use Rattle.text.proofs.Text.{and_then, as_text, decimal_more}
use Rattle.text.proofs.+put_decimal.Goals as goal

pub returns : goal.returns
returns t c =
    as_text (ap (λ (b : ℕ). decimal (c.args.n / 10) ++ (b ∷ [])) c.digit-2.ensures ∙ sym (decimal_more c.args.n c.if-n-lt10.false))
    (and_then c.put_decimal-next.ensures c.put_byte-2.ensures)
