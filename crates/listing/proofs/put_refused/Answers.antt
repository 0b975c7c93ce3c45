use mathlib.Core.Path.{ap}
use Rattle.text.specs.Text.{decimal}
use Rattle.text.proofs.Text.{and_then, as_text}
use Rattle.listing.specs.Lines.{refused_line}
use Rattle.listing.proofs.put_refused.Goals as goal

pub returns : goal.returns
unfolding refused_line
returns c = and_then (and_then (and_then c.put_numbered-word.ensures c.put_word-number.ensures) (as_text (ap decimal c.from.ensures) c.put_decimal-end.ensures)) c.put_byte.ensures
