use mathlib.Core.Path.{ap}
use Rattle.text.specs.Text.{decimal}
use Rattle.text.proofs.Text.{and_then, as_text}
use Rattle.listing.specs.Lines.{bad_line}
use Rattle.listing.proofs.put_bad.Goals as goal

pub returns : goal.returns
unfolding bad_line
returns c =
    and_then (and_then (and_then (and_then c.put_word-first.ensures (as_text (ap decimal c.from.ensures) c.put_decimal-space.ensures)) c.put_byte-second.ensures) c.put_decimal-end.ensures) c.put_byte.ensures
