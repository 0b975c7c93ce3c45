use mathlib.Core.Path.{ap}
use Rattle.text.specs.Text.{decimal}
use Rattle.text.proofs.Text.{and_then, as_text}
use Rattle.listing.specs.Lines.{accepted_line}
use Rattle.listing.proofs.put_accepted.Goals as goal

pub returns : goal.returns
unfolding accepted_line
returns c =
    let trail = as_text (ap decimal c.from.ensures) c.put_decimal-second.ensures in
    let level = as_text (ap decimal c.from-2.ensures) c.put_decimal-end.ensures in
    and_then (and_then (and_then (and_then (and_then c.put_numbered-first.ensures c.put_byte-length.ensures) trail) c.put_byte-k.ensures) level) c.put_byte.ensures
