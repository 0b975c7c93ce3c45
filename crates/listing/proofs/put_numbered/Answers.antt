use Rattle.text.proofs.Text.{and_then, as_text}
use Rattle.listing.proofs.put_numbered.Goals as goal

pub returns : goal.returns
returns c = and_then (and_then c.put_decimal-space.ensures c.put_byte-name.ensures) (as_text c.name_of.ensures c.put_word.ensures)
