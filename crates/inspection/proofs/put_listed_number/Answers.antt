-- Two writers, one after the other; the number is read back as it is.
use mathlib.Core.Path.{ap}
use native.Mathlib.Omega.{arith}
use mir.Facts.{to_z-of_z}
use Rattle.text.specs.Text.{signed_text}
use Rattle.text.proofs.Text.{and_then, as_text}
use Rattle.text.proofs.Signed.{length_read}
use Rattle.inspection.proofs.put_listed_number.Goals as goal

pub put_signed-requires : goal.put_signed-requires
put_signed-requires c = omega (arith, length_read {n = c.args.n} c.ranges.n)

pub returns : goal.returns
returns c = record {
  wrote = and_then c.put_byte-number.ensures (as_text (ap signed_text (to_z-of_z c.ranges.n)) c.put_signed.ensures);
  room = omega (arith, length_read {n = c.args.n} c.ranges.n);
}
