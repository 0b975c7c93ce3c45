-- A number has at most 11 bytes.
use native.Mathlib.Omega.{arith}
use Prim.Native.Nat.{◌≤◌}
use lib.ListN.{length, length-take}
use Rattle.text.proofs.Text.{same_long}
use Rattle.text.proofs.Signed.{length_read}
use Rattle.constraint_cases.proofs.print_number.Goals as goal

pub put_signed-end-requires : goal.put_signed-end-requires
put_signed-end-requires c = omega (arith, length_read c.ranges.n)

pub slice_bounds-word-end : goal.slice_bounds-word-end
slice_bounds-word-end c = let w = c.put_signed-end.ensures in omega (arith, w.next, same_long w, length_read c.ranges.n)

pub slice_bounds-write_all-end : goal.slice_bounds-write_all-end
slice_bounds-write_all-end c =
    let w = c.put_signed-end.ensures in
    let within : c.put_signed-end.result ≤ length c.put_signed-end.new.out = omega (arith, w.next, same_long w, length_read c.ranges.n) in
    omega (arith, length-take c.put_signed-end.result c.put_signed-end.new.out)
