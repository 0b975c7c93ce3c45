-- Counts held to the room that there is: how many elements are counted.
use mathlib.Core.Path.{◌∙◌, ◌≡◌, ap, sym}
use mathlib.Core.List.{List}
use Prim.Native.Nat.{ℕ}
use native.Mathlib.Omega.{arith}
use lib.ListN.{length, take}
use lib.Seq.{length-take-le}
use Rattle.clauses.specs.Counts.{Counts, CountsOnce}

counted_length : {A : Type 0} {l : List A} {most n r : ℕ} → Counts l most n r → length (take n l) ≡ r
counted_length {l = l} {r = r} C = ap length (sym C.same) ∙ length-take-le r l (omega (arith, C.few, C.long))

pub counts_once : CountsOnce
counts_once A l most n r q C D = sym (counted_length C) ∙ counted_length D
