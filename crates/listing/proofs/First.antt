-- A file prints what its first bytes print, and ends as they do: it is read alike.
use mathlib.Core.Path.{◌∙◌, ◌≡◌, sym}
use mathlib.Core.List.{List}
use Prim.Native.Nat.{ℕ}
use lib.ListN.{take}
use native.Mathlib.Omega.{arith}
use Rattle.calculus.specs.Rules.{Answer}
use Rattle.calculus.specs.Runs.{Judge}
use Rattle.runfile.specs.Claims.{most_read}
use Rattle.runfile.specs.File.{file}
use Rattle.runfile.proofs.Short.{first_bytes_tell}
use Rattle.listing.specs.Claims.{FirstBytesEnd, FirstBytesPrinted}
use Rattle.listing.specs.Listing.{Beneath, Ends, Printed, bad_file, good_file, with_file, with_step}

read_alike : (s : List ℕ) → file (take most_read s) ≡ file s
read_alike s = first_bytes_tell most_read (omega arith) s

module _ (J : Judge) {s t : List ℕ} (same : file t ≡ file s) where
  printed_alike : {B : Beneath J} {after : Answer → List ℕ} {w : List ℕ} → Printed J B after s w → Printed J B after t w
  printed_alike (bad_file n p e) = bad_file n p (same ∙ e)
  printed_alike (good_file F k a e t) = good_file F k a (same ∙ e) t

  ends_alike : {n p : ℕ} → Ends J s n p → Ends J t n p
  ends_alike (with_file n p e) = with_file n p (same ∙ e)
  ends_alike (with_step F k a e t) = with_step F k a (same ∙ e) t

pub first_bytes_printed : FirstBytesPrinted
first_bytes_printed J B after s w = (printed_alike J (read_alike s), printed_alike J (sym (read_alike s)))

pub first_bytes_end : FirstBytesEnd
first_bytes_end J s n p = (ends_alike J (read_alike s), ends_alike J (sym (read_alike s)))
