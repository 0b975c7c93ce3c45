-- A file is too long or read whole, by its length alone.
use mathlib.Core.Path.{◌∙◌, ◌≡◌, ap, refl, sym}
use mathlib.Core.Bool.{Bool, false, true}
use Prim.Native.Nat.{◌≤◌}
use native.Mathlib.Omega.{arith}
use lib.Dec.{leb}
use lib.ListN.{length, length-take, take}
use lib.Seq.{take_all}
use borrow.Author.Tests.{leb-false, leb-true, lt-leb}
use Rattle.runfile.specs.Claims.{FirstBytesTell, GoodFilesShort, LongFilesRefused}
use Rattle.runfile.specs.File.{file, most_file}
use Rattle.runfile.proofs.Given.{no_value}

pub long_files_refused : LongFilesRefused
unfolding file
long_files_refused s h = rw (lt-leb (length s) most_file h)

pub good_files_short : GoodFilesShort
good_files_short s F next e = by (leb (length s) most_file) refl
  where
    by : (b : Bool) → leb (length s) most_file ≡ b → length s ≤ most_file
    by true q = leb-true (length s) most_file q
    by false q = no_value (sym (long_files_refused s (leb-false (length s) most_file q)) ∙ e)

-- The first N bytes are all of a file that has no more, and too many of one that has.
pub first_bytes_tell : FirstBytesTell
first_bytes_tell N h s = by (leb (length s) N) refl
  where
    by : (b : Bool) → leb (length s) N ≡ b → file (take N s) ≡ file s
    by true q = ap file (take_all N s (leb-true (length s) N q))
    by false q =
        let z = leb-false (length s) N q in
        long_files_refused (take N s) (omega (arith, length-take N s)) ∙ sym (long_files_refused s (omega arith))
