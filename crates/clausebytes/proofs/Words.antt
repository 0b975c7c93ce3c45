-- Two's complement of a number of 32 bits, byte by byte.
use Rattle.std.proofs.Common.{◌≡◌, ◌∙◌, ap, ℕ, suc, ◌-◌, ◌/◌, ◌^◌, arith}
use Rattle.std.specs.Int.{w32, cast_unsigned, to_le_bytes}
use lib.IntN.{ℤ, pos, negsuc}
use Rattle.runfile.specs.Written.{bytes_of, unsigned}

four : (n : ℕ) → to_le_bytes w32 n ≡ bytes_of 4 n
four n =
    let b : n / 256 ^ 2 ≡ n / 256 / 256 = omega arith in
    let c : n / 256 ^ 3 ≡ n / 256 / 256 / 256 = omega arith in
    rw (b, c)

pub word_is : (n : ℤ) → to_le_bytes w32 (cast_unsigned w32 n) ≡ bytes_of 4 (unsigned n)
word_is (pos n) = four n
word_is (negsuc n) = let e : 4294967296 - suc n ≡ 4294967295 - n = omega arith in four (4294967296 - suc n) ∙ ap (bytes_of 4) e
