-- The number that bytes make.
use Rattle.std.proofs.Common.{◌≡◌, List, [], ◌∷◌, ℕ, ◌+◌, ◌*◌, ◌<◌, ◌≤◌, ◌^◌, suc, arith, length, get_or}
use native.Mathlib.Nat.{pow-le-pow_right, pow-suc}
use Rattle.runfile.specs.File.{little_endian}

pub of_one : (b : List ℕ) → length b ≡ 1 → get_or b 0 0 ≡ little_endian b
of_one [] h = omega arith
of_one (x ∷ []) h = omega arith
of_one (x ∷ y ∷ b) h = omega arith

pub word_small : (j v b : ℕ) → v < 256 ^ j → b < 256 → b + 256 * v < 256 ^ (j + 1)
word_small j v b l q = let a : j + 1 ≡ suc j = omega arith in rw a (omega (arith, pow-suc 256 j))

-- Beside three bytes there is room for a fourth.
pub word_fits : (m v : ℕ) → m ≤ 3 → v < 256 ^ m → v < 16777216
word_fits m v h k = omega (arith, pow-le-pow_right {n = 256} (omega arith) {i = m} {j = 3} h)
