-- What can be said of reading. Which bytes a call of C reads, how many, and whether it fails, no contract can say.
use Rattle.std.specs.Prelude.{ℕ, ◌≤◌, List, length, Option, Some, None, Result, Ok, Err}

-- Bytes that were read end within the buffer.
abbrev pub EndsWithin : List ℕ → Option ℕ → Type 0
EndsWithin buffer (Some n) = n ≤ length buffer
EndsWithin buffer None = Unit {0}

-- So do all that stand there, whether or not a read failed.
abbrev pub FillsWithin : List ℕ → Result ℕ ℕ → Type 0
FillsWithin buffer (Ok n) = n ≤ length buffer
FillsWithin buffer (Err n) = n ≤ length buffer
