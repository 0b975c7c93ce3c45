-- The numbers behind a yes, as the code has them.
use Rattle.std.specs.Prelude.{List, ℤ, pos}
use Rattle.std.specs.Prelude as std
use Rattle.std.proofs.Math.Option.{Option, none, some}
use Rattle.basis.specs.Limits.{most_constants}
use Rattle.lists.specs.Arrays.{exactly}

-- An array of numbers has a slot for each constant that there can be: "slots past the constants are 0".
abbrev pub packed_numbers : List ℤ → List ℤ
packed_numbers numbers = exactly most_constants (pos 0) numbers

-- Numbers, or none, in such an array
abbrev pub packed_given : Option (List ℤ) → std.Option (List ℤ)
packed_given none = std.None
packed_given (some numbers) = std.Some (packed_numbers numbers)
