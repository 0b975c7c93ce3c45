-- Text as a list of bytes.
use Rattle.std.specs.Prelude.{◌≡◌, List, [], ◌∷◌, ◌++◌, cond, ℕ, zero, suc, ◌+◌, ◌/◌, ◌%◌, ltb, ℤ, pos, negsuc, length}
use Prim.Native.Char.{code}
use Prim.Native.String.{String}
use Prim.Native.String as string
use Rattle.std.proofs.lemmas.List.Edits.{sets}

-- The bytes of a quoted text
abbrev pub bytes : String → List ℕ
bytes string.[] = []
bytes (string.◌∷◌ c s) = code c ∷ bytes s

-- A digit from 0 to 9
abbrev pub digit : ℕ → ℕ
digit n = 48 + n

-- A number in decimal digits, at most f + 1 of them
abbrev pub decimal_in : ℕ → ℕ → List ℕ
decimal_in zero n = digit n ∷ []
decimal_in (suc f) n = cond (ltb n 10) (digit n ∷ []) (decimal_in f (n / 10) ++ (digit (n % 10) ∷ []))

-- A number in decimal digits, without a zero in front; n has at most n + 1 of them.
unfoldable pub decimal : ℕ → List ℕ
decimal n = decimal_in n n

-- A whole number in decimal digits, with a minus sign before one below zero
abbrev pub signed_text : ℤ → List ℕ
signed_text (pos n) = decimal n
signed_text (negsuc n) = bytes "-" ++ decimal (suc n)

-- What a writer leaves of the buffer d: the bytes w from i on, all others as they were. It answers the place after them.
pub record Wrote (d : List ℕ) (i : ℕ) (w d' : List ℕ) (r : ℕ) : Type 0 where
  pub next : r ≡ i + length w
  pub left : d' ≡ sets d i w

-- The buffer and the place are unique. Proved in proofs/Text.antt.
abbrev pub WroteOnce : Type 0
WroteOnce = (d : List ℕ) (i : ℕ) (w d₁ d₂ : List ℕ) (r₁ r₂ : ℕ) → Wrote d i w d₁ r₁ → Wrote d i w d₂ r₂ → (d₁ ≡ d₂) × (r₁ ≡ r₂)
