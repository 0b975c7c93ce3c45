-- The most bytes that each text has, from the paper's limits, and what a writer promises.
use Rattle.std.specs.Borrow.{MutBor}
use Rattle.std.specs.Prelude.{◌≡◌, List, ℕ, ◌+◌, ◌*◌, ◌≤◌, ◌<◌, length, get_or}
use Rattle.basis.specs.Limits.{most_atoms, most_literals, most_arguments}
use Rattle.text.specs.Text.{Wrote}

-- A byte has three digits.
abbrev pub most_number : ℕ
most_number = 3

-- c has a sign and ten digits: any number of 32 bits, wider than the paper's range.
abbrev pub most_signed : ℕ
most_signed = 11

-- `255-255<=-2147483648`
abbrev pub most_atom : ℕ
most_atom = most_number + 1 + most_number + 2 + most_signed

-- n numbers, each with a comma, in brackets
abbrev pub most_tuple : ℕ → ℕ
most_tuple n = 2 + n * (1 + most_number)

-- `~P255(255,255,255)`
abbrev pub most_literal : ℕ
most_literal = 2 + most_number + most_tuple most_arguments

-- `255 [..] ..`: each atom and each literal with a space before it
abbrev pub most_clause_text : ℕ
most_clause_text = most_number + 2 + most_atoms * (1 + most_atom) + 1 + most_literals * (1 + most_literal)

-- A writer left the text w in the buffer d from i on, all other bytes as they were, and w has at most so many bytes.
pub record Put (most : ℕ) (d : List ℕ) (i : ℕ) (w d' : List ℕ) (r : ℕ) : Type 0 where
  pub wrote : Wrote d i w d' r
  pub room : r ≤ i + most

-- The buffer and the place are unique. Proved in proofs/Turns.antt.
abbrev pub PutOnce : Type 0
PutOnce = (most : ℕ) (d : List ℕ) (i : ℕ) (w d₁ d₂ : List ℕ) (r₁ r₂ : ℕ) → Put most d i w d₁ r₁ → Put most d i w d₂ r₂ → (d₁ ≡ d₂) × (r₁ ≡ r₂)

-- How the elements of a list are written: each as the text of its number, from 0 on, and itself, which has at most so many bytes
pub record Each (A : Type 0) : Type 0 where
  pub most : ℕ
  pub text : ℕ → A → List ℕ

-- What `put_each` asks of the function that it calls, of which `may` says when a call may be made and `does` what it leaves: with room for the most bytes
-- from i on, a call for x, the element number j of xs, may be made, and leaves its text.
abbrev pub PutsEach : {A : Type 0} → (may : MutBor (List ℕ) → ℕ → ℕ → A → Type 0) (does : MutBor (List ℕ) → ℕ → ℕ → A → ℕ → MutBor (List ℕ) → Type 0) → Each A → List A → Type 0
PutsEach {A} may does each xs = (d : MutBor (List ℕ)) (i j : ℕ) (x : A) → j < length xs → x ≡ get_or xs j x → i + each.most ≤ length d.now
    → may d i j x × ((d' : MutBor (List ℕ)) (r : ℕ) → does d i j x r d' → Put each.most d.now i (each.text j x) d'.now r)
