-- What the words of a command line ask for. They come in any order, and one given twice counts once. Where one is none of the program's, the
-- program prints one line, `unknown word` and the position of the first such, from 1, and judges nothing. `numbers` is a word of `inspect` alone.
use Rattle.std.specs.Prelude.{◌≡◌, ◌↔◌, Bool, false, ◌||◌, cond, Result, Ok, Err, IsOk, ℕ, ◌+◌, ◌-◌, ◌≤◌, ◌<◌, T, get_or, length}
use mathlib.Core.List.{List, Memᴰ, [], ◌∷◌, ◌++◌}
use Rattle.std.specs.Str.{bytes_eq}
use Rattle.text.specs.Text.{bytes, decimal}
use Rattle.words.specs.declared.Program.{Program}
use Rattle.words.specs.declared.Program.TheVariants.{Judge, Inspect}
use Rattle.words.specs.declared.Unknown.{Unknown}
use Rattle.words.specs.declared.Words.{Words}

-- The word `numbers`
abbrev pub is_numbers : List ℕ → Bool
is_numbers w = bytes_eq w (bytes "numbers")

-- The words of each program
abbrev pub known : Program → List ℕ → Bool
known Judge w = false
known Inspect w = is_numbers w

-- A known word has at least one byte and at most these: it makes no difference that an empty word is taken for one that is longer. Proved in
-- proofs/Asked.antt.
abbrev pub most_word : ℕ
most_word = 7

abbrev pub KnownFit : Type 0
KnownFit = (p : Program) (w : List ℕ) → T (known p w) → (1 ≤ length w) × (length w ≤ most_word)

-- Before the first word
abbrev pub no_words : Result Words Unknown
no_words = Ok (record { numbers = false })

-- One word more, at its position: a known one asks for what it says, and of the first unknown one the position is noted, and whether `numbers`
-- was asked for before it. After that nothing is.
abbrev pub with_word : Program → Result Words Unknown → (position : ℕ) → List ℕ → Result Words Unknown
with_word p (Ok q) k w = cond (known p w) (Ok (record { numbers = q.numbers || is_numbers w })) (Err (record { position = k; numbers = q.numbers }))
with_word p (Err u) k w = Err u

-- Words one after the other, the first of them at position k
abbrev pub words_from : Program → Result Words Unknown → (position : ℕ) → List (List ℕ) → Result Words Unknown
words_from p q k [] = q
words_from p q k (w ∷ ws) = words_from p (with_word p q k w) (k + 1) ws

-- What the words of a command line ask for
abbrev pub asked_by : Program → List (List ℕ) → Result Words Unknown
asked_by p ws = words_from p no_words 1 ws

-- All are known, and numbers are asked for exactly if the word is among them, wherever and how often; or the first unknown one is at that position.
pub record Asks (p : Program) (ws : List (List ℕ)) (q : Result Words Unknown) : Type 0 where
  pub all_known : IsOk q ↔ ((w : List ℕ) → Memᴰ w ws → T (known p w))
  pub numbers : (a : Words) → q ≡ Ok a → T a.numbers ↔ Memᴰ (bytes "numbers") ws
  pub first_unknown : (u : Unknown) → q ≡ Err u
      → (1 ≤ u.position) × (u.position ≤ length ws) × (¬ T (known p (get_or ws (u.position - 1) []))) × ((i : ℕ) → 1 ≤ i → i < u.position → T (known p (get_or ws (i - 1) [])))

-- Proved in proofs/Asked.antt, as is what follows: the same words, in any order and as often as one likes, ask for the same.
abbrev pub WordsAsk : Type 0
WordsAsk = (p : Program) (ws : List (List ℕ)) → Asks p ws (asked_by p ws)

abbrev pub SameWordsAskAlike : Type 0
SameWordsAskAlike = (p : Program) (vs ws : List (List ℕ)) → ((w : List ℕ) → Memᴰ w vs ↔ Memᴰ w ws) → IsOk (asked_by p vs) → asked_by p vs ≡ asked_by p ws

-- The line that names an unknown word
unfoldable pub unknown_line : (position : ℕ) → List ℕ
unknown_line k = bytes "unknown word " ++ decimal k ++ bytes "\n"

-- A position is a machine number and has at most 20 digits.
abbrev pub most_unknown : ℕ
most_unknown = 13 + 20 + 1
