-- What the words of a command line ask for, whatever their order.
use mathlib.Core.Path.{◌∙◌, ◌≡◌, ap, refl, subst, sym}
use mathlib.Core.Logic.{◌↔◌}
use mathlib.Core.List.Memᴰ
use mathlib.Core.List.{List, Memᴰ, [], ◌∷◌}
use mathlib.Core.Bool.{Bool, ◌||◌, false, true}
use Prim.Native.Nat.{◌+◌, ◌-◌, ◌<◌, ◌≤◌, suc, zero, ℕ}
use native.Mathlib.Omega.{arith}
use lib.Dec.{T, T_not}
use lib.ListN.{get_or, length, length-append}
use Rattle.std.specs.Prelude.{Result, Ok, Err, IsOk}
use Rattle.std.proofs.lemmas.Slice.Eq.{bytes_eq-Decides}
use Rattle.lists.proofs.Meanings.{says_also}
use Rattle.lists.proofs.Members.{any_of_in, any_of_out, first_or_later, get_d_mem}
use Rattle.lists.proofs.Tests.{F→eq, Said, T→eq, decides_once, fails, holds, said}
use Rattle.lists.specs.Lists.{any_of}
use Rattle.lists.specs.Tests.{Decides}
use Rattle.text.specs.Text.{Wrote, bytes}
use Rattle.text.proofs.Text.{length_decimal, same_long}
use Rattle.words.specs.declared.Program.{Program}
use Rattle.words.specs.declared.Program.TheVariants.{Judge, Inspect}
use Rattle.words.specs.declared.Unknown.{Unknown}
use Rattle.words.specs.declared.Words.{Words}
use Rattle.words.specs.Words.{Asks, WordsAsk, KnownFit, SameWordsAskAlike, asked_by, is_numbers, known, most_unknown, unknown_line, with_word, words_from}

-- ---- the word `numbers`

is_word : (w : List ℕ) → T (is_numbers w) → w ≡ bytes "numbers"
is_word w t = (bytes_eq-Decides w (bytes "numbers")).0 (T→eq (is_numbers w) t)

pub known_fit : KnownFit
known_fit Judge w t = absurd t
known_fit Inspect w t = let e = ap length (is_word w t) in (omega (arith, e), omega (arith, e))

-- ---- one word more

abbrev pub asked : Bool → Result Words Unknown
asked b = Ok (record { numbers = b })

abbrev pub first_at : ℕ → Bool → Unknown
first_at k b = record { position = k; numbers = b }

module _ (p : Program) where
  -- Where no word before was unknown
  known_more : (b : Bool) (k : ℕ) (w : List ℕ) → T (known p w) → with_word p (asked b) k w ≡ asked (b || is_numbers w)
  known_more b k w t = simp (T→eq (known p w) t)

  unknown_more : (b : Bool) (k : ℕ) (w : List ℕ) → known p w ≡ false → with_word p (asked b) k w ≡ Err (first_at k b)
  unknown_more b k w e = simp e

  -- After an unknown word the others are not looked at.
  stays : (u : Unknown) (k : ℕ) (ws : List (List ℕ)) → words_from p (Err u) k ws ≡ Err u
  stays u k [] = refl
  stays u k (w ∷ ws) = stays u (k + 1) ws

  -- Words one after the other, where none before was unknown: all are known, or one is the first that is not.
  data Ended (b : Bool) (k : ℕ) (ws : List (List ℕ)) (q : Result Words Unknown) : Type 0 where
    all : ((w : List ℕ) → Memᴰ w ws → T (known p w)) → q ≡ asked (b || any_of is_numbers ws) → Ended b k ws q
    first : (i : ℕ) → i < length ws → ¬ T (known p (get_or ws i [])) → ((j : ℕ) → j < i → T (known p (get_or ws j []))) → (c : Bool) → q ≡ Err (first_at (k + i) c) → Ended b k ws q

  or_more : (b c d : Bool) → (b || c) || d ≡ b || (c || d)
  or_more true c d = refl
  or_more false c d = refl

  ended : (b : Bool) (k : ℕ) (ws : List (List ℕ)) → Ended b k ws (words_from p (asked b) k ws)
  ended b k [] = all (λ w m. absurd (Memᴰ.not-nil m)) (or-none b)
    where
      or-none : (b : Bool) → asked b ≡ asked (b || false)
      or-none true = refl
      or-none false = refl
  ended b k (w ∷ ws) = go (said (known p w)) (ended (b || is_numbers w) (k + 1) ws)
    where
      more : Result Words Unknown → Result Words Unknown
      more q = words_from p q (k + 1) ws

      go : Said (known p w) → Ended (b || is_numbers w) (k + 1) ws (more (asked (b || is_numbers w))) → Ended b k (w ∷ ws) (more (with_word p (asked b) k w))
      go (fails t) r =
          let e : more (with_word p (asked b) k w) ≡ Err (first_at k b) = ap more (unknown_more b k w (F→eq (known p w) t)) ∙ stays (first_at k b) (k + 1) ws in
          first 0 (omega arith) (T_not (known p w) t) (λ j i. absurd (omega arith)) b (grind (e, arith))
      go (holds t) (all f e) =
          all (λ v m. first_or_later m (λ q. rw q t) (f v)) (ap more (known_more b k w t) ∙ e ∙ ap asked (or_more b (is_numbers w) (any_of is_numbers ws)))
      go (holds t) (first i l n f c e) = first (suc i) (omega arith) n before c (grind (e, known_more b k w t, arith))
        where
          before : (j : ℕ) → j < suc i → T (known p (get_or (w ∷ ws) j []))
          before zero g = t
          before (suc j) g = f j (omega arith)

-- ---- all words

pub words_ask : WordsAsk
words_ask p ws = go (asked_by p ws) (ended p false 1 ws)
  where
    member : T (any_of is_numbers ws) → Memᴰ (bytes "numbers") ws
    member t = let (w, m, e) = any_of_out is_numbers ws t in rw (sym (is_word w e)) m

    go : (q : Result Words Unknown) → Ended p false 1 ws q → Asks p ws q
    go q (all f e) = record {
      all_known = (λ z. f, λ g. simp e);
      numbers = λ a h.
          let u : a.numbers ≡ any_of is_numbers ws = grind (arith, h, e) in
          rw u (member, λ m. any_of_in is_numbers ws m tt);
      first_unknown = λ v h. absurd (grind (arith, h, e));
    }
    go q (first i l n f c e) = record {
      all_known = (λ z. absurd (grind (arith, z, e)), λ g. absurd (n (g (get_or ws i []) (get_d_mem ws i [] l))));
      numbers = λ a h. absurd (grind (arith, h, e));
      first_unknown = λ v h.
          let u : v.position ≡ 1 + i = grind (arith, h, e) in
          (omega (arith, u), omega (arith, u), subst (λ (j : ℕ). ¬ T (known p (get_or ws j []))) (omega (arith, u)) n, λ j a b. f (j - 1) (omega (arith, u)));
    }

decides : {P : Type 0} (b : Bool) → T b ↔ P → Decides P b
decides true h = h.0 tt
decides false h = h.1

pub same_words_ask_alike : SameWordsAskAlike
same_words_ask_alike p vs ws same z = alike (asked_by p vs) (asked_by p ws) (words_ask p vs) (words_ask p ws) z
  where
    alike : (q r : Result Words Unknown) → Asks p vs q → Asks p ws r → IsOk q → q ≡ r
    alike (Ok a) (Ok b) A B z =
        ap asked (decides_once (Memᴰ (bytes "numbers") ws) a.numbers b.numbers
        (decides a.numbers (says_also (A.numbers a refl) (same (bytes "numbers")).0 (same (bytes "numbers")).1)) (decides b.numbers (B.numbers b refl)))
    alike (Ok a) (Err u) A B z = absurd (grind (arith, B.all_known.1 (λ w m. A.all_known.0 z w ((same w).1 m))))
    alike (Err u) r A B z = absurd (grind (arith, z))

-- ---- the line that names an unknown word

length_unknown : (k : ℕ) → k < 18446744073709551616 → length (unknown_line k) ≤ most_unknown
unfolding unknown_line
length_unknown k h = simp length-append (omega (arith, length_decimal 19 k (omega arith)))

-- It ends within the buffer.
pub unknown_within : {d d' : List ℕ} {r : ℕ} (k : ℕ) → k < 18446744073709551616 → most_unknown ≤ length d → Wrote d 0 (unknown_line k) d' r → r ≤ length d'
unknown_within k h room w = omega (arith, w.next, same_long w, length_unknown k h)
