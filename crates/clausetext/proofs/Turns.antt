-- Texts written one after the other, and the loop over a list that writes each element's text in turn.
use mathlib.Core.Path.{◌≡◌, sym, ap, ◌∙◌}
use mathlib.Core.List.{List, [], ◌∷◌, ◌++◌, append_assoc, append-nil}
use Prim.Native.Nat.{ℕ, suc, ◌+◌, ◌*◌, ◌≤◌, ◌<◌}
use native.Mathlib.Nat.{add-zero, add-suc, suc-add, zero-add, add-mul, one-mul, mul-le-mul_right}
use native.Mathlib.Omega.{arith}
use lib.ListN.{length, take, get_or}
use lib.Seq.{length-take-le, take_all}
use Rattle.lists.proofs.Walks.{take_more}
use Rattle.text.specs.Text.{Wrote}
use Rattle.text.proofs.Text.{and_then, as_text, same_long, wrote_once}
use Rattle.clausetext.specs.ClauseText.{in_turn}
use Rattle.clausetext.specs.Room.{Each, Put, PutOnce}

module _ {A : Type 0} (f : ℕ → A → List ℕ) where
  turn_last : (n : ℕ) (xs : List A) (x : A) → in_turn n f (xs ++ (x ∷ [])) ≡ in_turn n f xs ++ f (n + length xs) x
  turn_last n [] x = append-nil (f n x) ∙ ap (λ (k : ℕ). f k x) (sym (add-zero n))
  turn_last n (y ∷ xs) x =
      ap (λ (w : List ℕ). f n y ++ w) (turn_last (suc n) xs x ∙ ap (λ (k : ℕ). in_turn (suc n) f xs ++ f k x) (suc-add n (length xs) ∙ sym (add-suc n (length xs))))
      ∙ sym (append_assoc (f n y) (in_turn (suc n) f xs) (f (n + suc (length xs)) x))

  -- One element more
  turn_more : (xs : List A) (j : ℕ) (x : A) → j < length xs → x ≡ get_or xs j x → in_turn 0 f (take (j + 1) xs) ≡ in_turn 0 f (take j xs) ++ f j x
  turn_more xs j x h e =
      ap (in_turn 0 f) (take_more xs j x h ∙ ap (λ (y : A). take j xs ++ (y ∷ [])) (sym e)) ∙ turn_last 0 (take j xs) x
      ∙ ap (λ (k : ℕ). in_turn 0 f (take j xs) ++ f k x) (zero-add (length (take j xs)) ∙ length-take-le j xs (omega arith))

-- ---- writers

-- The invariant of the loop that writes each element of xs: after j of them
pub record Turned {A : Type 0} (each : Each A) (xs : List A) (j : ℕ) (d : List ℕ) (i : ℕ) (d' : List ℕ) (r : ℕ) : Type 0 where
  pub wrote : Wrote d i (in_turn 0 each.text (take j xs)) d' r
  pub room : r ≤ i + j * each.most

module _ {A : Type 0} {each : Each A} {j i r : ℕ} {xs : List A} {d d₁ : List ℕ} (t : Turned each xs j d i d₁ r) where
  -- There is room for the next element.
  pub room_next : j < length xs → i + length xs * each.most ≤ length d → r + each.most ≤ length d₁
  room_next h k = omega (arith, k, t.room, same_long t.wrote, mul-le-mul_right {m = j + 1} {n = length xs} each.most (omega (arith, h)), add-mul j 1 each.most, one-mul each.most)

  -- A turn: the text of the next element
  pub turned_more : {x : A} {d₂ : List ℕ} {r₂ : ℕ} → j < length xs → x ≡ get_or xs j x → Put each.most d₁ r (each.text j x) d₂ r₂ → Turned each xs (j + 1) d i d₂ r₂
  turned_more {x = x} h e b = record {
    wrote = as_text (sym (turn_more each.text xs j x h e)) (and_then t.wrote b.wrote);
    room = omega (arith, t.room, b.room, add-mul j 1 each.most, one-mul each.most);
  }

  -- After the last turn
  pub turned_all : j ≡ length xs → Put (length xs * each.most) d i (in_turn 0 each.text xs) d₁ r
  turned_all e = record {
    wrote = as_text (ap (in_turn 0 each.text) (take_all j xs (omega arith))) t.wrote;
    room = omega (arith, t.room, ap (λ (k : ℕ). k * each.most) e);
  }

-- ---- what a writer leaves is unique

pub put_once : PutOnce
put_once most d i w d₁ d₂ r₁ r₂ a b = wrote_once d i w d₁ d₂ r₁ r₂ a.wrote b.wrote
