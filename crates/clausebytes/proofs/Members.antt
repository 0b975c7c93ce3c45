-- The loop over the members of a list, such as a clause's atoms or literals, that writes each.
use Rattle.std.proofs.Common.{sym, ap, List, ℕ, ◌+◌, ◌≤◌, ◌<◌, arith, length, length-append, take, get_or}
use Rattle.std.proofs.lemmas.List.{take_all}
use Rattle.text.specs.Text.{Wrote}
use Rattle.text.proofs.Text.{and_then, as_text, same_long}
use Rattle.runfile.specs.Written.{joined}
use Rattle.runfile.proofs.Joined.{joined_more, joined_within}

-- After j of them
module _ {A : Type 0} (w : A → List ℕ) (xs : List A) (j : ℕ) {i r : ℕ} {d d₁ : List ℕ} (t : Wrote d i (joined w (take j xs)) d₁ r) where
  module _ (z : A) (h : j < length xs) where
    -- Where there is room for all, there is room for the next.
    pub room_for : i + length (joined w xs) ≤ length d → r + length (w (get_or xs j z)) ≤ length d₁
    room_for room =
        omega (
          arith,
          same_long t,
          t.next,
          ap length (joined_more w xs j z h),
          length-append (joined w (take j xs)) (w (get_or xs j z)),
          joined_within w (j + 1) (length xs) xs (omega arith),
          ap (λ (l : List A). length (joined w l)) (take_all (length xs) xs (omega arith)),
        )

    -- A turn
    pub one_more : {d₂ : List ℕ} {r₂ : ℕ} → Wrote d₁ r (w (get_or xs j z)) d₂ r₂ → Wrote d i (joined w (take (j + 1) xs)) d₂ r₂
    one_more b = as_text (sym (joined_more w xs j z h)) (and_then t b)

  -- After the last turn
  pub all_written : length xs ≤ j → Wrote d i (joined w xs) d₁ r
  all_written h = as_text (ap (joined w) (take_all j xs h)) t
