-- After the last step tried: what comes after the steps' lines, and what all of it is.
use mathlib.Core.Bool.{Bool, true, false, true≢false}
use mathlib.Core.Path.{◌≡◌, ap, sym, ◌∙◌}
use mathlib.Core.List.{List, ◌++◌}
use Prim.Native.Nat.{ℕ, ◌+◌, ◌*◌, ◌≤◌}
use native.Mathlib.Omega.{arith}
use lib.ListN.{length, length-append}
use Rattle.runfile.specs.File.{most_steps}
use Rattle.text.specs.Text.{Wrote}
use Rattle.text.proofs.Text.{and_then, as_text, same_long}
use Rattle.clauses.specs.declared.Clause.{Clause}
use Rattle.rules.specs.declared.Run.{Run}
use Rattle.listing.specs.Lines.{closing, last_line, most_last}
use Rattle.listing.specs.Listing.{most_listing}
use Rattle.listing.specs.Records.{refuted}
use Rattle.listing.proofs.Lines.{closes_as_last, length_closing}
use Rattle.inspection.specs.StateText.{state_text}
use Rattle.inspection.specs.Writing as writing
use Rattle.inspection.specs.Writing.{Recorded, most_state}
use Rattle.trying.specs.Running.{Prints}
use Rattle.trying.specs.Texts.{ending, most_beneath, most_text}
use Rattle.trying.specs.declared.Ended.{Ended}
use Rattle.trying.proofs.Running.{Ran, most_of}

abbrev ended : (n k p : ℕ) → Ended
ended n k p = record { count = n; number = k; place = p }

-- The steps' lines, with what stands beneath them, end where there is room for the last line in every text.
lines_end : (numbered : Bool) {at : ℕ} → at ≤ most_steps * most_of numbered → at + most_last ≤ most_listing + most_steps * most_beneath numbered
lines_end true h = omega arith
lines_end false h = omega arith

-- Run and table are the records of the state that stands.
module _ {numbered : Bool} {s d d₁ : List ℕ} {run : Run} {table : List Clause} {k p at : ℕ} (ran : Ran numbered s d d₁ run table k p at) where
  -- The last line, by what stands
  abbrev closed : List ℕ
  closed = closing (refuted run) k

  last_line_lem : closed ≡ last_line ran.answer
  last_line_lem = (λ i. closing (refuted (ran.run_is i)) (ran.number_is i)) ∙ closes_as_last ran.answer

  last_ends : at + length closed ≤ most_listing + most_steps * most_beneath numbered
  last_ends = omega (arith, lines_end numbered ran.short, length_closing (refuted run) k)

  -- It has room.
  pub last_fits : (shown : Bool) → most_text numbered shown ≤ length d → at + most_last ≤ length d₁
  last_fits true h = omega (arith, lines_end numbered ran.short, same_long ran.wrote)
  last_fits false h = omega (arith, lines_end numbered ran.short, same_long ran.wrote)

  pub recorded : Recorded run table ran.answer.state
  recorded = record { run_of = record { reached = ran.reached; is = ran.run_is }; table_is = ran.table_is }

  -- What comes after the lines was written.
  printed : (shown : Bool) {v d₂ : List ℕ} {n : ℕ} → v ≡ ending shown ran.answer → at + length v ≤ most_text numbered shown → Wrote d₁ at v d₂ n → Prints numbered shown s d d₂ (ended n k p)
  printed shown {v} e h w = record {
    says = ran.says;
    next = ran.next;
    is = ran.is;
    lines = ran.lines;
    answer = ran.answer;
    tried = ran.tried;
    number_is = ran.number_is;
    place_is = ran.place_is;
    wrote = and_then ran.wrote (as_text e w);
    short = omega (arith, w.next);
  }

  module _ {d₂ : List ℕ} {m : ℕ} (w : Wrote d₁ at closed d₂ m) where
    pub state_fits : (b : Bool) → b ≡ true → most_text numbered b ≤ length d → m + most_state ≤ length d₂
    state_fits true e h = omega (arith, w.next, last_ends, same_long w, same_long ran.wrote)
    state_fits false e h = absurd (true≢false (sym e))

    -- The last line alone
    pub listed : (b : Bool) → b ≡ false → Prints numbered b s d d₂ (ended m k p)
    listed true e = absurd (true≢false e)
    listed false e = printed false last_line_lem last_ends w

    -- .. and the final state after it
    pub shown : (b : Bool) → b ≡ true → {d₃ : List ℕ} {n : ℕ} → writing.PutsState run table d₂ m d₃ n → Prints numbered b s d d₃ (ended n k p)
    shown true e u =
        let state = u ran.answer.state recorded in
        printed true (ap (λ (v : List ℕ). v ++ state_text ran.answer.state) last_line_lem)
        (omega (arith, last_ends, length-append closed (state_text ran.answer.state), state.wrote.next, state.room))
        (and_then w state.wrote)
    shown false e u = absurd (true≢false (sym e))
