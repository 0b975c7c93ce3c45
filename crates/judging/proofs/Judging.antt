-- What was written is the file's text; and the answer is unique.
use mathlib.Core.Bool.{Bool, true, false}
use mathlib.Core.Path.{◌≡◌, refl, sym, ap, ◌∙◌}
use mathlib.Core.List.{List, ◌++◌}
use Prim.Native.Nat.{ℕ, ◌≤◌, ◌<◌}
use native.Mathlib.Omega.{arith}
use lib.ListN.{length, drop, length-append}
use Rattle.basis.specs.Numbers.{whole}
use Rattle.calculus.specs.Rules.{Answer}
use Rattle.calculus.specs.Runs.{plain}
use Rattle.calculus.proofs.Answers.{answer_unique}
use Rattle.runfile.specs.Readers.{bad}
use Rattle.steps.specs.Records.{file_answer}
use Rattle.steps.proofs.Files.{refused_file}
use Rattle.text.specs.Text.{Wrote}
use Rattle.text.proofs.Text.{at_front}
use Rattle.listing.specs.Lines.{bad_line, last_line, most_bad}
use Rattle.listing.specs.Listing.{Beneath, Ends, Printed, bad_file, most_listing, nothing, with_file}
use Rattle.listing.proofs.Lines.{length_bad}
use Rattle.listing.proofs.Once.{ends_once, nothing_once, printed_once}
use Rattle.trying.specs.Running.{Prints}
use Rattle.trying.specs.Texts.{beneath, ending, inspected, most_inspection, most_text, numbers_beneath}
use Rattle.trying.specs.declared.Ended.{Ended}
use Rattle.trying.proofs.Numbers.{beneath_once}
use Rattle.trying.proofs.Once.{prints_ends, prints_text}
use Rattle.judging.specs.Judging.{Leaves, LeavesOnce, Lists, ListsOnce, Shows, ShowsNumbers, ShowsNumbersOnce, ShowsOnce, WrittenWithin, most_with_numbers}
use Rattle.judging.specs.declared.Written.{Written}
use Rattle.judging.specs.declared.Written.TheVariants.{Bytes, Short}

-- ---- what was written

module _ (numbered : Bool) {after : Answer → List ℕ} {most : ℕ} {s d d' : List ℕ} {n k p : ℕ} (room : most ≤ length d) where
  -- A text written from the first byte on
  leaves_text : {w : List ℕ} → Ends (plain whole) s k p → Printed (plain whole) (beneath numbered) after s w → length w ≤ most → Wrote d 0 w d' n → Leaves (plain whole) (beneath numbered) after most s d d' (Bytes n k p)
  leaves_text {w} e q h a = let f = at_front (omega arith) a in (room, e, (w, q, f.0, f.1))

  -- The refusal
  pub leaves_bad : bad k p ≡ file_answer s → k < 256 → p < 18446744073709551616 → most_bad ≤ most
      → Wrote d 0 (bad_line k p) d' n → Leaves (plain whole) (beneath numbered) after most s d d' (Bytes n k p)
  leaves_bad e small low m a =
      let is = refused_file s k p e in leaves_text (with_file k p is) (bad_file k p is) (omega (arith, length_bad k p small low)) a

-- .. which fits every text's room
pub bad_fits : (numbered shown : Bool) → most_bad ≤ most_text numbered shown
bad_fits numbered true = omega arith
bad_fits numbered false = omega arith

-- The steps' lines and what comes after them
pub leaves_run : {numbered shown : Bool} {s d d' : List ℕ} {r : Ended} → most_text numbered shown ≤ length d → Prints numbered shown s d d' r
    → Leaves (plain whole) (beneath numbered) (ending shown) (most_text numbered shown) s d d' (Bytes r.count r.number r.place)
leaves_run {numbered} room P = leaves_text numbered room (prints_ends P) (prints_text P) (omega (arith, P.short, P.wrote.next)) P.wrote

-- What is written ends within the buffer.
within : (B : Beneath (plain whole)) (after : Answer → List ℕ) (most : ℕ) (s d d' : List ℕ) (r : Written) → Leaves (plain whole) B after most s d d' r → WrittenWithin d' r
within B after most s d d' (Bytes n k p) (room, e, (w, a, count, left)) = omega (arith, ap length left, length-append w (drop n d))
within B after most s d d' Short h = tt

pub lists_within : (s d d' : List ℕ) (r : Written) → Lists s d d' r → WrittenWithin d' r
lists_within = within (nothing (plain whole)) last_line most_listing

pub shows_within : (s d d' : List ℕ) (r : Written) → Shows s d d' r → WrittenWithin d' r
shows_within = within (nothing (plain whole)) inspected most_inspection

pub shows_numbers_within : (s d d' : List ℕ) (r : Written) → ShowsNumbers s d d' r → WrittenWithin d' r
shows_numbers_within = within numbers_beneath inspected most_with_numbers

-- ---- the answer is unique

pub leaves_once : LeavesOnce
leaves_once J once B beneath_once after most s d d₁ d₂ (Bytes n k p) (Bytes m l q) (room₁, e, (v, a, count₁, left₁)) (room₂, f, (w, b, count₂, left₂)) =
    let same = printed_once J once B beneath_once after s v w a b in
    let count : n ≡ m = count₁ ∙ ap length same ∙ sym count₂ in
    let (number, place) = ends_once J once s k p l q e f in
    ((λ i. Bytes (count i) (number i) (place i)), left₁ ∙ (λ i. same i ++ drop (count i) d) ∙ sym left₂)
leaves_once J once B beneath_once after most s d d₁ d₂ (Bytes n k p) Short (room, e, u) (short, left) = absurd (omega arith)
leaves_once J once B beneath_once after most s d d₁ d₂ Short (Bytes n k p) (short, left) (room, e, u) = absurd (omega arith)
leaves_once J once B beneath_once after most s d d₁ d₂ Short Short (short₁, left₁) (short₂, left₂) = (refl, left₁ ∙ sym left₂)

pub lists_once : ListsOnce
lists_once = leaves_once (plain whole) (answer_unique whole) (nothing (plain whole)) (nothing_once (plain whole)) last_line most_listing

pub shows_once : ShowsOnce
shows_once = leaves_once (plain whole) (answer_unique whole) (nothing (plain whole)) (nothing_once (plain whole)) inspected most_inspection

pub shows_numbers_once : ShowsNumbersOnce
shows_numbers_once = leaves_once (plain whole) (answer_unique whole) numbers_beneath (beneath_once true) inspected most_with_numbers
