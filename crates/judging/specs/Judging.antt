-- What judging a file answers, and what it leaves of a lent buffer: from bytes to bytes.
use Rattle.std.specs.Prelude.{◌≡◌, List, ◌++◌, ℕ, ◌+◌, ◌*◌, ◌≤◌, ◌<◌, length, take, drop}
use Rattle.basis.specs.Numbers.{whole}
use Rattle.calculus.specs.Rules.{Answer}
use Rattle.calculus.specs.Runs.{AnswersOnce, Judge, plain}
use Rattle.calculus.specs.Truth.{NoModel}
use Rattle.runfile.specs.Readers.{got}
use Rattle.runfile.specs.File.{File, file, most_steps}
use Rattle.text.specs.Text.{bytes}
use Rattle.listing.specs.Lines.{last_line}
use Rattle.listing.specs.Claims.{BeneathOnce}
use Rattle.listing.specs.Listing.{Beneath, Ends, Printed, most_listing, nothing}
use Rattle.inspection.specs.NumbersText.{most_numbers_line}
use Rattle.trying.specs.Texts.{inspected, most_inspection, numbers_beneath}
use Rattle.judging.specs.declared.Written.{Written}
use Rattle.judging.specs.declared.Written.TheVariants.{Bytes, Short}

-- What is answered of the file s, and left of the buffer d, where the judge J answers the steps, B stands beneath the lines of the accepted
-- ones, `after` is printed after all of them and no text has more than `most` bytes. A buffer with room for every text has the text's n bytes at
-- its front, and the bytes past them stay; k and p are the number and place that judging ends with. A shorter buffer stays as it was.
abbrev pub Leaves : (J : Judge) (B : Beneath J) (after : Answer → List ℕ) (most : ℕ) (s d d' : List ℕ) → Written → Type 0
Leaves J B after most s d d' (Bytes n k p) = (most ≤ length d) × Ends J s k p × ((w : List ℕ) × Printed J B after s w × (n ≡ length w) × (d' ≡ w ++ drop n d))
Leaves J B after most s d d' Short = (length d < most) × (d' ≡ d)

-- What `judge` answers of the file s, and what it leaves of the buffer d: the listing, by the rules over the whole numbers.
abbrev pub Lists : (s d d' : List ℕ) → Written → Type 0
Lists s d d' r = Leaves (plain whole) (nothing (plain whole)) last_line most_listing s d d' r

-- What `inspect` answers of the file s, and what it leaves of the buffer d: the listing and the final state.
abbrev pub Shows : (s d d' : List ℕ) → Written → Type 0
Shows s d d' r = Leaves (plain whole) (nothing (plain whole)) inspected most_inspection s d d' r

-- A line of numbers for every step at most
abbrev pub most_with_numbers : ℕ
most_with_numbers = most_inspection + most_steps * most_numbers_line

-- What `inspect_numbers` answers of the file s, and what it leaves of the buffer d: what `inspect` does, with the numbers that steps hand on.
abbrev pub ShowsNumbers : (s d d' : List ℕ) → Written → Type 0
ShowsNumbers s d d' r = Leaves (plain whole) numbers_beneath inspected most_with_numbers s d d' r

-- Of a judge that answers no step in two ways: the answer is unique, and so is what every lent byte holds afterwards. Proved in
-- proofs/Judging.antt.
abbrev pub LeavesOnce : Type 1
LeavesOnce = (J : Judge) → AnswersOnce J → (B : Beneath J) → BeneathOnce J B → (after : Answer → List ℕ) (most : ℕ) (s d d₁ d₂ : List ℕ) (r₁ r₂ : Written)
    → Leaves J B after most s d d₁ r₁ → Leaves J B after most s d d₂ r₂ → (r₁ ≡ r₂) × (d₁ ≡ d₂)

-- So is that of `judge`, and that of `inspect` and of `inspect_numbers`.
abbrev pub ListsOnce : Type 0
ListsOnce = (s d d₁ d₂ : List ℕ) (r₁ r₂ : Written) → Lists s d d₁ r₁ → Lists s d d₂ r₂ → (r₁ ≡ r₂) × (d₁ ≡ d₂)

abbrev pub ShowsOnce : Type 0
ShowsOnce = (s d d₁ d₂ : List ℕ) (r₁ r₂ : Written) → Shows s d d₁ r₁ → Shows s d d₂ r₂ → (r₁ ≡ r₂) × (d₁ ≡ d₂)

abbrev pub ShowsNumbersOnce : Type 0
ShowsNumbersOnce = (s d d₁ d₂ : List ℕ) (r₁ r₂ : Written) → ShowsNumbers s d d₁ r₁ → ShowsNumbers s d d₂ r₂ → (r₁ ≡ r₂) × (d₁ ≡ d₂)

-- The bytes written end within the buffer.
abbrev pub WrittenWithin : List ℕ → Written → Type 0
WrittenWithin d (Bytes n k p) = n ≤ length d
WrittenWithin d Short = Unit {0}

-- Every file has a text with numbers. Proved in proofs/Numbers.antt.
abbrev pub EveryFileNumbered : Type 0
EveryFileNumbered = (s : List ℕ) → (w : List ℕ) × Printed (plain whole) numbers_beneath inspected s w

-- From bytes to bytes: where the n bytes written end in the line `refuted`, the file is a good one, and no reading of the predicates over the
-- whole numbers makes its clauses true. Proved in proofs/EndToEnd.antt.
abbrev pub EndToEnd : Type 1
EndToEnd = (s d d' v : List ℕ) (n k p : ℕ) → Lists s d d' (Bytes n k p) → take n d' ≡ v ++ bytes "refuted\n"
    → (F : File) × (file s ≡ got F (length s)) × NoModel whole F.arities F.input
