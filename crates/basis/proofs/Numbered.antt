-- No two refusals have one number.
use Rattle.std.proofs.Common.{◌≡◌, false, ap, refl, ℕ, ◌-◌, List, [], ◌∷◌, get_or, sym, ◌∙◌}
use lib.Dec.{eqb}
use Rattle.basis.specs.Refusals.{accepted, number_of, NumberOnce}
use Rattle.basis.specs.declared.Refusal.{Refusal}
use Rattle.basis.specs.declared.Refusal.TheVariants as refusals

-- The refusals in the order of their numbers
in_order : List Refusal
in_order =
    refusals.EndsInside
    ∷ refusals.WrongMark
    ∷ refusals.AboveLimit
    ∷ refusals.OutOfRange
    ∷ refusals.OccursNowhere
    ∷ refusals.LacksBound
    ∷ refusals.UnknownRule
    ∷ refusals.Surplus
    ∷ refusals.WrongMoment
    ∷ refusals.NoSuch
    ∷ refusals.AlreadyDefined
    ∷ refusals.NotFalse
    ∷ refusals.NotPossible
    ∷ refusals.NoEntry
    ∷ refusals.WrongLiteral
    ∷ refusals.NotAbove
    ∷ refusals.KeptNotPossible
    ∷ refusals.NoRoom
    ∷ refusals.TooManyRows
    ∷ refusals.NotInOrder
    ∷ refusals.BufferShort
    ∷ refusals.TooLong
    ∷ []

-- The refusal with a number
pub numbered : ℕ → Refusal
numbered n = get_or in_order (n - 1) refusals.EndsInside

pub numbered_again : (r : Refusal) → numbered (number_of r) ≡ r
unfolding numbered in_order
numbered_again refusals.EndsInside = refl
numbered_again refusals.WrongMark = refl
numbered_again refusals.AboveLimit = refl
numbered_again refusals.OutOfRange = refl
numbered_again refusals.OccursNowhere = refl
numbered_again refusals.LacksBound = refl
numbered_again refusals.UnknownRule = refl
numbered_again refusals.Surplus = refl
numbered_again refusals.WrongMoment = refl
numbered_again refusals.NoSuch = refl
numbered_again refusals.AlreadyDefined = refl
numbered_again refusals.NotFalse = refl
numbered_again refusals.NotPossible = refl
numbered_again refusals.NoEntry = refl
numbered_again refusals.WrongLiteral = refl
numbered_again refusals.NotAbove = refl
numbered_again refusals.KeptNotPossible = refl
numbered_again refusals.NoRoom = refl
numbered_again refusals.TooManyRows = refl
numbered_again refusals.NotInOrder = refl
numbered_again refusals.BufferShort = refl
numbered_again refusals.TooLong = refl

pub number_once : NumberOnce
number_once r s n e h = sym (numbered_again r) ∙ ap numbered (e ∙ sym h) ∙ numbered_again s

-- Every refusal has a number of the table.
pub in_table : (r : Refusal) → eqb (number_of r) accepted ≡ false
in_table refusals.EndsInside = refl
in_table refusals.WrongMark = refl
in_table refusals.AboveLimit = refl
in_table refusals.OutOfRange = refl
in_table refusals.OccursNowhere = refl
in_table refusals.LacksBound = refl
in_table refusals.UnknownRule = refl
in_table refusals.Surplus = refl
in_table refusals.WrongMoment = refl
in_table refusals.NoSuch = refl
in_table refusals.AlreadyDefined = refl
in_table refusals.NotFalse = refl
in_table refusals.NotPossible = refl
in_table refusals.NoEntry = refl
in_table refusals.WrongLiteral = refl
in_table refusals.NotAbove = refl
in_table refusals.KeptNotPossible = refl
in_table refusals.NoRoom = refl
in_table refusals.TooManyRows = refl
in_table refusals.NotInOrder = refl
in_table refusals.BufferShort = refl
in_table refusals.TooLong = refl
