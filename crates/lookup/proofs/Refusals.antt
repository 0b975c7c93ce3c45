-- A refusal is told by its number, and its number is not that of being accepted.
use mathlib.Core.Path.{◌≡◌, refl, sym, ap, ◌∙◌}
use mathlib.Core.List.{List, [], ◌∷◌}
use Prim.Native.Nat.{ℕ, ◌-◌}
use native.Mathlib.Omega.{arith}
use lib.ListN.{get_or}
use Rattle.basis.specs.Refusals.{accepted, number_of}
use Rattle.basis.specs.declared.Refusal.{Refusal}
use Rattle.basis.specs.declared.Refusal.TheVariants.{EndsInside, WrongMark, AboveLimit, OutOfRange, OccursNowhere, LacksBound, UnknownRule, Surplus, WrongMoment, NoSuch, AlreadyDefined, NotFalse, NotPossible, NoEntry, WrongLiteral, NotAbove, KeptNotPossible, NoRoom, TooManyRows, NotInOrder, BufferShort, TooLong}

-- The refusal with a number from 1 on
refusal_at : ℕ → Refusal
refusal_at n =
    get_or
    (EndsInside ∷ WrongMark ∷ AboveLimit ∷ OutOfRange ∷ OccursNowhere ∷ LacksBound ∷ UnknownRule ∷ Surplus ∷ WrongMoment ∷ NoSuch ∷ AlreadyDefined ∷ NotFalse ∷ NotPossible ∷ NoEntry ∷ WrongLiteral ∷ NotAbove ∷ KeptNotPossible ∷ NoRoom ∷ TooManyRows ∷ NotInOrder ∷ BufferShort ∷ TooLong ∷ [])
    (n - 1) EndsInside

named : (r : Refusal) → refusal_at (number_of r) ≡ r
unfolding refusal_at
named EndsInside = refl
named WrongMark = refl
named AboveLimit = refl
named OutOfRange = refl
named OccursNowhere = refl
named LacksBound = refl
named UnknownRule = refl
named Surplus = refl
named WrongMoment = refl
named NoSuch = refl
named AlreadyDefined = refl
named NotFalse = refl
named NotPossible = refl
named NoEntry = refl
named WrongLiteral = refl
named NotAbove = refl
named KeptNotPossible = refl
named NoRoom = refl
named TooManyRows = refl
named NotInOrder = refl
named BufferShort = refl
named TooLong = refl

pub same_refusal : {r q : Refusal} → number_of r ≡ number_of q → r ≡ q
same_refusal {r} {q} e = sym (named r) ∙ ap refusal_at e ∙ named q

pub not_accepted : (r : Refusal) → ¬ (number_of r ≡ accepted)
not_accepted EndsInside e = absurd (omega arith)
not_accepted WrongMark e = absurd (omega arith)
not_accepted AboveLimit e = absurd (omega arith)
not_accepted OutOfRange e = absurd (omega arith)
not_accepted OccursNowhere e = absurd (omega arith)
not_accepted LacksBound e = absurd (omega arith)
not_accepted UnknownRule e = absurd (omega arith)
not_accepted Surplus e = absurd (omega arith)
not_accepted WrongMoment e = absurd (omega arith)
not_accepted NoSuch e = absurd (omega arith)
not_accepted AlreadyDefined e = absurd (omega arith)
not_accepted NotFalse e = absurd (omega arith)
not_accepted NotPossible e = absurd (omega arith)
not_accepted NoEntry e = absurd (omega arith)
not_accepted WrongLiteral e = absurd (omega arith)
not_accepted NotAbove e = absurd (omega arith)
not_accepted KeptNotPossible e = absurd (omega arith)
not_accepted NoRoom e = absurd (omega arith)
not_accepted TooManyRows e = absurd (omega arith)
not_accepted NotInOrder e = absurd (omega arith)
not_accepted BufferShort e = absurd (omega arith)
not_accepted TooLong e = absurd (omega arith)
