-- The refusal numbers, each named once, with the words of the paper and of the change requests.
use Rattle.std.specs.Prelude.{◌≡◌, ℕ}
use Rattle.basis.specs.declared.Refusal.{Refusal}
use Rattle.basis.specs.declared.Refusal.TheVariants as refusals

-- No refusal: accepted.
abbrev pub accepted : ℕ
accepted = 0

-- "the file ends inside a field"
abbrev pub ends_inside : ℕ
ends_inside = 1

-- "mark or version wrong"
abbrev pub wrong_mark : ℕ
wrong_mark = 2

-- "a count or arity above its limit"; "for the counts" of the atoms that a Decide brings
abbrev pub above_limit : ℕ
above_limit = 3

-- "a clause number, sign or constant c out of its range, or both places 0; a Decide sign above 1"; "for its sign above 1", of an atom brought
abbrev pub out_of_range : ℕ
out_of_range = 4

-- "a clause variable occurs nowhere"
abbrev pub occurs_nowhere : ℕ
occurs_nowhere = 5

-- "a variable in a difference lacks a bound"
abbrev pub lacks_bound : ℕ
lacks_bound = 6

-- "unknown rule"
abbrev pub unknown_rule : ℕ
unknown_rule = 7

-- "bytes after the last step"
abbrev pub surplus : ℕ
surplus = 8

-- "conflict standing for 1, 2, 3, 8; none for 4 to 7"
abbrev pub wrong_moment : ℕ
wrong_moment = 9

-- "no such clause, literal or constant; wrong instance count; Factorize of one literal twice; Grow by 0"; "also for a bad atom number"
abbrev pub no_such : ℕ
no_such = 10

-- "literal already defined (1, 2)"; "also when an atom so brought, or its denial, is on the trail or brought before it"
abbrev pub already_defined : ℕ
already_defined = 11

-- "a literal that must be false is not (1, 3)"
abbrev pub not_false : ℕ
not_false = 12

-- "atoms not possible (1, 3)"; "now also for Decide"
abbrev pub not_possible : ℕ
not_possible = 13

-- "no trail entry (4, 6); last one not a propagated literal (4)"
abbrev pub no_entry : ℕ
no_entry = 14

-- "not the complement (4); instances differ (5); complement in the conflict (6); L again in D (7)"
abbrev pub wrong_literal : ℕ
wrong_literal = 15

-- "L's level not above i (7)"
abbrev pub not_above : ℕ
not_above = 16

-- "kept and conflict atoms not possible (7)"
abbrev pub kept_not_possible : ℕ
kept_not_possible = 17

-- "no room: clause limits counted after merging (4), trail (1, 2, 7), learned clauses (7), constants (8)"
abbrev pub no_room : ℕ
no_room = 18

-- "more than 48 rows", of a lookup table
abbrev pub too_many_rows : ℕ
too_many_rows = 19

-- "keys not strictly rising, or a key or result outside ±1,000,000"
abbrev pub not_in_order : ℕ
not_in_order = 20

-- "buffer too short"
abbrev pub buffer_short : ℕ
buffer_short = 21

-- "a file above 65,536 bytes"
abbrev pub too_long : ℕ
too_long = 22

-- The number that the table has for a refusal of the code
abbrev pub number_of : Refusal → ℕ
number_of refusals.EndsInside = ends_inside
number_of refusals.WrongMark = wrong_mark
number_of refusals.AboveLimit = above_limit
number_of refusals.OutOfRange = out_of_range
number_of refusals.OccursNowhere = occurs_nowhere
number_of refusals.LacksBound = lacks_bound
number_of refusals.UnknownRule = unknown_rule
number_of refusals.Surplus = surplus
number_of refusals.WrongMoment = wrong_moment
number_of refusals.NoSuch = no_such
number_of refusals.AlreadyDefined = already_defined
number_of refusals.NotFalse = not_false
number_of refusals.NotPossible = not_possible
number_of refusals.NoEntry = no_entry
number_of refusals.WrongLiteral = wrong_literal
number_of refusals.NotAbove = not_above
number_of refusals.KeptNotPossible = kept_not_possible
number_of refusals.NoRoom = no_room
number_of refusals.TooManyRows = too_many_rows
number_of refusals.NotInOrder = not_in_order
number_of refusals.BufferShort = buffer_short
number_of refusals.TooLong = too_long

-- No two refusals have one number. Proved in proofs/Numbered.antt.
abbrev pub NumberOnce : Type 0
NumberOnce = (r s : Refusal) (n : ℕ) → number_of r ≡ n → number_of s ≡ n → r ≡ s
