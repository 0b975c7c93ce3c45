-- Entry records as the calculus's entries, and arrays of them as trails.
use Rattle.std.specs.Prelude.{◌≡◌, List, [], ◌∷◌, map, reverse, cond, ℕ, zero, suc, ◌≤◌, eqb, length, get_or, take}
use Rattle.std.proofs.Math.Option.{none, some}
use Rattle.basis.specs.Limits.{most_entries, most_variables}
use Rattle.basis.specs.Atoms.{no_atom}
use Rattle.lists.specs.Arrays.{exactly}
use Rattle.calculus.specs.Clauses.{no_literal}
use Rattle.calculus.specs.Trails as calculus
use Rattle.calculus.specs.Trails.{Trail, foreground, background, propagated, decided}
use Rattle.trail.specs.declared.Entry.{Entry}
use Rattle.trail.specs.declared.Kind.{Kind}
use Rattle.trail.specs.declared.Kind.TheVariants.{Background, Brought, Propagated, Decided}

-- The blank entry stands in every slot past the trail's length.
abbrev pub blank_entry : Entry
blank_entry = record { atom = no_atom; kind = Background; literal = no_literal; clause = 0; number = 0; sign = 0; count = 0; brought = 0; spare = 0; instance = exactly most_variables 0 [] }

-- What a read past an array's end would give
abbrev pub past_end : Entry
past_end = record { atom = no_atom; kind = Background; literal = no_literal; clause = 0; number = 0; sign = 0; count = 0; brought = 0; spare = 0; instance = [] }

-- What an entry record says, by its kind
abbrev pub entry_as : Kind → Entry → calculus.Entry
entry_as Background e = background e.atom none
entry_as Brought e = background e.atom (some (record { clause = e.clause; number = e.number; sign = e.sign; instance = take e.count e.instance }))
entry_as Propagated e = foreground e.literal (propagated e.clause e.number (take e.count e.instance))
entry_as Decided e = foreground e.literal (decided e.clause e.number (eqb e.sign 1) (take e.count e.instance) e.brought)

abbrev pub entry_of : Entry → calculus.Entry
entry_of e = entry_as e.kind e

-- The record of an entry; what its kind has no use for is blank.
abbrev pub packed_entry : calculus.Entry → Entry
packed_entry (background a none) = record { atom = a; kind = Background; literal = no_literal; clause = 0; number = 0; sign = 0; count = 0; brought = 0; spare = 0; instance = exactly most_variables 0 [] }
packed_entry (background a (some z)) =
    record { atom = a; kind = Brought; literal = no_literal; clause = z.clause; number = z.number; sign = z.sign; count = length z.instance; brought = 0; spare = 0; instance = exactly most_variables 0 z.instance }
packed_entry (foreground l (propagated c n τ)) =
    record { atom = no_atom; kind = Propagated; literal = l; clause = c; number = n; sign = 0; count = length τ; brought = 0; spare = 0; instance = exactly most_variables 0 τ }
packed_entry (foreground l (decided c n b τ k)) =
    record { atom = no_atom; kind = Decided; literal = l; clause = c; number = n; sign = cond b 1 0; count = length τ; brought = k; spare = 0; instance = exactly most_variables 0 τ }

-- The first n entries of an array as a trail: the last entry first
abbrev pub trail_of : List Entry → ℕ → Trail
trail_of es zero = []
trail_of es (suc n) = entry_of (get_or es n past_end) ∷ trail_of es n

-- All of them
abbrev pub entries_of : List Entry → Trail
entries_of es = trail_of es (length es)

-- The array of a trail, blank past its length
unfoldable pub packed_trail : Trail → List Entry
packed_trail t = exactly most_entries blank_entry (map packed_entry (reverse t))

-- The array's first n entries are the trail t, and it is blank from there on.
pub record Stored (es : List Entry) (n : ℕ) (t : Trail) : Type 0 where
  pub few : n ≤ most_entries
  pub says : trail_of es n ≡ t
  pub packed : es ≡ packed_trail t

-- Taken for granted of an array and its length where entries are added or taken away
abbrev pub OwnTrail : List Entry → ℕ → Type 0
OwnTrail es n = Stored es n (trail_of es n)

-- An entry's instance has at most 12 constants.
abbrev pub Short : calculus.Entry → Type 0
Short (background a none) = Unit {0}
Short (background a (some z)) = length z.instance ≤ most_variables
Short (foreground l (propagated c n τ)) = length τ ≤ most_variables
Short (foreground l (decided c n b τ k)) = length τ ≤ most_variables

abbrev pub AllShort : Trail → Type 0
AllShort [] = Unit {0}
AllShort (e ∷ t) = Short e × AllShort t

-- e is the record of the entry x.
pub record Recorded (e : Entry) (x : calculus.Entry) : Type 0 where
  pub is : e ≡ packed_entry x
  pub short : Short x

-- Such a record is unique. Proved in proofs/Stored.antt.
abbrev pub RecordedOnce : Type 0
RecordedOnce = (e f : Entry) (x : calculus.Entry) → Recorded e x → Recorded f x → e ≡ f
