-- What a denied test says, and one of two.
use mathlib.Core.Bool.{Bool, ◌||◌, false, not, true}
use lib.Dec.{T}

pub or_false : (b : Bool) → T (b || false) → T b
or_false true t = tt
or_false false t = t

pub or_second : (a b : Bool) → T (a || b) → T (not a) → T b
or_second true b t h = absurd h
or_second false b t h = t

pub not_or : (a b : Bool) → T (not (a || b)) → T (not a) × T (not b)
not_or true b t = absurd t
not_or false b t = (tt, t)

pub not_or_in : (a b : Bool) → T (not a) → T (not b) → T (not (a || b))
not_or_in true b s t = absurd s
not_or_in false b s t = t
