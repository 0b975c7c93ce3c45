-- What a trail says of a literal, in the paper's terms: on it, undefined, false. Trails.antt has the tests that compute.
use mathlib.Core.List.{Memᴰ}
use Rattle.basis.specs.declared.Literal.{Literal}
use Rattle.calculus.specs.Clauses.{complement}
use Rattle.calculus.specs.Trails.{Origin, Trail, foreground}

-- There is an entry of the trail with this literal.
pub record On (t : Trail) (l : Literal) : Type 0 where
  pub origin : Origin
  pub entry : Memᴰ (foreground l origin) t

-- "A literal is undefined if neither it nor its complement is on the trail,"
pub record Undefined (t : Trail) (l : Literal) : Type 0 where
  pub not_it : ¬ On t l
  pub not_complement : ¬ On t (complement l)

-- "false if its complement is."
abbrev pub False : Trail → Literal → Type 0
False t l = On t (complement l)
