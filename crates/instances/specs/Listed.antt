-- Ground literals held in a record.
use Rattle.std.specs.Prelude.{◌≡◌, List, ◌≤◌, length}
use Rattle.basis.specs.declared.Literal.{Literal}
use Rattle.basis.specs.Limits.{most_literals}
use Rattle.lists.specs.Arrays.{held}
use Rattle.lists.specs.declared.Held.{Held}
use Rattle.calculus.specs.Clauses.{no_literal}

-- The record of these ground literals, for which it has room; it is blank past them.
pub record Listed (d : Held Literal most_literals) (ls : List Literal) : Type 0 where
  pub few : length ls ≤ most_literals
  pub packed : d ≡ held most_literals no_literal ls

-- Such a record is unique. Proved in proofs/Others.antt.
abbrev pub ListedOnce : Type 0
ListedOnce = (d e : Held Literal most_literals) (ls : List Literal) → Listed d ls → Listed e ls → d ≡ e
