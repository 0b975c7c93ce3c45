-- What the functions answer: the walk of refusal 12, and levels.
use Rattle.std.specs.Prelude.{List, Bool, false, ◌||◌, cond, ℕ, Option, None, Some, length}
use Rattle.basis.specs.declared.Literal.{Literal}
use Rattle.lists.specs.Lists.{all_of}
use Rattle.calculus.specs.Clauses.{Clause, Instanced, same_literal, complement, ground}
use Rattle.calculus.specs.Trails.{Trail, Entry, is_literal, is_false, undefined, level_of, cut}
use Rattle.calculus.specs.Tests.{first_failing}
use Rattle.calculus.specs.Rules.{literal_instance, back_level}
use Rattle.trail.specs.declared.LiteralsSeen.{LiteralsSeen}
use Rattle.trail.specs.declared.LevelsSeen.{LevelsSeen}

-- The entry is the literal or its complement.
abbrev pub is_about : Literal → Entry → Bool
is_about l e = is_literal l e || is_literal (complement l) e

-- ---- refusal 12

-- The literal that need not be false, where there is one, is m.
abbrev pub is_own : Option Literal → Literal → Bool
is_own None m = false
is_own (Some g) m = same_literal m g

-- The literal's instance is false, or it need not be. For Propagate L's instance is `own`, only the others must be, and all of a clause's literals
-- pass if `others_false`; for Conflict there is no `own`, and they do if `all_false`.
abbrev pub passes : Option Literal → Trail → List ℕ → Literal → Bool
passes own t τ m = is_own own (ground τ m) || is_false t (ground τ m)

-- The number, from 1, of the first that fails the test, if one does
abbrev pub first_number : (Literal → Bool) → List Literal → Option ℕ
first_number f ls = cond (all_of f ls) None (Some (first_failing f ls))

-- The literal that need not be false: `own`, where only the others must be
abbrev pub excepted : (others : Bool) → Literal → Option Literal
excepted others own = cond others (Some own) None

-- What Propagate and Conflict ask of a trail: whether `own` is undefined, and the number of the first literal that must be false and is not, if one is not
abbrev pub literals_seen : Trail → Clause → List ℕ → (others : Bool) → Literal → LiteralsSeen
literals_seen t C τ others own = record { free = undefined t own; first = first_number (passes (excepted others own) t τ) C.literals }

-- ---- levels

-- What Backtrack asks of a trail: the level of L, the largest level i in D, and how many entries stand before decision i + 1
abbrev pub levels_seen : Instanced → ℕ → Trail → LevelsSeen
levels_seen N l t = record { own = level_of (literal_instance N l) t; others = back_level N l t; kept = length (cut (back_level N l t) t) }
