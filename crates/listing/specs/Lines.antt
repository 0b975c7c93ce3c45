-- The lines of a listing as bytes. The paper's section "Program and listing": "One space parts the fields."
use Rattle.std.specs.Prelude.{List, [], ◌∷◌, ◌++◌, Bool, true, false, cond, ℕ, eqb}
use Rattle.std.proofs.Math.Option.{Option, none, some}
use Rattle.basis.specs.Refusals.{accepted}
use Rattle.basis.specs.declared.Literal.{Literal}
use Rattle.calculus.specs.Clauses.{Instanced}
use Rattle.calculus.specs.Rules.{Answer}
use Rattle.calculus.specs.States.{Step, Propagate, Decide, Conflict, Resolve, Factorize, Skip, Backtrack, Grow, Unknown}
use Rattle.text.specs.Text.{bytes, decimal}

-- "Rule name in small letters"; no file has an unknown rule.
abbrev pub rule_name : Step → List ℕ
rule_name (Propagate c l τ) = bytes "propagate"
rule_name (Decide c l sign τ zs) = bytes "decide"
rule_name (Conflict c τ) = bytes "conflict"
rule_name (Resolve l) = bytes "resolve"
rule_name (Factorize l m) = bytes "factorize"
rule_name Skip = bytes "skip"
rule_name (Backtrack l) = bytes "backtrack"
rule_name (Grow n) = bytes "grow"
rule_name (Unknown rule) = bytes ""

-- What both lines of a step begin with: its number and its rule's name
abbrev pub numbered : (number : ℕ) → (name : List ℕ) → List ℕ
numbered n name = decimal n ++ bytes " " ++ name

-- "One line per step tried: step number, rule name in small letters, trail length, k"
unfoldable pub accepted_line : (number : ℕ) → (name : List ℕ) → (length level : ℕ) → List ℕ
accepted_line n name t k = numbered n name ++ bytes " " ++ decimal t ++ bytes " " ++ decimal k ++ bytes "\n"

-- "or number, name, `refused`, refusal"
unfoldable pub refused_line : (number : ℕ) → (name : List ℕ) → (refusal : ℕ) → List ℕ
refused_line n name e = numbered n name ++ bytes " refused " ++ decimal e ++ bytes "\n"

-- No name is longer than `propagate`, `factorize` and `backtrack`.
abbrev pub most_name : ℕ
most_name = 9

-- The number of a step has at most four digits.
abbrev pub most_numbered : ℕ
most_numbered = 14

-- No line of a step among the 2,000 is longer than `2000 backtrack refused 255` with its newline; 255 is what a byte holds.
abbrev pub most_line : ℕ
most_line = 27

abbrev pub is_empty : List Literal → Bool
is_empty [] = true
is_empty (l ∷ ls) = false

-- "A conflict without literals is a refutation."
abbrev pub is_refutation : Option Instanced → Bool
is_refutation none = false
is_refutation (some N) = is_empty N.clause.literals

-- "Last line: `refuted` if the conflict has no literals, else `stopped` if a step was refused, else `open`"
abbrev pub closing : (refuted : Bool) → (refusal : ℕ) → List ℕ
closing refuted refusal = cond refuted (bytes "refuted\n") (cond (eqb refusal accepted) (bytes "open\n") (bytes "stopped\n"))

-- .. by the answer to the last step tried
abbrev pub last_line : Answer → List ℕ
last_line e = closing (is_refutation e.state.conflict) e.number

-- `refuted` and `stopped`, with the newline
abbrev pub most_last : ℕ
most_last = 8

-- "A bad file prints only `bad file`, number, place."
unfoldable pub bad_line : (number place : ℕ) → List ℕ
bad_line n p = bytes "bad file " ++ decimal n ++ bytes " " ++ decimal p ++ bytes "\n"

-- No such line is longer: a refusal is a byte, and a place has at most the 20 digits of a machine number.
abbrev pub most_bad : ℕ
most_bad = 34
