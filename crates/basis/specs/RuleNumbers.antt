-- The rules' numbers: "1 Propagate, 2 Decide, 3 Conflict, 4 Resolve, 5 Factorize, 6 Skip, 7 Backtrack, 8 Grow".
use Rattle.std.specs.Prelude.{ℕ, cond, eqb, Result, Ok, Err}
use Rattle.basis.specs.declared.Rule.{Rule}
use Rattle.basis.specs.declared.Rule.TheVariants.{Propagate, Decide, Conflict, Resolve, Factorize, Skip, Backtrack, Grow}
use Rattle.basis.specs.declared.UnknownRule.{UnknownRule}

abbrev pub rule_number : Rule → ℕ
rule_number Propagate = 1
rule_number Decide = 2
rule_number Conflict = 3
rule_number Resolve = 4
rule_number Factorize = 5
rule_number Skip = 6
rule_number Backtrack = 7
rule_number Grow = 8

-- The rule with a number
abbrev pub rule_numbered : ℕ → Result Rule UnknownRule
rule_numbered n =
    cond (eqb n 1) (Ok Propagate)
    (cond (eqb n 2) (Ok Decide)
    (cond (eqb n 3) (Ok Conflict)
    (cond (eqb n 4) (Ok Resolve)
    (cond (eqb n 5) (Ok Factorize)
    (cond (eqb n 6) (Ok Skip)
    (cond (eqb n 7) (Ok Backtrack)
    (cond (eqb n 8) (Ok Grow)
    (Err (record {})))))))))
