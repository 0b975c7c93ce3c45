-- The number of a step whose rule was read.
use Rattle.std.proofs.Common.{◌≡◌, ◌∙◌, ap, sym, ℕ, Result, Ok}
use Rattle.basis.proofs.RuleNumbers.{numbered_rule}
use Rattle.basis.specs.RuleNumbers.{rule_number, rule_numbered}
use Rattle.basis.specs.declared.Rule.{Rule}
use Rattle.basis.specs.declared.UnknownRule.{UnknownRule}

pub ruled : {n : ℕ} {r : Rule} → ◌≡◌ {A = Result Rule UnknownRule} (Ok r) (rule_numbered n) → {q : Rule} → r ≡ q → n ≡ rule_number q
ruled {n} {r} e {q} is = numbered_rule n q (sym e ∙ ap Ok is)
