-- A rule and its number tell each other.
use Rattle.std.proofs.Common.{◌≡◌, ◌∙◌, ap, refl, sym, ℕ, Result, Ok, Err}
use native.Mathlib.Decide.{ℕ_discrete}
use borrow.Author.Tests.{ne_eqb}
use Rattle.basis.specs.RuleNumbers.{rule_number, rule_numbered}
use Rattle.basis.specs.declared.Rule.{Rule}
use Rattle.basis.specs.declared.Rule.TheVariants.{Propagate, Decide, Conflict, Resolve, Factorize, Skip, Backtrack, Grow}
use Rattle.basis.specs.declared.UnknownRule.{UnknownRule}

-- The number that was read, from the rule that it was read as
abbrev number_back : ℕ → Result Rule UnknownRule → ℕ
number_back n (Ok r) = rule_number r
number_back n (Err u) = n

read_back : (n : ℕ) → number_back n (rule_numbered n) ≡ n
read_back n = elim (ℕ_discrete n 1) [
  | yes e ↦ rw e
  | no n1 ↦ elim (ℕ_discrete n 2) [
    | yes e ↦ rw e
    | no n2 ↦ elim (ℕ_discrete n 3) [
      | yes e ↦ rw e
      | no n3 ↦ elim (ℕ_discrete n 4) [
        | yes e ↦ rw e
        | no n4 ↦ elim (ℕ_discrete n 5) [
          | yes e ↦ rw e
          | no n5 ↦ elim (ℕ_discrete n 6) [
            | yes e ↦ rw e
            | no n6 ↦ elim (ℕ_discrete n 7) [
              | yes e ↦ rw e
              | no n7 ↦ elim (ℕ_discrete n 8) [
                | yes e ↦ rw e
                | no n8 ↦ rw (ne_eqb n 1 n1, ne_eqb n 2 n2, ne_eqb n 3 n3, ne_eqb n 4 n4, ne_eqb n 5 n5, ne_eqb n 6 n6, ne_eqb n 7 n7, ne_eqb n 8 n8)
              ]
            ]
          ]
        ]
      ]
    ]
  ]
]

-- A number that is read as a rule is that rule's.
pub numbered_rule : (n : ℕ) (r : Rule) → rule_numbered n ≡ Ok r → n ≡ rule_number r
numbered_rule n r e = sym (read_back n) ∙ ap (number_back n) e

rule_again : (r : Rule) → rule_numbered (rule_number r) ≡ Ok r
rule_again Propagate = refl
rule_again Decide = refl
rule_again Conflict = refl
rule_again Resolve = refl
rule_again Factorize = refl
rule_again Skip = refl
rule_again Backtrack = refl
rule_again Grow = refl

-- A number that is read as none is no rule's.
pub numbered_none : (n : ℕ) (u : UnknownRule) → rule_numbered n ≡ Err u → (r : Rule) → ¬ (n ≡ rule_number r)
numbered_none n u e r h = let again = sym e ∙ ap rule_numbered h ∙ rule_again r in cc
