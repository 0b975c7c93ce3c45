-- Each refusal is one case of what the answers say.
use Rattle.std.proofs.Common.{ℕ, Some, subst, add-one, arith, rules}
use Rattle.constraint.specs.Test.{Refusal}
use Rattle.constraint.specs.Square.{FirstImproper}
use Rattle.constraint.proofs.possible.Goals as goal

pub returns-then-n-gt-MOST_CONSTANTS : goal.returns-then-n-gt-MOST_CONSTANTS
returns-then-n-gt-MOST_CONSTANTS c = Refusal.too_many (λ h. omega arith)

pub returns-in-Some : goal.returns-in-Some
returns-in-Some c =
    let first = subst (λ (n : ℕ). FirstImproper n c.args.atoms.now (Some c.in-Some.k)) c.from-n.ensures c.in-Some.ensures in
    rw add-one (Refusal.improper c.in-Some.k (record { few_constants = search rules; few_atoms = search rules }) first.0 first.1 first.2)
