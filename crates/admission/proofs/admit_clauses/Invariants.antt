-- None of the clauses passed was refused, and the table holds them as they were read.
use Rattle.std.proofs.Common.{◌≡◌, take, map}
use Rattle.basis.specs.Limits.{most_input}
use Rattle.lists.specs.Arrays.{exactly}
use Rattle.calculus.specs.Admission.{clauses_refusal}
use Rattle.calculus.specs.Clauses.{no_clause}
use Rattle.clauses.specs.Records.{packed}
use Rattle.admission.specs.Offered.{offered}
use Rattle.admission.proofs.Tables.{no_refusal}
use Rattle.admission.proofs.admit_clauses.Given as goal

abbrev pub invariant-loop-j : goal.invariant-loop-j
invariant-loop-j l =
    (clauses_refusal l.arities 1 (map (offered l.arities) (take l.j l.clauses)) ≡ no_refusal)
    × (l.table ≡ exactly most_input (packed no_clause) (map (λ c. packed (offered l.arities c)) (take l.j l.clauses)))
