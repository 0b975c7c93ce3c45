-- The loop goes on as long as none is refused.
use Rattle.std.proofs.Common.{◌≡◌, refl, sym, ◌∙◌, ap, ap₂, arith, List, set}
use Rattle.std.proofs.lemmas.List.{take_all}
use mathlib.Core.List.{map, map-map}
use Rattle.basis.specs.Refusals.{number_of}
use Rattle.lists.specs.Arrays.{exactly}
use Rattle.lists.proofs.Arrays.{exactly_none, mapped_turn}
use Rattle.calculus.specs.Admission.{clauses_refusal}
use Rattle.calculus.specs.Clauses.{no_clause}
use Rattle.clauses.proofs.Records.{past_table}
use Rattle.clauses.specs.declared.Clause.{Clause}
use Rattle.clauses.specs.Records.{packed}
use Rattle.admission.specs.Offered.{answered, offered, packed_input}
use Rattle.admission.proofs.Tables.{no_refusal, table_refused, table_turn}
use Rattle.admission.proofs.admit_clauses.Goals as goal

pub loop-j-init : goal.loop-j-init
loop-j-init c = (refl, rw c.no_clause-table.ensures (sym (exactly_none (packed no_clause) 48)))

pub returns-in-Err : goal.returns-in-Err
returns-in-Err c = table_refused c.args.arities.now c.args.clauses.now c.loop-j.j c.loop-j-test.true c.loop-j.invariant.0 (number_of c.in-Err.refusal) c.in-Err.ensures

pub loop-j-preserved : goal.loop-j-preserved
loop-j-preserved c =
    let A = c.args.arities.now in
    let l = c.args.clauses.now in
    let (n, is) = table_turn A l c.loop-j.j c.loop-j-test.true c.loop-j.invariant.0 c.in-Ok.read c.in-Ok.ensures in (
      n,
      ap₂ (λ (t : List Clause) (x : Clause). set t c.loop-j.j x) c.loop-j.invariant.1 is
          ∙ mapped_turn (λ x. packed (offered A x)) 48 (packed no_clause) past_table l c.loop-j.j c.loop-j-test.true (omega arith),
    )

pub returns : goal.returns
unfolding answered
returns c =
    let A = c.args.arities.now in
    let l = c.args.clauses.now in
    let all = take_all c.loop-j.j l (omega arith) in
    let none : clauses_refusal A 1 (map (offered A) l) ≡ no_refusal = ap (λ (k : List Clause). clauses_refusal A 1 (map (offered A) k)) (sym all) ∙ c.loop-j.invariant.0 in
    let held : c.loop-j.table ≡ packed_input (map (offered A) l) =
    c.loop-j.invariant.1 ∙ ap (λ (k : List Clause). exactly 48 (packed no_clause) (map (λ x. packed (offered A x)) k)) all ∙ ap (exactly 48 (packed no_clause)) (sym (map-map packed (offered A) l)) in
    rw (held, none)
