-- The record is blank past its counts, and says what was offered.
use Rattle.std.proofs.Common.{◌≡◌, refl, ap, ◌∙◌, length, arith}
use lib.ListN.{length-map}
use Rattle.lists.specs.Arrays.{exactly}
use Rattle.calculus.specs.Clauses.{no_literal}
use Rattle.admission.specs.Offered.{cleaned}
use Rattle.admission.proofs.Judging.{clean_is, exactly_cleaned, filled_from}
use Rattle.admission.proofs.clean.Goals as goal

pub returns : goal.returns
returns c =
    let A = c.args.arities.now in
    let C = c.args.c in
    let k = C.literalcount in
    let long : length c.clean_literals-read.result ≡ 8 = omega (arith, ap length c.clean_literals-read.ensures, length-map C.literals (cleaned A)) in
    clean_is A C _ refl refl refl
    (filled_from 24 C.atoms c.from.ensures c.requires.few_atoms (omega arith) c.no_atom.ensures (c.fill.ensures.after (λ y h. h)))
    (filled_from 8 c.clean_literals-read.result c.from-2.ensures c.requires.few_literals long c.no_literal.ensures (c.fill-2.ensures.after (λ y h. h))
    ∙ ap (exactly 8 no_literal) (ap (exactly k no_literal) c.clean_literals-read.ensures ∙ exactly_cleaned A k C.literals))
