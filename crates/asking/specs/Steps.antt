-- Step records as the calculus's steps.
use Rattle.std.specs.Prelude.{List, [], map, cond, ℕ, eqb}
use Rattle.basis.specs.Limits.{most_variables}
use Rattle.lists.specs.Arrays.{exactly}
use Rattle.calculus.specs.States as calculus
use Rattle.calculus.specs.Trails as trails
use Rattle.asking.specs.declared.Source.{Source}
use Rattle.asking.specs.declared.Step.{Step}

-- The source that a record says; its instance has as many constants as it counts.
abbrev pub source_of : Source → trails.Source
source_of z = record { clause = z.clause; number = z.number; sign = z.sign; instance = exactly z.count 0 z.instance }

-- The blank source stands in every slot past a count.
abbrev pub no_source : Source
no_source = record { clause = 0; number = 0; sign = 0; count = 0; instance = exactly most_variables 0 [] }

-- The first n atoms that a step names
abbrev pub sources_in : ℕ → Step → List trails.Source
sources_in n x = map source_of (exactly n no_source x.atoms)

-- The instance of a step, as many constants as it counts
abbrev pub instance_of : Step → List ℕ
instance_of x = exactly x.count 0 x.instance

-- A Decide, with as many atoms as it counts
abbrev pub decide_of : Step → calculus.Step
decide_of x = calculus.Decide x.clause x.literal x.sign (instance_of x) (sources_in x.brought x)

-- "Rule number and its arguments in the order above"; a number that is none of the eight is an unknown rule.
abbrev pub step_of : Step → calculus.Step
step_of x =
    cond (eqb x.rule 1) (calculus.Propagate x.clause x.literal (instance_of x))
    (cond (eqb x.rule 2) (decide_of x)
    (cond (eqb x.rule 3) (calculus.Conflict x.clause (instance_of x))
    (cond (eqb x.rule 4) (calculus.Resolve x.literal)
    (cond (eqb x.rule 5) (calculus.Factorize x.literal x.other)
    (cond (eqb x.rule 6) calculus.Skip
    (cond (eqb x.rule 7) (calculus.Backtrack x.literal)
    (cond (eqb x.rule 8) (calculus.Grow x.amount)
    (calculus.Unknown x.rule))))))))
