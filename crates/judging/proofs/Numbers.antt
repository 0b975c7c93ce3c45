-- Every file has a text with numbers.
use mathlib.Core.Path.{refl, subst}
use Prim.Native.Nat.{ℕ}
use Rattle.basis.specs.Numbers.{whole}
use Rattle.calculus.specs.Handing.{HandsOn}
use Rattle.calculus.specs.Runs.{plain}
use Rattle.reaching.proofs.Handing.{every_step_hands}
use Rattle.listing.specs.Claims.{BeneathAll}
use Rattle.listing.proofs.Every.{answers_all, every_file_listed}
use Rattle.inspection.specs.NumbersText.{numbers_text}
use Rattle.trying.specs.Texts.{inspected, numbers_beneath}
use Rattle.judging.specs.Judging.{EveryFileNumbered}

numbers_all : BeneathAll (plain whole) numbers_beneath
numbers_all s R x a j z = let (h, H) = every_step_hands s x a R j in (numbers_text h, (h, subst (λ (k : ℕ). HandsOn s x k h) z H, refl))

pub every_file_numbered : EveryFileNumbered
every_file_numbered s = every_file_listed (plain whole) answers_all numbers_beneath numbers_all inspected s
