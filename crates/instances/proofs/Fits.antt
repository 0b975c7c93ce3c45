-- A number that is not among the first ones.
use mathlib.Core.Path.{◌≡◌, refl}
use mathlib.Core.Bool.{Bool, ◌&&◌, false, true}
use Prim.Native.Nat.{◌<◌, ℕ}
use lib.Dec.{leb}
use borrow.Author.Tests.{lt-leb}
use Rattle.calculus.specs.Checks.{between}

and_false : (b : Bool) → (b && false) ≡ false
and_false true = refl
and_false false = refl

pub not_between : (n x : ℕ) → n < x → between 1 n x ≡ false
not_between n x h = rw (lt-leb x n h) (and_false (leb 1 x))
