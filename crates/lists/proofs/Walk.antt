-- How the invariant of a storing loop begins, and how it goes on: by a store, or by leaving the place as it is.
use mathlib.Core.Path.{◌∙◌, refl, subst, sym}
use mathlib.Core.List.{List}
use Prim.Native.Nat.{◌+◌, ◌<◌, ℕ}
use native.Mathlib.Omega.{arith}
use lib.ListN.{get_or, length, length-set, set}
use lib.Seq.{get_or-set_other, get_or-set_same}
use borrow.Author.Count.{below_more}
use Rattle.lists.specs.Walk.{Upto}

module _ {A : Type 0} (z : A) (P : ℕ → A → Type 0) where
  pub upto_none : (l : List A) → Upto z P l l 0
  upto_none l = record { done = λ k h. absurd (omega arith); rest = λ k h. refl; long = refl }

  pub upto_same : {before l : List A} {j : ℕ} → Upto z P before l j → P j (get_or l j z) → Upto z P before l (j + 1)
  upto_same {before} {l} {j} U p = record {
    done = below_more (λ k. P k (get_or l k z)) j U.done p;
    rest = λ k h. U.rest k (omega arith);
    long = U.long;
  }

  pub upto_set : {before l : List A} {j : ℕ} {x : A} → Upto z P before l j → j < length before → P j x → Upto z P before (set l j x) (j + 1)
  upto_set {before} {l} {j} {x} U h p = record {
    done = below_more (λ k. P k (get_or (set l j x) k z)) j
        (λ k e. subst (P k) (sym (get_or-set_other l j k x z (omega arith))) (U.done k e))
        (subst (P j) (sym (get_or-set_same l j x z (omega (arith, U.long)))) p);
    rest = λ k e. get_or-set_other l j k x z (omega arith) ∙ U.rest k (omega arith);
    long = length-set l j x ∙ U.long;
  }
