-- The instances of all literals but one, gathered one after the other.
use mathlib.Core.Path.{◌∙◌, ◌≡◌, ap, sym}
use mathlib.Core.List.{List, [], ◌++◌, ◌∷◌, map, map-append}
use mathlib.Core.Bool.{cond}
use Prim.Native.Nat.{◌+◌, ◌<◌, ℕ}
use native.Mathlib.Omega.{arith}
use lib.ListN.{get_or, length, length-append, set, take}
use lib.Seq.{length-take-le}
use borrow.Author.Tests.{eq-eqb, ne_eqb}
use Rattle.basis.specs.Limits.{most_literals}
use Rattle.basis.specs.declared.Literal.{Literal}
use Rattle.lists.proofs.Arrays.{set_exactly, take_exactly}
use Rattle.lists.proofs.Walks.{take_more, without_more}
use Rattle.lists.specs.Arrays.{exactly, held, held_in, pushed}
use Rattle.lists.specs.declared.Held.{Held}
use Rattle.lists.specs.Lists.{without}
use Rattle.instances.specs.Listed.{Listed, ListedOnce}
use Rattle.calculus.specs.Clauses.{no_literal}

module _ {A B : Type 0} (f : A → B) (i : ℕ) (l : List A) (j : ℕ) (d : A) (h : j < length l) where
  pub others_kept : ¬ (j ≡ i) → map f (without i (take (j + 1) l)) ≡ map f (without i (take j l)) ++ (f (get_or l j d) ∷ [])
  others_kept n =
      let miss = ne_eqb (length (take j l)) i (λ e. n (sym (length-take-le j l (omega arith)) ∙ e)) in
      ap (λ r. map f (without i r)) (take_more l j d h)
      ∙ ap (map f) (without_more i (take j l) (get_or l j d) ∙ ap (λ b. cond b (without i (take j l)) (without i (take j l) ++ (get_or l j d ∷ []))) miss)
      ∙ map-append f (without i (take j l)) (get_or l j d ∷ [])

  pub others_skipped : j ≡ i → map f (without i (take (j + 1) l)) ≡ map f (without i (take j l))
  others_skipped e =
      let hit = eq-eqb (length (take j l)) i (length-take-le j l (omega arith) ∙ e) in
      ap (λ r. map f (without i r)) (take_more l j d h)
      ∙ ap (map f) (without_more i (take j l) (get_or l j d) ∙ ap (λ b. cond b (without i (take j l)) (without i (take j l) ++ (get_or l j d ∷ []))) hit)

-- One more stored behind those stored
pub stored_more : {A : Type 0} (d : A) (most n : ℕ) (at xs ys : List A) (x : A) → n ≡ length xs → at ≡ exactly most d xs → length xs < most → ys ≡ xs ++ (x ∷ [])
    → (n + 1 ≡ length ys) × (set at n x ≡ exactly most d ys)
stored_more d most n at xs ys x p q h e = (omega (arith, ap length e, length-append xs (x ∷ [])), rw (p, q, e) (set_exactly d most xs x h))

-- One more pushed behind those held
pub held_more : {A : Type 0} (b : A) (most : ℕ) (d : Held A most) (xs ys : List A) (x : A) → d ≡ held most b xs → length xs < most → ys ≡ xs ++ (x ∷ []) → pushed d x ≡ held most b ys
held_more b most d xs ys x e h q = rw (e, q) (λ i. record { n = (let s : length xs + 1 ≡ length (xs ++ (x ∷ [])) = omega (arith, length-append xs (x ∷ [])) in s) i; at = set_exactly b most xs x h i })

pub listed_says : {d : Held Literal most_literals} {ls : List Literal} → Listed d ls → held_in d ≡ ls
listed_says {d} {ls} L = rw L.packed (take_exactly no_literal most_literals ls L.few)

pub listed_once : ListedOnce
listed_once d e ls a b = a.packed ∙ sym b.packed
