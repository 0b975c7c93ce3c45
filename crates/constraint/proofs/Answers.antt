-- Yes where every atom is put in, no where one closes a chain below zero.
use mathlib.Core.Path.{◌≡◌, refl}
use Rattle.std.specs.Prelude.{Some, None}
use mathlib.Core.Bool.{true}
use mathlib.Core.List.{List}
use Prim.Native.Nat.{ℕ, suc, ◌<◌}
use native.Mathlib.Omega.{arith}
use lib.ListN.{length}
use lib.IntN.{ℤ, pos, negsuc, ◌+ℤ◌}
use lib.Signed.{lt_z}
use Rattle.basis.specs.declared.Atom.{Atom}
use Rattle.basis.specs.Numbers.{whole}
use Rattle.basis.specs.Atoms.{Possible}
use Rattle.basis.specs.Choices.{less_zero}
use Rattle.integers.proofs.Order.{by_order_lem, by_sum}
use Rattle.bounds.specs.Whole.{Together, whole_bounds}
use Rattle.bounds.specs.Squares.{values}
use Rattle.bounds.proofs.Draw.{drawn}
use Rattle.bounds.proofs.Numbers.{numbers_exist}
use Rattle.constraint.specs.Test.{Accepted, atom_at}
use Rattle.constraint.specs.Square.{places, most_bound, entry, Keeping, Stands, Ordered, Meets, Posed}
use Rattle.constraint.proofs.Numbers.{placed, square_numbers}
use Rattle.constraint.proofs.Stands.{stands_none}
use Rattle.constraint.proofs.Steps.{place_p, place_q, within_c, among}
use Rattle.constraint.specs.Witnesses.{packed_numbers}

module _ (constants : ℕ) (atoms : List Atom) (A : Accepted constants atoms) where
  pub answer_yes : (t : List (List ℤ)) → Stands (Posed constants atoms (length atoms)) t →
      Keeping constants atoms (Some (packed_numbers (less_zero constants (values whole_bounds constants (entry t)))))
  answer_yes t S = let found = square_numbers constants atoms A t S in ((numbers_exist constants atoms (placed constants atoms A)).1 (_, found), (_, found, refl))

  module _ (P : Possible whole constants atoms) where
    -- Numbers that are possible, drawn together: they keep the order and each atom.
    near : (w : ℕ → ℤ) × Together places most_bound P.value w
    near = drawn places most_bound P.value

    in_order : Ordered constants near.0
    in_order = (
      (λ i j hi hj. near.1.near i j),
      λ j a b. near.1.kept j (suc j) (negsuc 0) (omega (arith, A.few_enough.few_constants)) (omega (arith, A.few_enough.few_constants)) (record { above = omega arith; below = omega arith })
          (by_order_lem (P.value j) (P.value (suc j)) (P.rising j a b)),
    )

    meets : (k : ℕ) → k < length atoms → Meets atoms near.0 k
    meets k h = near.1.kept (atom_at atoms k).p (atom_at atoms k).q (atom_at atoms k).c (place_p constants atoms A k h) (place_q constants atoms A k h) (within_c constants atoms A k h)
        (by_sum (P.value (atom_at atoms k).p) (P.value (atom_at atoms k).q) (atom_at atoms k).c (P.every (atom_at atoms k) (among constants atoms A k h)))

  pub answer_no : (k : ℕ) (h : k < length atoms) (t : List (List ℤ)) → Stands (Posed constants atoms k) t → lt_z ((atom_at atoms k).c +ℤ entry t (atom_at atoms k).q (atom_at atoms k).p) (pos 0) ≡ true →
      Keeping constants atoms None
  answer_no k h t S e P = stands_none (Posed constants atoms k) t S (atom_at atoms k).p (atom_at atoms k).q (atom_at atoms k).c (place_p constants atoms A k h) (place_q constants atoms A k h) e (near P).0
      (in_order P, λ j i. meets P j (omega arith)) (meets P k h)
