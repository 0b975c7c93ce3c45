-- The square, step by step: one constant more in order, one atom more.
use mathlib.Core.Path.{◌≡◌}
use mathlib.Core.Bool.{false}
use mathlib.Core.List.{List, Memᴰ}
use Prim.Native.Nat.{ℕ, ◌+◌, ◌<◌}
use native.Mathlib.Omega.{arith}
use lib.ListN.{length}
use lib.IntN.{ℤ, pos, ◌+ℤ◌}
use lib.Signed.{lt_z}
use borrow.Author.Count.{below_more}
use Rattle.basis.specs.declared.Atom.{Atom}
use Rattle.basis.specs.Atoms.{no_atom}
use Rattle.lists.proofs.Members.{get_d_mem}
use Rattle.integers.specs.Sides.{Within}
use Rattle.integers.proofs.Linear.{le→}
use Rattle.bounds.specs.Whole.{whole_bounds}
use Rattle.bounds.specs.Squares.{put}
use Rattle.constraint.specs.Test.{Accepted, atom_at}
use Rattle.constraint.specs.Square.{places, most_bound, entry, Stands, Ordered, Meets, Posed}
use Rattle.constraint.proofs.Stands.{stands_as, stands-put}

-- No atom is put in yet.
pub atoms_none : (constants : ℕ) (atoms : List Atom) (t : List (List ℤ)) → Stands (Ordered constants) t → Stands (Posed constants atoms 0) t
atoms_none constants atoms t S = stands_as S (λ v. (λ h. (h, λ j a. absurd (omega arith)), λ h. h.0))

module _ (constants : ℕ) (atoms : List Atom) (A : Accepted constants atoms) (k : ℕ) (hk : k < length atoms) where
  pub place_p : (atom_at atoms k).p < places
  place_p = omega (arith, (A.proper k hk).p_place, A.few_enough.few_constants)

  pub place_q : (atom_at atoms k).q < places
  place_q = omega (arith, (A.proper k hk).q_place, A.few_enough.few_constants)

  pub within_c : Within most_bound (atom_at atoms k).c
  within_c = record { above = omega (arith, le→ (A.proper k hk).c_range.high); below = omega (arith, le→ (A.proper k hk).c_range.low) }

  pub among : Memᴰ (atom_at atoms k) atoms
  among = get_d_mem atoms k no_atom hk

  pub atoms_more : (t r : List (List ℤ)) → Stands (Posed constants atoms k) t →
      ((i j : ℕ) → i < places → j < places → entry r i j ≡ put whole_bounds (entry t) (atom_at atoms k).p (atom_at atoms k).q (atom_at atoms k).c i j) →
      lt_z ((atom_at atoms k).c +ℤ entry t (atom_at atoms k).q (atom_at atoms k).p) (pos 0) ≡ false → Stands (Posed constants atoms (k + 1)) r
  atoms_more t r S is e = stands_as (stands-put (Posed constants atoms k) t S (atom_at atoms k).p (atom_at atoms k).q (atom_at atoms k).c place_p place_q r is e)
      (λ v. (λ h. (h.0.0, below_more (Meets atoms v) k h.0.1 h.1), λ h. ((h.0, λ j a. h.1 j (omega arith)), h.1 k (omega arith))))
