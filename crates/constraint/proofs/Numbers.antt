-- The numbers behind a yes: the array is filled constant by constant from the square's values, which are not far; and they are the largest
-- choice, since the square says of values what the order and the atoms say.
use mathlib.Core.Path.{◌≡◌, ap, refl, subst, sym, ◌∙◌}
use mathlib.Core.Logic.{◌↔◌, ⊎_elim}
use mathlib.Core.List.Memᴰ
use mathlib.Core.List.{List, Memᴰ, [], ◌∷◌}
use Prim.Native.Nat.{ℕ, suc, ◌+◌, ◌-◌, ◌≤◌, ◌<◌}
use native.Mathlib.Numerals.{add-one}
use native.Mathlib.Omega.{arith}
use lib.ListN.{drop, get_or, length, set, take}
use Rattle.std.proofs.lemmas.List.{get_or-take}
use Rattle.std.proofs.lemmas.Grind.{get_or_after_one}
use lib.IntN.{ℤ, pos, ◌-ℤ◌}
use Rattle.basis.specs.declared.Atom.{Atom}
use Rattle.basis.specs.Limits.{most_constants}
use Rattle.basis.specs.Choices.{NumbersOf, less_zero}
use Rattle.basis.proofs.Choices.{less_zero_length}
use Rattle.lists.proofs.Arrays.{set_exactly}
use Rattle.integers.specs.Sides.{Within}
use Rattle.bounds.specs.Whole.{whole_bounds}
use Rattle.bounds.specs.Squares.{Keeps, values}
use Rattle.bounds.specs.Choices.{NearKept, Placed}
use Rattle.bounds.proofs.Lower.{lowest_all}
use Rattle.bounds.proofs.Choices.{square_gives}
use Rattle.constraint.specs.Test.{Accepted, atom_at}
use Rattle.constraint.specs.Square.{places, far, entry, Sound, Stands, Posed}
use Rattle.constraint.proofs.Steps.{among}
use Rattle.constraint.specs.Witnesses.{packed_numbers}

pub values_within : (constants : ℕ) (t : List (List ℤ)) → constants ≤ most_constants → Sound t → (i : ℕ) → i < places → Within far (values whole_bounds constants (entry t) i)
values_within constants t few S i h = lowest_all whole_bounds (Within far) (entry t i) constants (λ j k. S.small i j h (omega arith))

-- The rows of the constants, which follow zero's
pub row_after : (n k : ℕ) (t : List (List ℤ)) → k < n → get_or (take (n + 1 - 1) (drop 1 t)) k [] ≡ get_or t (k + 1) []
row_after n k t h = get_or-take (n + 1 - 1) (drop 1 t) k [] (omega arith) ∙ get_or_after_one t k [] ∙ ap (λ (i : ℕ). get_or t i []) (omega arith)

-- One constant more
pub numbers_turn : (k : ℕ) (v : ℕ → ℤ) → k < most_constants → set (packed_numbers (less_zero k v)) k (v (k + 1) -ℤ v 0) ≡ packed_numbers (less_zero (k + 1) v)
numbers_turn k v h = rw add-one (ap (λ (i : ℕ). set (packed_numbers (less_zero k v)) i (v (suc k) -ℤ v 0)) (sym (less_zero_length k v))
    ∙ set_exactly (pos 0) most_constants (less_zero k v) (v (suc k) -ℤ v 0) (omega (arith, less_zero_length k v)))

-- What holds at each place holds of each member.
pub of_members : (P : Atom → Type 0) (atoms : List Atom) → ((k : ℕ) → k < length atoms → P (atom_at atoms k)) → (a : Atom) → Memᴰ a atoms → P a
of_members P [] h a m = absurd (Memᴰ.not-nil m)
of_members P (x ∷ atoms) h a m = ⊎_elim (λ e. subst P (sym e) (h 0 (omega arith))) (λ k. of_members P atoms (λ j i. h (suc j) (omega arith)) a k) (Memᴰ.cases_cons m)

module _ (constants : ℕ) (atoms : List Atom) (A : Accepted constants atoms) where
  pub placed : Placed constants atoms
  placed = of_members (λ a. (a.p ≤ constants) × (a.q ≤ constants)) atoms (λ k h. ((A.proper k h).p_place, (A.proper k h).q_place))

  -- The atoms by their places, and as members of the list
  posed_near : (v : ℕ → ℤ) → Posed constants atoms (length atoms) v ↔ NearKept most_constants far constants atoms v
  posed_near v = (
    λ h. record { near = h.0.0; rising = h.0.1; every = of_members (λ a. Keeps whole_bounds v a.p a.q a.c) atoms h.1 },
    λ h. ((h.near, h.rising), λ k i. h.every _ (among constants atoms A k i)),
  )

  pub square_numbers : (t : List (List ℤ)) → Stands (Posed constants atoms (length atoms)) t → NumbersOf constants atoms (less_zero constants (values whole_bounds constants (entry t)))
  square_numbers t S = record {
    choice = values whole_bounds constants (entry t);
    largest = square_gives most_constants far constants atoms (entry t) A.few_enough.few_constants placed S.sound.closed
        (λ v. (λ h. (posed_near v).0 ((S.exact v).0 h), λ h. (S.exact v).1 ((posed_near v).1 h)));
    less_zero = refl;
  }
