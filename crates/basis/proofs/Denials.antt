-- Of an atom and its denial exactly one holds, the denial of the denial is the atom, and the test takes both.
use mathlib.Core.Path.{◌≡◌, ap}
use mathlib.Core.Logic.{◌⊎◌, inl, inr}
use mathlib.Core.Bool.{Bool, not, true, false}
use native.Mathlib.Omega.{arith}
use lib.Dec.{T}
use lib.IntN.{ℤ, neg_ℤ, pos, ◌-ℤ◌}
use lib.Signed.{◌≤ℤ◌, ◌<ℤ◌, lt_z, lt_z_no, lt_z_yes}
use Rattle.basis.specs.Atoms.{DenialDenies, DenialProper, DeniedTwice}
use Rattle.basis.specs.Limits.{most_c, most_denied}
use Rattle.integers.proofs.Linear.{le→, lt→, negated, sum, →eq, →le}

module _ (x y c : ℤ) where
  -- Either x - y ≤ c or y - x ≤ -c - 1 ..
  one_side : ((x -ℤ y) ≤ℤ c) ⊎ ((y -ℤ x) ≤ℤ (neg_ℤ c -ℤ pos 1))
  one_side = go (lt_z c (x -ℤ y)) (λ t. lt_z_yes t) (λ t. lt_z_no t)
    where
      go : (b : Bool) → (T b → c <ℤ (x -ℤ y)) → (T (not b) → (x -ℤ y) ≤ℤ c) → ((x -ℤ y) ≤ℤ c) ⊎ ((y -ℤ x) ≤ℤ (neg_ℤ c -ℤ pos 1))
      go true f g = inr (→le (y -ℤ x) (neg_ℤ c -ℤ pos 1) (omega (arith, lt→ (f tt), sum x (neg_ℤ y), negated y, sum y (neg_ℤ x), negated x, sum (neg_ℤ c) (neg_ℤ (pos 1)), negated c)))
      go false f g = inl (g tt)

  -- .. and not both.
  not_both_sides : (x -ℤ y) ≤ℤ c → (y -ℤ x) ≤ℤ (neg_ℤ c -ℤ pos 1) → ⊥
  not_both_sides h k = omega (arith, le→ h, le→ k, sum x (neg_ℤ y), negated y, sum y (neg_ℤ x), negated x, sum (neg_ℤ c) (neg_ℤ (pos 1)), negated c)

pub denial_denies : DenialDenies
denial_denies value a = record { either = one_side (value a.p) (value a.q) a.c; not_both = λ (h, k). not_both_sides (value a.p) (value a.q) a.c h k }

twice : (c : ℤ) → (neg_ℤ (neg_ℤ c -ℤ pos 1) -ℤ pos 1) ≡ c
twice c = →eq (neg_ℤ (neg_ℤ c -ℤ pos 1) -ℤ pos 1) c (omega (arith, sum (neg_ℤ (neg_ℤ c -ℤ pos 1)) (neg_ℤ (pos 1)), negated (neg_ℤ c -ℤ pos 1), sum (neg_ℤ c) (neg_ℤ (pos 1)), negated c))

pub denied_twice : DeniedTwice
denied_twice a = ap (λ (c : ℤ). record { p = a.p; q = a.q; c = c }) (twice a.c)

pub denial_proper : DenialProper
denial_proper most a h = (
  record { p_place = h.p_place; q_place = h.q_place; some_place = h.some_place; c_range = record { low = →le (neg_ℤ (pos most_denied)) a.c (omega (arith, le→ h.c_range.low)); high = h.c_range.high } },
  record {
    p_place = h.q_place;
    q_place = h.p_place;
    some_place = omega (arith, h.some_place);
    c_range = record {
      low = →le (neg_ℤ (pos most_denied)) (neg_ℤ a.c -ℤ pos 1) (omega (arith, le→ h.c_range.high, sum (neg_ℤ a.c) (neg_ℤ (pos 1)), negated a.c));
      high = →le (neg_ℤ a.c -ℤ pos 1) (pos most_c) (omega (arith, le→ h.c_range.low, sum (neg_ℤ a.c) (neg_ℤ (pos 1)), negated a.c));
    };
  },
)
