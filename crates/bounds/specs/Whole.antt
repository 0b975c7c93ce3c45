-- The whole numbers as a kind of bound, and how far apart values need to be: what lets a far bound stand in place of none.
use Rattle.std.specs.Prelude.{ℕ, ◌*◌, ◌<◌, ℤ, pos, ◌+ℤ◌, ◌≤ℤ◌}
use Rattle.std.proofs.Math.IntN.{+ℤ_idl, +ℤ_assoc, +ℤ_comm}
use Rattle.std.specs.Int.Signed.{lt_z, ≤ℤ_refl, clash_ℤ}
use Rattle.integers.specs.Sides.{Within}
use Rattle.integers.proofs.Order.{lt_z_true, lt_z_false, <→≤, ≤ℤ_trans, ≤ℤ_antisym, +ℤ_mono, +ℤ_cancel}
use Rattle.bounds.specs.Kinds.{Kind}
use Rattle.bounds.specs.Squares.{Keeps}

abbrev pub whole_bounds : Kind
whole_bounds = record {
  Bound = ℤ;
  plus = ◌+ℤ◌;
  nought = pos 0;
  less = lt_z;
  AtMost = ◌≤ℤ◌;
  plus_nought = +ℤ_idl;
  plus_assoc = +ℤ_assoc;
  plus_comm = +ℤ_comm;
  refl_most = ≤ℤ_refl;
  trans = ≤ℤ_trans;
  antisym = ≤ℤ_antisym;
  add = +ℤ_mono;
  cancel = +ℤ_cancel;
  less_yes = λ e. <→≤ (lt_z_true e);
  less_no = lt_z_false;
  less_not = λ e h. clash_ℤ (lt_z_true e) h;
}

-- The values w keep every bound from -b to b between m places that the values v keep, and no two of them lie further apart than m * b.
pub record Together (m b : ℕ) (v w : ℕ → ℤ) : Type 0 where
  pub kept : (p q : ℕ) (c : ℤ) → p < m → q < m → Within b c → Keeps whole_bounds v p q c → Keeps whole_bounds w p q c
  pub near : (i j : ℕ) → Keeps whole_bounds w i j (pos (m * b))

-- Values can be drawn together: proved in proofs/Draw.antt.
abbrev pub Drawn : Type 0
Drawn = (m b : ℕ) (v : ℕ → ℤ) → (w : ℕ → ℤ) × Together m b v w
