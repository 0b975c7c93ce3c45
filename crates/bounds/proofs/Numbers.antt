-- The numbers behind a yes are unique, exist exactly if the atoms are possible, and make every atom true; and how far from 0 they come.
use mathlib.Core.Path.{◌≡◌, refl, sym, ap, subst, subst₂, ◌∙◌}
use mathlib.Core.Logic.{◌⊎◌, inl, inr}
use mathlib.Core.List.{List, Memᴰ}
use Prim.Native.Nat.{ℕ, zero, suc, ◌+◌, ◌-◌, ◌*◌, ◌≤◌, ◌<◌}
use native.Mathlib.Nat.{sub_self, sub-zero, suc-mul, zero-mul}
use native.Mathlib.Omega.{arith}
use lib.IntN.{ℤ, pos, negsuc, neg_ℤ, ◌+ℤ◌, ◌-ℤ◌, +ℤ_idl, +ℤ_invr}
use lib.ListN.{length}
use lib.Signed.{◌≤ℤ◌, ◌<ℤ◌}
use Rattle.basis.specs.declared.Atom.{Atom}
use Rattle.basis.specs.Atoms.{Holds, Possible}
use Rattle.basis.specs.Choices.{Choice, LargestChoice, NumbersOf}
use Rattle.basis.specs.Numbers.{whole}
use Rattle.basis.proofs.Choices.{less_zero_at, less_zero_length, less_zero_same}
use Rattle.integers.specs.Sides.{Within, over, under}
use Rattle.integers.proofs.Linear.{le→, →le, →lt, →eq, sum, negated}
use Rattle.integers.proofs.Order.{≤ℤ_antisym, near_below_zero, of_sum, shifted_holds, shifted_rises}
use Rattle.bounds.specs.Squares.{Keeps, values}
use Rattle.bounds.specs.Whole.{whole_bounds}
use Rattle.bounds.specs.Choices.{MagnitudeReached, NearKept, NumbersChecked, NumbersExist, NumbersOnce, NumbersWithin, Placed, number_at}
use Rattle.bounds.proofs.Choices.{choice_keeps, choice_rises, square_gives}
use Rattle.bounds.proofs.Draw.{draw, nearer, together}
use Rattle.bounds.proofs.Decided.{Squared, link, links, links_in, links_out, m, far, shifted, squared}

-- The largest choices agree at every place.
pub numbers_once : NumbersOnce
numbers_once constants atoms ms ns M N = M.less_zero
    ∙ less_zero_same constants M.choice N.choice (λ i h. ≤ℤ_antisym (N.largest.largest M.choice M.largest.choice i h) (M.largest.largest N.choice N.largest.choice i h))
    ∙ sym N.less_zero

pub numbers_exist : NumbersExist
numbers_exist constants atoms placed = (λ P. given P (squared constants atoms), λ (numbers, N). possible N)
  where
    given : Possible whole constants atoms → (¬ Possible whole constants atoms) ⊎ Squared (m constants atoms) (NearKept (m constants atoms) (far constants atoms) constants atoms) → (numbers : List ℤ) × NumbersOf constants atoms numbers
    given P (inl none) = absurd (none P)
    given P (inr S) = (
      _,
      record {
        choice = values whole_bounds constants S.square;
        largest = square_gives (m constants atoms) (far constants atoms) constants atoms S.square (omega arith) placed S.closed S.exact;
        less_zero = refl;
      },
    )

    possible : {numbers : List ℤ} → NumbersOf constants atoms numbers → Possible whole constants atoms
    possible N = let C = N.largest.choice in shifted constants atoms N.choice (choice_rises C) (choice_keeps C)

-- The number at a place, by the choice
pub number_at_lem : {constants : ℕ} {atoms : List Atom} {numbers : List ℤ} (N : NumbersOf constants atoms numbers) (i : ℕ) → i ≤ constants → number_at numbers i ≡ N.choice i -ℤ N.choice 0
number_at_lem N zero h = sym (+ℤ_invr (N.choice 0))
number_at_lem {constants} N (suc k) h = ap (λ (l : List ℤ). number_at l (suc k)) N.less_zero ∙ less_zero_at constants N.choice k h

pub numbers_checked : NumbersChecked
numbers_checked constants atoms numbers placed N = let v = N.choice in let C = N.largest.choice in record {
  one_each = ap length N.less_zero ∙ less_zero_length constants v;
  rising = λ i l h. subst₂ ◌<ℤ◌ (sym (number_at_lem N i (omega arith))) (sym (number_at_lem N (suc i) h)) (shifted_rises (v i) (v (suc i)) (v 0) (choice_rises C i l h));
  every = λ a k. let (p, q) = placed a k in subst₂ (λ (x y : ℤ). (x -ℤ y) ≤ℤ a.c) (sym (number_at_lem N a.p p)) (sym (number_at_lem N a.q q)) (shifted_holds (v a.p) (v a.q) (v 0) a.c (choice_keeps C a k));
}

-- ---- none is far from 0

module _ (constants b : ℕ) (atoms : List Atom) (v : ℕ → ℤ) (some : 1 ≤ b) (placed : Placed constants atoms) (within : (a : Atom) → Memᴰ a atoms → Within b a.c)
    (L : LargestChoice constants atoms v) where
  -- The largest choice, drawn together ..
  abbrev w : ℕ → ℤ
  w = draw (suc constants) b v

  abbrev spread : ℤ
  spread = pos (constants * b)

  w_near : (i j : ℕ) → Keeps whole_bounds w i j spread
  w_near i j = subst (λ (n : ℕ). Keeps whole_bounds w i j (pos n)) (omega (arith, suc-mul constants b)) (nearer (suc constants) b v (omega arith) i j)

  w_keeps : (p q : ℕ) (c : ℤ) → p ≤ constants → q ≤ constants → Within b c → Keeps whole_bounds v p q c → Keeps whole_bounds w p q c
  w_keeps p q c hp hq = (together (suc constants) b v).kept p q c (omega arith) (omega arith)

  -- .. and shifted until a place is just so far below zero, is a choice.
  module _ (i : ℕ) where
    abbrev u : ℕ → ℤ
    u k = w k -ℤ (spread +ℤ w i)

    u_choice : Choice constants atoms u
    u_choice = record {
      none_above = λ k h. of_sum (w k) (spread +ℤ w i) (pos 0) (rw (+ℤ_idl (spread +ℤ w i)) (w_near k i));
      rising = λ k l h. shifted_rises (w k) (w (suc k)) (spread +ℤ w i) (w_keeps k (suc k) (negsuc 0) (omega arith) (omega arith) (record { above = omega arith; below = omega arith }) (choice_rises L.choice k l h));
      every = λ a k. let (p, q) = placed a k in shifted_holds (w a.p) (w a.q) (spread +ℤ w i) a.c (w_keeps a.p a.q a.c p q (within a k) (choice_keeps L.choice a k));
    }

    -- So no place of the largest lies further down.
    not_far : i ≤ constants → pos 0 ≤ℤ (spread +ℤ v i)
    not_far h = →le (pos 0) (spread +ℤ v i) (omega (arith, le→ (L.largest u u_choice i h), sum (w i) (neg_ℤ (spread +ℤ w i)), negated (spread +ℤ w i), sum spread (w i), sum spread (v i)))

pub numbers_within : NumbersWithin
numbers_within constants b atoms numbers some placed within N k h = subst (Within (constants * b)) (sym (number_at_lem N (suc k) h))
    (near_below_zero (N.largest.choice.none_above (suc k) h) (low (suc k) h) (N.largest.choice.none_above 0 (omega arith)) (low 0 (omega arith)))
  where
    low : (i : ℕ) → i ≤ constants → pos 0 ≤ℤ (pos (constants * b) +ℤ N.choice i)
    low i h = not_far constants b atoms N.choice some placed within N.largest i h

-- ---- one is just so far

-- Each place lies b below the next, zero among them.
module _ (n b : ℕ) where
  abbrev steps : List Atom
  steps = links (neg_ℤ (pos b)) 0 n

  steps_placed : Placed n steps
  steps_placed a k = let (i, l, h, e) = links_out (neg_ℤ (pos b)) 0 n a k in subst (λ (x : Atom). (x.p ≤ n) × (x.q ≤ n)) (sym e) (omega arith, omega arith)

  steps_within : (a : Atom) → Memᴰ a steps → Within b a.c
  steps_within a k = let (i, l, h, e) = links_out (neg_ℤ (pos b)) 0 n a k in
      subst (λ (x : Atom). Within b x.c) (sym e) (record { above = omega (arith, negated (pos b)); below = omega (arith, negated (pos b)) })

  stair : ℕ → ℤ
  stair i = neg_ℤ (pos ((n - i) * b))

  -- How deep a place lies
  stair_is : (i : ℕ) → (over (stair i) ≡ 0) × (under (stair i) ≡ (n - i) * b)
  unfolding stair
  stair_is i = negated (pos ((n - i) * b))

  deeper : (i : ℕ) → i < n → (n - i) * b ≡ (n - suc i) * b + b
  deeper i h = ap (λ (m : ℕ). m * b) (next i h) ∙ suc-mul (n - suc i) b
    where
      next : (i : ℕ) → i < n → n - i ≡ suc (n - suc i)
      next i h = omega arith

  stair_steps : (i : ℕ) → i < n → stair i ≤ℤ (neg_ℤ (pos b) +ℤ stair (suc i))
  stair_steps i h = →le (stair i) (neg_ℤ (pos b) +ℤ stair (suc i)) (omega (arith, stair_is i, stair_is (suc i), deeper i h, sum (neg_ℤ (pos b)) (stair (suc i)), negated (pos b)))

  stair_choice : 1 ≤ b → Choice n steps stair
  stair_choice some = record {
    none_above = λ i h. →le (stair i) (pos 0) (omega (arith, stair_is i));
    rising = λ i l h. →lt (stair i) (stair (suc i)) (omega (arith, stair_is i, stair_is (suc i), deeper i h));
    every = λ a k. let (i, l, h, e) = links_out (neg_ℤ (pos b)) 0 n a k in subst (Holds whole stair) (sym e) (of_sum (stair i) (stair (suc i)) (neg_ℤ (pos b)) (stair_steps i (omega arith)));
  }

  none_higher : (u : ℕ → ℤ) → Choice n steps u → (j i : ℕ) → i + j ≡ n → over (u i) + j * b ≤ under (u i)
  none_higher u U zero i e = omega (arith, le→ (U.none_above i (omega arith)), zero-mul b)
  none_higher u U (suc j) i e = omega (
    arith,
    le→ (choice_keeps U (link (neg_ℤ (pos b)) i) (links_in (neg_ℤ (pos b)) 0 n i (omega arith) (omega arith))),
    sum (neg_ℤ (pos b)) (u (suc i)),
    negated (pos b),
    none_higher u U j (suc i) (omega arith),
    suc-mul j b,
  )

  stair_largest : 1 ≤ b → LargestChoice n steps stair
  stair_largest some = record { choice = stair_choice some; largest = λ u U i h. →le (u i) (stair i) (omega (arith, stair_is i, none_higher u U (n - i) i (omega arith))) }

  stair_high : stair n -ℤ stair 0 ≡ pos (n * b)
  stair_high = →eq (stair n -ℤ stair 0) (pos (n * b)) (omega (
    arith,
    sum (stair n) (neg_ℤ (stair 0)),
    negated (stair 0),
    stair_is n,
    stair_is 0,
    ap (λ (m : ℕ). m * b) (sub_self n),
    zero-mul b,
    ap (λ (m : ℕ). m * b) (sub-zero n),
  ))

pub magnitude_reached : MagnitudeReached
magnitude_reached k b some = (
  steps (suc k) b,
  steps_placed (suc k) b,
  steps_within (suc k) b,
  _,
  record { choice = stair (suc k) b; largest = stair_largest (suc k) b some; less_zero = refl },
  less_zero_at (suc k) (stair (suc k) b) k (omega arith) ∙ stair_high (suc k) b,
)
