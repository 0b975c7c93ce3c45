-- The numbers before the first 0
use mathlib.Core.Path.{◌≡◌, refl, ap, ◌∙◌}
use mathlib.Core.Bool.{Bool, true, false, cond}
use mathlib.Core.List.{List, [], ◌∷◌}
use Prim.Native.Nat.{ℕ, zero, suc, ◌+◌, ◌≤◌}
use native.Mathlib.Omega.{arith}
use borrow.Author.Tests.{ltb-false, ne_eqb}
use lib.ListN.{length, take}
use Rattle.std.specs.Prelude.{Some, None, nat_eq, nat_lt, not, position}
use Rattle.std.proofs.lemmas.List.Sums.{prefix_len-le-length}
use Rattle.std.specs.List.{position_or_len}
use Rattle.std.specs.Option.{unwrap_or}
use Rattle.clausetext.specs.ClauseText.{until_zero}

pub until_short : (xs : List ℕ) → length (until_zero xs) ≤ length xs
until_short [] = omega arith
until_short (zero ∷ xs) = omega arith
until_short (suc x ∷ xs) = omega (arith, until_short xs)

module _ (p : ℕ → Bool) where
  place_within : (xs : List ℕ) → position_or_len p xs ≤ length xs
  place_within xs = prefix_len-le-length (λ x. not (p x)) xs

  place_found : (xs : List ℕ) → unwrap_or (position p xs) (length xs) ≡ position_or_len p xs
  place_found xs = by (nat_lt (position_or_len p xs) (length xs)) refl
    where
      by : (b : Bool) → nat_lt (position_or_len p xs) (length xs) ≡ b → unwrap_or (cond b (Some (position_or_len p xs)) None) (length xs) ≡ position_or_len p xs
      by true e = refl
      by false e = omega (arith, ltb-false (position_or_len p xs) (length xs) e, place_within xs)

taken : (xs : List ℕ) → take (position_or_len (λ n. nat_eq n 0) xs) xs ≡ until_zero xs
taken [] = refl
taken (zero ∷ xs) = refl
taken (suc x ∷ xs) =
    let k = position_or_len (λ n. nat_eq n 0) xs in
    let more : 1 + k ≡ suc k = omega arith in
    rw (ne_eqb (suc x) 0 (λ e. omega arith)) (ap (λ (n : ℕ). take n (suc x ∷ xs)) more ∙ ap (λ (l : List ℕ). suc x ∷ l) (taken xs))

-- What the code takes: as many as come before the first 0, or all
pub shown_within : (xs : List ℕ) → unwrap_or (position (λ n. nat_eq n 0) xs) (length xs) ≤ length xs
shown_within xs = rw (place_found (λ n. nat_eq n 0) xs) (place_within (λ n. nat_eq n 0) xs)

pub until_taken : (xs : List ℕ) → take (unwrap_or (position (λ n. nat_eq n 0) xs) (length xs)) xs ≡ until_zero xs
until_taken xs = ap (λ (n : ℕ). take n xs) (place_found (λ n. nat_eq n 0) xs) ∙ taken xs
