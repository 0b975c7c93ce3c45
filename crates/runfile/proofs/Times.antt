-- Several readings, one after the other: the first of them, and the others from where it ends.
use mathlib.Core.Path.{◌∙◌, ◌≡◌, ap, refl, sym}
use mathlib.Core.List.{List, [], ◌++◌, ◌∷◌}
use Prim.Native.Nat.{suc, zero, ℕ}
use lib.ListN.{length}
use Rattle.runfile.specs.Readers.{Got, Reader, bad, got, onward, times}
use Rattle.runfile.proofs.Given.{no_value}

-- Of suc n readings from the place i that end at k with xs
pub record Front {A : Type 0} (f : Reader A) (s : List ℕ) (n i : ℕ) (xs : List A) (k : ℕ) : Type 0 where
  pub value : A
  pub place : ℕ
  pub others : List A
  pub first : f s i ≡ got value place
  pub rest : times n f s place ≡ got others k
  pub all : xs ≡ value ∷ others

module _ {A : Type 0} (f : Reader A) (s : List ℕ) where
  alone : (i : ℕ) (xs : List A) (k : ℕ) (g : Got A) → f s i ≡ g → onward g (λ x l. got (x ∷ []) l) ≡ got xs k → Front f s zero i xs k
  unfolding times
  alone i xs k (got x j) q e = record { value = x; place = j; others = []; first = q; rest = cc; all = cc }
  alone i xs k (bad n p) q e = no_value e

  more : (n i : ℕ) (ys : List A) (j : ℕ) (xs : List A) (k : ℕ) → Front f s n i ys j → (g : Got A) → f s j ≡ g → onward g (λ x l. got (ys ++ (x ∷ [])) l) ≡ got xs k → Front f s (suc n) i xs k
  unfolding times
  more n i ys j xs k h (got z l) q e = record {
    value = h.value;
    place = h.place;
    others = h.others ++ (z ∷ []);
    first = h.first;
    rest = rw (h.rest, q) cc;
    all = let a : xs ≡ ys ++ (z ∷ []) = cc in a ∙ ap (λ (l : List A). l ++ (z ∷ [])) h.all;
  }
  more n i ys j xs k h (bad m p) q e = no_value e

  pub times_front : (n i : ℕ) (xs : List A) (k : ℕ) → times (suc n) f s i ≡ got xs k → Front f s n i xs k
  unfolding times
  times_front zero i xs k e = alone i xs k (f s i) refl e
  times_front (suc n) i xs k e = by (times (suc n) f s i) (λ ys j q. times_front n i ys j q) e
    where
      by : (g : Got (List A)) → ((ys : List A) (j : ℕ) → g ≡ got ys j → Front f s n i ys j) → onward g (λ ys j. onward (f s j) (λ x l. got (ys ++ (x ∷ [])) l)) ≡ got xs k → Front f s (suc n) i xs k
      by (got ys j) h e = more n i ys j xs k (h ys j refl) (f s j) refl e
      by (bad m p) h e = no_value e

  -- As many values as readings
  pub times_length : (n i : ℕ) (xs : List A) (k : ℕ) → times n f s i ≡ got xs k → length xs ≡ n
  unfolding times
  times_length zero i xs k e = let z : [] ≡ xs = cc in sym (ap length z)
  times_length (suc n) i xs k e = let h = times_front n i xs k e in ap length h.all ∙ ap suc (times_length n h.place h.others k h.rest)
