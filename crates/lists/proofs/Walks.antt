-- One element more at the end: what each walk over the first elements of an array does at its next turn.
use mathlib.Core.Path.{◌∙◌, ◌≡◌, ap, ap₂, refl}
use mathlib.Core.List.{List, [], ◌++◌, ◌∷◌, map, map-append}
use mathlib.Core.Bool.{Bool, ◌&&◌, ◌||◌, cond, false, true}
use Prim.Native.Nat.{◌+◌, ◌<◌, ◌≤◌, suc, zero, ℕ}
use native.Mathlib.Numerals.{add-one}
use native.Mathlib.Omega.{arith}
use lib.Dec.{eqb, eqb-suc-suc, eqb-suc-zero, eqb-zero-suc}
use lib.ListN.{get_or, length, take}
use lib.Seq.{take-suc}
use Rattle.lists.specs.Lists.{all_of, any_of, keep_if, up_from, without}

module _ {A : Type 0} where
  pub take_more : (l : List A) (j : ℕ) (d : A) → j < length l → take (j + 1) l ≡ take j l ++ (get_or l j d ∷ [])
  take_more l j d h = rw add-one (take-suc l j d h)

  pub any_of_more : (p : A → Bool) (l : List A) (x : A) → any_of p (l ++ (x ∷ [])) ≡ (any_of p l || p x)
  any_of_more p [] x = go (p x)
    where
      go : (b : Bool) → (b || false) ≡ b
      go true = refl
      go false = refl
  any_of_more p (y ∷ l) x = ap (λ b. p y || b) (any_of_more p l x) ∙ go (p y)
    where
      go : (a : Bool) → (a || (any_of p l || p x)) ≡ (a || any_of p l || p x)
      go true = refl
      go false = refl

  pub all_of_more : (p : A → Bool) (l : List A) (x : A) → all_of p (l ++ (x ∷ [])) ≡ (all_of p l && p x)
  all_of_more p [] x = go (p x)
    where
      go : (b : Bool) → (b && true) ≡ b
      go true = refl
      go false = refl
  all_of_more p (y ∷ l) x = ap (λ b. p y && b) (all_of_more p l x) ∙ go (p y)
    where
      go : (a : Bool) → (a && (all_of p l && p x)) ≡ (a && all_of p l && p x)
      go true = refl
      go false = refl

  pub keep_if_more : (p : A → Bool) (l : List A) (x : A) → keep_if p (l ++ (x ∷ [])) ≡ cond (p x) (keep_if p l ++ (x ∷ [])) (keep_if p l)
  keep_if_more p [] x = go (p x)
    where
      go : (b : Bool) → cond b (x ∷ []) [] ≡ cond b (x ∷ []) []
      go b = refl
  keep_if_more p (y ∷ l) x = ap (λ r. cond (p y) (y ∷ r) r) (keep_if_more p l x) ∙ go (p y) (p x) (keep_if p l)
    where
      go : (a b : Bool) (r : List A) → cond a (y ∷ cond b (r ++ (x ∷ [])) r) (cond b (r ++ (x ∷ [])) r) ≡ cond b (cond a (y ∷ r) r ++ (x ∷ [])) (cond a (y ∷ r) r)
      go true true r = refl
      go true false r = refl
      go false b r = refl

  pub keep_if_short : (p : A → Bool) (l : List A) → length (keep_if p l) ≤ length l
  keep_if_short p [] = omega arith
  keep_if_short p (x ∷ l) = go (p x) (keep_if p l) (keep_if_short p l)
    where
      go : (b : Bool) (m : List A) → length m ≤ length l → length (cond b (x ∷ m) m) ≤ suc (length l)
      go true m h = omega arith
      go false m h = omega arith

  pub without_more : (i : ℕ) (l : List A) (x : A) → without i (l ++ (x ∷ [])) ≡ cond (eqb (length l) i) (without i l) (without i l ++ (x ∷ []))
  without_more zero [] x = refl
  without_more (suc i) [] x = rw eqb-zero-suc
  without_more zero (y ∷ l) x = rw eqb-suc-zero
  without_more (suc i) (y ∷ l) x = rw eqb-suc-suc (ap (λ r. y ∷ r) (without_more i l x) ∙ go (eqb (length l) i))
    where
      go : (b : Bool) → y ∷ cond b (without i l) (without i l ++ (x ∷ [])) ≡ cond b (y ∷ without i l) (y ∷ (without i l ++ (x ∷ [])))
      go true = refl
      go false = refl

  pub without_short : (i : ℕ) (l : List A) → length (without i l) ≤ length l
  without_short i [] = omega arith
  without_short zero (y ∷ l) = omega arith
  without_short (suc i) (y ∷ l) = omega (arith, without_short i l)

module _ {A : Type 0} (p : A → Bool) where
  -- None so far and not here
  pub any_of_not : (l : List A) (j : ℕ) (d : A) → j < length l → any_of p (take j l) ≡ false → p (get_or l j d) ≡ false → any_of p (take (j + 1) l) ≡ false
  any_of_not l j d h e g = ap (any_of p) (take_more l j d h) ∙ any_of_more p (take j l) (get_or l j d) ∙ ap₂ (λ a b. a || b) e g

  -- One of the first n
  pub any_of_found : (l : List A) (j n : ℕ) (d : A) → j < n → j < length l → p (get_or l j d) ≡ true → any_of p (take n l) ≡ true
  any_of_found [] j n d h k e = absurd (omega arith)
  any_of_found (x ∷ l) j zero d h k e = absurd (omega arith)
  any_of_found (x ∷ l) zero (suc n) d h k e = rw e
  any_of_found (x ∷ l) (suc j) (suc n) d h k e = rw (any_of_found l j n d (omega arith) (omega arith) e) (go (p x))
    where
      go : (b : Bool) → (b || true) ≡ true
      go true = refl
      go false = refl

  -- All so far and here
  pub all_of_and : (l : List A) (j : ℕ) (d : A) → j < length l → all_of p (take j l) ≡ true → p (get_or l j d) ≡ true → all_of p (take (j + 1) l) ≡ true
  all_of_and l j d h e g = ap (all_of p) (take_more l j d h) ∙ all_of_more p (take j l) (get_or l j d) ∙ ap₂ (λ a b. a && b) e g

  -- Not one of the first n
  pub all_of_fails : (l : List A) (j n : ℕ) (d : A) → j < n → j < length l → p (get_or l j d) ≡ false → all_of p (take n l) ≡ false
  all_of_fails [] j n d h k e = absurd (omega arith)
  all_of_fails (x ∷ l) j zero d h k e = absurd (omega arith)
  all_of_fails (x ∷ l) zero (suc n) d h k e = rw e
  all_of_fails (x ∷ l) (suc j) (suc n) d h k e = rw (all_of_fails l j n d (omega arith) (omega arith) e) (go (p x))
    where
      go : (b : Bool) → (b && false) ≡ false
      go true = refl
      go false = refl

pub map_more : {A B : Type 0} (f : A → B) (l : List A) (j : ℕ) (d : A) → j < length l → map f (take (j + 1) l) ≡ map f (take j l) ++ (f (get_or l j d) ∷ [])
map_more f l j d h = ap (map f) (take_more l j d h) ∙ map-append f (take j l) (get_or l j d ∷ [])

pub up_from_more : (a n : ℕ) → up_from a (n + 1) ≡ up_from a n ++ ((a + n) ∷ [])
up_from_more a n = rw add-one (go a n)
  where
    go : (a n : ℕ) → up_from a (suc n) ≡ up_from a n ++ ((a + n) ∷ [])
    go a zero = ap (λ (k : ℕ). k ∷ []) (omega arith)
    go a (suc n) = ap (λ r. a ∷ r) (go (suc a) n ∙ ap (λ (k : ℕ). up_from (suc a) n ++ (k ∷ [])) (omega arith))

pub up_from_length : (a n : ℕ) → length (up_from a n) ≡ n
up_from_length a zero = refl
up_from_length a (suc n) = ap suc (up_from_length (suc a) n)
