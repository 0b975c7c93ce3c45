-- Several readings, one after the other, of which something is made.
use mathlib.Core.Path.{◌∙◌, ◌≡◌, ap, refl, sym}
use mathlib.Core.List.{List, [], ◌++◌, ◌∷◌, map, map-append}
use Prim.Native.Nat.{◌+◌, ◌-◌, ◌<◌, suc, zero, ℕ}
use native.Mathlib.Omega.{arith}
use lib.ListN.{length, length-append}
use Rattle.lists.specs.Arrays.{held, pushed}
use Rattle.lists.specs.declared.Held.{Held}
use Rattle.lists.proofs.Arrays.{set_exactly}
use Rattle.runfile.specs.Readers.{Got, Reader, ◌then◌, bad, give, got, onward, times}
use Rattle.runfile.proofs.Given.{no_value}
use Rattle.runfile.proofs.Times.{times_length}
use Rattle.fields.specs.Views.{filled}

module _ {A : Type 0} (f : Reader A) (s : List ℕ) (i : ℕ) where
  -- One more
  more : (j : ℕ) (xs : List A) (k : ℕ) (x : A) (l : ℕ) → times j f s i ≡ got xs k → f s k ≡ got x l → times (suc j) f s i ≡ got (xs ++ (x ∷ [])) l
  unfolding times
  more j xs k x l e h = rw (e, h)

  -- A refusal ends all of them.
  ended : (j : ℕ) (xs : List A) (k m p : ℕ) → times j f s i ≡ got xs k → f s k ≡ bad m p → (d : ℕ) → times (suc (d + j)) f s i ≡ bad m p
  unfolding times
  ended j xs k m p e h zero = let a : 0 + j ≡ j = omega arith in rw (a, e, h)
  ended j xs k m p e h (suc d) = let a : suc d + j ≡ suc (d + j) = omega arith in rw (a, ended j xs k m p e h d)

  module _ {B : Type 0} (make : List A → B) where
    abbrev made : ℕ → Got B
    made n = onward (times n f s i) (λ xs k. got (make xs) k)

    -- Of the values that were read y was made.
    record Made (j : ℕ) (y : B) (k : ℕ) : Type 0 where
      values : List A
      reads : times j f s i ≡ got values k
      is : y ≡ make values

    of_made : (j : ℕ) (y : B) (k : ℕ) → made j ≡ got y k → Made j y k
    of_made j y k e = by (times j f s i) refl e
      where
        by : (z : Got (List A)) → times j f s i ≡ z → onward z (λ xs l. got (make xs) l) ≡ got y k → Made j y k
        by (got xs l) q e =
            let a : l ≡ k = cc in
            let b : make xs ≡ y = cc in
            record { values = xs; reads = q ∙ ap (got xs) a; is = sym b }
        by (bad n p) q e = no_value e

    pub made_none : made 0 ≡ got (make []) i
    unfolding times
    made_none = refl

    pub made_more : (j : ℕ) (y : B) (k : ℕ) (x : A) (l : ℕ) (step : B → B) → made j ≡ got y k → f s k ≡ got x l → ((xs : List A) → length xs ≡ j → step (make xs) ≡ make (xs ++ (x ∷ []))) → made (j + 1) ≡ got (step y) l
    made_more j y k x l step e h on =
        let m = of_made j y k e in
        let a : j + 1 ≡ suc j = omega arith in
        let b : step y ≡ make (m.values ++ (x ∷ [])) = ap step m.is ∙ on m.values (times_length f s j i m.values k m.reads) in
        rw (a, more j m.values k x l m.reads h, b)

    pub made_ended : (j n : ℕ) (y : B) (k m p : ℕ) → made j ≡ got y k → f s k ≡ bad m p → j < n → made n ≡ bad m p
    made_ended j n y k m p e h below =
        let r = of_made j y k e in
        let a : n ≡ suc ((n - suc j) + j) = omega arith in
        rw (a, ended j r.values k m p r.reads h (n - suc j))

-- ---- what was read, of which something was made

module _ {A B : Type 0} (make : A → B) where
  pub unmade_bad : (g : Got A) {n p : ℕ} → bad n p ≡ onward g (λ x j. got (make x) j) → g ≡ bad n p
  unmade_bad (got x j) e = no_value e
  unmade_bad (bad m q) {n} {p} e = let a : n ≡ m = cc in let b : p ≡ q = cc in λ i. bad (sym a i) (sym b i)

  pub record Unmade (g : Got A) (y : B) (j : ℕ) : Type 0 where
    pub value : A
    pub read : g ≡ got value j
    pub is : y ≡ make value

  pub unmade : (g : Got A) {y : B} {j : ℕ} → got y j ≡ onward g (λ x k. got (make x) k) → Unmade g y j
  unmade (got x k) {y} {j} e = let a : k ≡ j = cc in let b : y ≡ make x = cc in record { value = x; read = ap (got x) a; is = b }
  unmade (bad n p) e = no_value (sym e)

-- Each of several readings made into something, or all of them
pub times_made : {A B : Type 0} (f : Reader A) (g : A → B) (s : List ℕ) (n i : ℕ) → times n (f then λ y. give (g y)) s i ≡ (times n f then λ ys. give (map g ys)) s i
unfolding times
times_made f g s zero i = refl
times_made {A} {B} f g s (suc n) i = rw (times_made f g s n i) (by (times n f s i))
  where
    one : (ys : List A) (z : Got A) → onward (onward z (λ y k. got (g y) k)) (λ x k. got (map g ys ++ (x ∷ [])) k) ≡ onward (onward z (λ y k. got (ys ++ (y ∷ [])) k)) (λ ys k. got (map g ys) k)
    one ys (got y k) = ap (λ (l : List B). got l k) (sym (map-append g ys (y ∷ [])))
    one ys (bad m p) = refl

    by : (z : Got (List A)) → onward (onward z (λ ys j. got (map g ys) j)) (λ xs j. onward (onward (f s j) (λ y k. got (g y) k)) (λ x k. got (xs ++ (x ∷ [])) k))
        ≡ onward (onward z (λ ys j. onward (f s j) (λ y k. got (ys ++ (y ∷ [])) k))) (λ ys k. got (map g ys) k)
    by (got ys j) = one ys (f s j)
    by (bad m p) = refl

-- .. in an array
pub filled_made : {A B : Type 0} (N : ℕ) (d : B) (f : Reader A) (g : A → B) (s : List ℕ) (n i : ℕ) → filled N d n (f then λ y. give (g y)) s i ≡ (times n f then λ ys. give (held N d (map g ys))) s i
filled_made {A} N d f g s n i = rw (times_made f g s n i) (by (times n f s i))
  where
    by : (z : Got (List A)) → onward (onward z (λ ys j. got (map g ys) j)) (λ xs k. got (held N d xs) k) ≡ onward z (λ ys k. got (held N d (map g ys)) k)
    by (got ys j) = refl
    by (bad m p) = refl

-- One element more in an array that has room
pub held_more : {A : Type 0} (N : ℕ) (d : A) (xs : List A) (x : A) (j : ℕ) → length xs ≡ j → j < N → pushed (held N d xs) x ≡ held N d (xs ++ (x ∷ []))
held_more {A} N d xs x j e h = ap {B = Held A N} (λ (p : ℕ × List A). record { n = p.0; at = p.1 }) (λ i. (sym (length-append xs (x ∷ [])) i, set_exactly d N xs x (omega arith) i))
