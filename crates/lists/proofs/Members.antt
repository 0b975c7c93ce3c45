-- What is a member of the lists that the definitions make, and what a test over a list says of its members.
use mathlib.Core.Path.{◌∙◌, ◌≡◌, ap, ap₂, refl, subst, sym}
use mathlib.Core.Logic.{◌⊎◌, inl, inr, ⊎_elim}
use mathlib.Core.List.Memᴰ
use mathlib.Core.List.{List, Memᴰ, [], ◌∷◌, map}
use mathlib.Core.Bool.{Bool, ◌||◌, cond, false, true}
use Prim.Native.Nat.{◌<◌, ◌≤◌, suc, zero, ℕ}
use native.Mathlib.Omega.{arith}
use lib.Dec.{T}
use lib.ListN.{drop, get_or, length, take}
use Rattle.lists.proofs.Tests.{and_i, and_l, and_r}
use Rattle.lists.specs.Lists.{all_of, any_of, keep_if, pair_up, without}

module _ {A : Type 0} where
  -- A member is the first or a later one.
  pub first_or_later : {x a : A} {l : List A} {P : Type 0} → Memᴰ a (x ∷ l) → (a ≡ x → P) → (Memᴰ a l → P) → P
  first_or_later m f g = ⊎_elim f g (Memᴰ.cases_cons m)

  pub keep_if_in : (p : A → Bool) {a : A} (l : List A) → Memᴰ a l → T (p a) → Memᴰ a (keep_if p l)
  keep_if_in p [] m t = m
  keep_if_in p {a} (x ∷ xs) m t = go (λ h. keep_if_in p xs h t) (p x) refl (Memᴰ.cases_cons m)
    where
      go : (Memᴰ a xs → Memᴰ a (keep_if p xs)) → (b : Bool) → p x ≡ b → (a ≡ x) ⊎ Memᴰ a xs → Memᴰ a (cond b (x ∷ keep_if p xs) (keep_if p xs))
      go ih true e (inl h) = Memᴰ.head h
      go ih true e (inr h) = Memᴰ.tail (ih h)
      go ih false e (inl h) = absurd (subst T (ap p h ∙ e) t)
      go ih false e (inr h) = ih h

  pub keep_if_out : (p : A → Bool) {a : A} (l : List A) → Memᴰ a (keep_if p l) → Memᴰ a l
  keep_if_out p [] m = m
  keep_if_out p {a} (x ∷ xs) m = go (λ h. keep_if_out p xs h) (p x) m
    where
      go : (Memᴰ a (keep_if p xs) → Memᴰ a xs) → (b : Bool) → Memᴰ a (cond b (x ∷ keep_if p xs) (keep_if p xs)) → Memᴰ a (x ∷ xs)
      go ih true (Memᴰ.head h) = Memᴰ.head h
      go ih true (Memᴰ.tail h) = Memᴰ.tail (ih h)
      go ih false h = Memᴰ.tail (ih h)

  -- what any / all say
  pub any_of_in : (p : A → Bool) {a : A} (l : List A) → Memᴰ a l → T (p a) → T (any_of p l)
  any_of_in p [] m t = absurd (Memᴰ.not-nil m)
  any_of_in p {a} (x ∷ xs) m t = go (λ h. any_of_in p xs h t) (p x) refl (Memᴰ.cases_cons m)
    where
      go : (Memᴰ a xs → T (any_of p xs)) → (b : Bool) → p x ≡ b → (a ≡ x) ⊎ Memᴰ a xs → T (b || any_of p xs)
      go ih true e h = tt
      go ih false e (inl h) = absurd (subst T (ap p h ∙ e) t)
      go ih false e (inr h) = ih h

  pub any_of_out : (p : A → Bool) (l : List A) → T (any_of p l) → (a : A) × Memᴰ a l × T (p a)
  any_of_out p [] t = absurd t
  any_of_out p (x ∷ xs) t = go (λ h. any_of_out p xs h) (p x) refl t
    where
      go : (T (any_of p xs) → (a : A) × Memᴰ a xs × T (p a)) → (b : Bool) → p x ≡ b → T (b || any_of p xs) → (a : A) × Memᴰ a (x ∷ xs) × T (p a)
      go ih true e h = (x, Memᴰ.head refl, subst T (sym e) tt)
      go ih false e h = let r = ih h in (r.0, Memᴰ.tail r.1, r.2)

  pub all_of_out : (p : A → Bool) {a : A} (l : List A) → T (all_of p l) → Memᴰ a l → T (p a)
  all_of_out p [] t m = absurd (Memᴰ.not-nil m)
  all_of_out p {a} (x ∷ xs) t m = go (λ h. all_of_out p xs (and_r (p x) (all_of p xs) t) h) (Memᴰ.cases_cons m)
    where
      go : (Memᴰ a xs → T (p a)) → (a ≡ x) ⊎ Memᴰ a xs → T (p a)
      go ih (inl h) = subst (λ y. T (p y)) (sym h) (and_l (p x) (all_of p xs) t)
      go ih (inr h) = ih h

  pub all_of_in : (p : A → Bool) (l : List A) → ((a : A) → Memᴰ a l → T (p a)) → T (all_of p l)
  all_of_in p [] h = tt
  all_of_in p (x ∷ xs) h = and_i (p x) (all_of p xs) (h x (Memᴰ.head refl)) (all_of_in p xs (λ a m. h a (Memᴰ.tail m)))

  -- the element taken out, or one that stays
  pub without_cases : (i : ℕ) (l : List A) (d : A) {a : A} → Memᴰ a l → (a ≡ get_or l i d) ⊎ Memᴰ a (without i l)
  without_cases i [] d m = absurd (Memᴰ.not-nil m)
  without_cases zero (x ∷ xs) d m = Memᴰ.cases_cons m
  without_cases (suc i) (x ∷ xs) d {a} m = go (λ h. without_cases i xs d h) (Memᴰ.cases_cons m)
    where
      step : (a ≡ get_or xs i d) ⊎ Memᴰ a (without i xs) → (a ≡ get_or xs i d) ⊎ Memᴰ a (x ∷ without i xs)
      step (inl e) = inl e
      step (inr h) = inr (Memᴰ.tail h)

      go : (Memᴰ a xs → (a ≡ get_or xs i d) ⊎ Memᴰ a (without i xs)) → (a ≡ x) ⊎ Memᴰ a xs → (a ≡ get_or xs i d) ⊎ Memᴰ a (x ∷ without i xs)
      go ih (inl e) = inr (Memᴰ.head e)
      go ih (inr h) = step (ih h)

  pub without_out : (i : ℕ) (l : List A) {a : A} → Memᴰ a (without i l) → Memᴰ a l
  without_out i [] m = m
  without_out zero (x ∷ xs) m = Memᴰ.tail m
  without_out (suc i) (x ∷ xs) {a} m = go (λ h. without_out i xs h) (Memᴰ.cases_cons m)
    where
      go : (Memᴰ a (without i xs) → Memᴰ a xs) → (a ≡ x) ⊎ Memᴰ a (without i xs) → Memᴰ a (x ∷ xs)
      go ih (inl e) = Memᴰ.head e
      go ih (inr h) = Memᴰ.tail (ih h)

  -- an earlier element stays
  pub without_in : (i k : ℕ) (l : List A) (d : A) → i < k → k < length l → Memᴰ (get_or l i d) (without k l)
  without_in i k [] d h h' = absurd (omega arith)
  without_in i zero (x ∷ xs) d h h' = absurd (omega arith)
  without_in zero (suc k) (x ∷ xs) d h h' = Memᴰ.head refl
  without_in (suc i) (suc k) (x ∷ xs) d h h' = Memᴰ.tail (without_in i k xs d (omega arith) (omega arith))

  pub get_d_mem : (l : List A) (i : ℕ) (d : A) → i < length l → Memᴰ (get_or l i d) l
  get_d_mem [] i d h = absurd (omega arith)
  get_d_mem (x ∷ xs) zero d h = Memᴰ.head refl
  get_d_mem (x ∷ xs) (suc i) d h = Memᴰ.tail (get_d_mem xs i d (omega arith))

pub map_same : {A B : Type 0} (f g : A → B) (l : List A) → ((a : A) → Memᴰ a l → f a ≡ g a) → map f l ≡ map g l
map_same f g [] h = refl
map_same {B} f g (x ∷ xs) h = ap₂ {C = List B} (λ a b. a ∷ b) (h x (Memᴰ.head refl)) (map_same f g xs (λ a m. h a (Memᴰ.tail m)))

-- equal argument by argument
pub pair_up_eq : {D : Type 0} (ρ : ℕ → D) (xs ys : List ℕ) → length xs ≡ length ys → ((x y : ℕ) → Memᴰ (x, y) (pair_up xs ys) → ρ x ≡ ρ y) → map ρ xs ≡ map ρ ys
pair_up_eq ρ [] [] e h = refl
pair_up_eq ρ [] (y ∷ ys) e h = absurd (omega arith)
pair_up_eq ρ (x ∷ xs) [] e h = absurd (omega arith)
pair_up_eq {D} ρ (x ∷ xs) (y ∷ ys) e h =
    let i : map ρ xs ≡ map ρ ys = pair_up_eq ρ xs ys (omega arith) (λ a b m. h a b (Memᴰ.tail m)) in
    let k : ρ x ≡ ρ y = h x y (Memᴰ.head refl) in
    ap₂ {C = List D} (λ a b. a ∷ b) k i

-- and back: the pairs agree where the lists do
pub pair_up_back : {D : Type 0} (ρ : ℕ → D) (xs ys : List ℕ) → map ρ xs ≡ map ρ ys → (x y : ℕ) → Memᴰ (x, y) (pair_up xs ys) → ρ x ≡ ρ y
pair_up_back ρ [] ys e x y m = absurd (Memᴰ.not-nil m)
pair_up_back ρ (a ∷ xs) [] e x y m = absurd (Memᴰ.not-nil m)
pair_up_back {D} ρ (a ∷ xs) (b ∷ ys) e x y m = go (λ h. pair_up_back ρ xs ys (cc) x y h) (Memᴰ.cases_cons m)
  where
    go : (Memᴰ (x, y) (pair_up xs ys) → ρ x ≡ ρ y) → ◌≡◌ {A = ℕ × ℕ} (x, y) (a, b) ⊎ Memᴰ (x, y) (pair_up xs ys) → ρ x ≡ ρ y
    go ih (inl p) = let k : ρ a ≡ ρ b = cc in ap (λ r. ρ r.0) p ∙ k ∙ sym (ap (λ r. ρ r.1) p)
    go ih (inr h) = ih h

pub keep_if_sat : {A : Type 0} (p : A → Bool) {a : A} (l : List A) → Memᴰ a (keep_if p l) → T (p a)
keep_if_sat p [] m = absurd (Memᴰ.not-nil m)
keep_if_sat {A} p {a} (x ∷ xs) m = go (λ h. keep_if_sat p xs h) (p x) refl m
  where
    hd : (b : Bool) → p x ≡ b → T b → (a ≡ x) ⊎ Memᴰ a (keep_if p xs) → (Memᴰ a (keep_if p xs) → T (p a)) → T (p a)
    hd b e t (inl q) ih = subst T (sym (ap p q ∙ e)) t
    hd b e t (inr q) ih = ih q

    go : (Memᴰ a (keep_if p xs) → T (p a)) → (b : Bool) → p x ≡ b → Memᴰ a (cond b (x ∷ keep_if p xs) (keep_if p xs)) → T (p a)
    go ih true e h = hd true e tt (Memᴰ.cases_cons h) ih
    go ih false e h = ih h

pub pair_up_mem : (xs ys : List ℕ) (x y : ℕ) → Memᴰ (x, y) (pair_up xs ys) → Memᴰ x xs × Memᴰ y ys
pair_up_mem [] ys x y m = absurd (Memᴰ.not-nil m)
pair_up_mem (a ∷ xs) [] x y m = absurd (Memᴰ.not-nil m)
pair_up_mem (a ∷ xs) (b ∷ ys) x y m = go (λ h. pair_up_mem xs ys x y h) (Memᴰ.cases_cons m)
  where
    go : (Memᴰ (x, y) (pair_up xs ys) → Memᴰ x xs × Memᴰ y ys) → ◌≡◌ {A = ℕ × ℕ} (x, y) (a, b) ⊎ Memᴰ (x, y) (pair_up xs ys) → Memᴰ x (a ∷ xs) × Memᴰ y (b ∷ ys)
    go ih (inl e) = (Memᴰ.head (ap (λ r. r.0) e), Memᴰ.head (ap (λ r. r.1) e))
    go ih (inr h) = let r = ih h in (Memᴰ.tail r.0, Memᴰ.tail r.1)

-- ---- parts and lengths

pub map_take : {A B : Type 0} (f : A → B) (n : ℕ) (l : List A) → map f (take n l) ≡ take n (map f l)
map_take f zero l = refl
map_take f (suc n) [] = refl
map_take {B} f (suc n) (x ∷ l) = ap {B = List B} (λ r. f x ∷ r) (map_take f n l)

pub map_drop : {A B : Type 0} (f : A → B) (n : ℕ) (l : List A) → map f (drop n l) ≡ drop n (map f l)
map_drop f zero l = refl
map_drop f (suc n) [] = refl
map_drop f (suc n) (x ∷ l) = map_drop f n l

-- A pair of elements stands in the first n places or past them.
pub pair_up_parts : (n : ℕ) (xs ys : List ℕ) {p : ℕ × ℕ} → Memᴰ p (pair_up xs ys) → Memᴰ p (pair_up (take n xs) (take n ys)) ⊎ Memᴰ p (pair_up (drop n xs) (drop n ys))
pair_up_parts zero xs ys m = inr m
pair_up_parts (suc n) [] ys m = absurd (Memᴰ.not-nil m)
pair_up_parts (suc n) (x ∷ xs) [] m = absurd (Memᴰ.not-nil m)
pair_up_parts (suc n) (x ∷ xs) (y ∷ ys) {p} m = go (λ h. pair_up_parts n xs ys h) (Memᴰ.cases_cons m)
  where
    step : Memᴰ p (pair_up (take n xs) (take n ys)) ⊎ Memᴰ p (pair_up (drop n xs) (drop n ys)) → Memᴰ p ((x, y) ∷ pair_up (take n xs) (take n ys)) ⊎ Memᴰ p (pair_up (drop n xs) (drop n ys))
    step (inl h) = inl (Memᴰ.tail h)
    step (inr h) = inr h

    go : (Memᴰ p (pair_up xs ys) → Memᴰ p (pair_up (take n xs) (take n ys)) ⊎ Memᴰ p (pair_up (drop n xs) (drop n ys))) → (p ≡ (x, y)) ⊎ Memᴰ p (pair_up xs ys)
        → Memᴰ p ((x, y) ∷ pair_up (take n xs) (take n ys)) ⊎ Memᴰ p (pair_up (drop n xs) (drop n ys))
    go ih (inl e) = inl (Memᴰ.head e)
    go ih (inr h) = step (ih h)

pub keep_if_short : {A : Type 0} (p : A → Bool) (l : List A) → length (keep_if p l) ≤ length l
keep_if_short p [] = omega arith
keep_if_short {A} p (x ∷ l) = go (p x) (keep_if p l) (keep_if_short p l)
  where
    go : (b : Bool) (m : List A) → length m ≤ length l → length (cond b (x ∷ m) m) ≤ suc (length l)
    go true m h = omega arith
    go false m h = omega arith

pub without_short : {A : Type 0} (i : ℕ) (l : List A) → length (without i l) ≤ length l
without_short i [] = omega arith
without_short zero (x ∷ l) = omega arith
without_short (suc i) (x ∷ l) = omega (arith, without_short i l)

pub map_keep_if : {A B : Type 0} (f : A → B) (p : B → Bool) (l : List A) → map f (keep_if (λ a. p (f a)) l) ≡ keep_if p (map f l)
map_keep_if f p [] = refl
map_keep_if {A} {B} f p (x ∷ xs) = go (p (f x)) (map_keep_if f p xs)
  where
    go : (b : Bool) → map f (keep_if (λ a. p (f a)) xs) ≡ keep_if p (map f xs) → map f (cond b (x ∷ keep_if (λ a. p (f a)) xs) (keep_if (λ a. p (f a)) xs)) ≡ cond b (f x ∷ keep_if p (map f xs)) (keep_if p (map f xs))
    go true e = ap {B = List B} (λ r. f x ∷ r) e
    go false e = e

-- ---- the first n of a list, by what stands at the places below n

module _ {A : Type 0} (z : A) where
  -- What holds at each place holds of each member.
  pub of_members : (P : A → Type 0) (l : List A) (n : ℕ) → ((k : ℕ) → k < n → P (get_or l k z)) → (a : A) → Memᴰ a (take n l) → P a
  of_members P l zero h a m = absurd (Memᴰ.not-nil m)
  of_members P [] (suc n) h a m = absurd (Memᴰ.not-nil m)
  of_members P (x ∷ l) (suc n) h a m = ⊎_elim (λ e. subst P (sym e) (h 0 (omega arith))) (λ k. of_members P l n (λ j i. h (suc j) (omega arith)) a k) (Memᴰ.cases_cons m)

  -- What stands at a place is a member.
  pub member_at : (l : List A) (n k : ℕ) → k < n → k < length l → Memᴰ (get_or l k z) (take n l)
  member_at l zero k h i = absurd (omega arith)
  member_at [] (suc n) k h i = absurd (omega arith)
  member_at (x ∷ l) (suc n) zero h i = Memᴰ.head refl
  member_at (x ∷ l) (suc n) (suc k) h i = Memᴰ.tail (member_at l n k (omega arith) (omega arith))
