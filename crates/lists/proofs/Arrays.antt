-- Laws of a list held in an array, and of an array changed slot by slot.
use mathlib.Core.Path.{◌∙◌, ◌≡◌, ap, refl, sym}
use mathlib.Core.List.{List, [], ◌++◌, ◌∷◌, map}
use Prim.Native.Nat.{◌+◌, ◌<◌, ◌≤◌, suc, zero, ℕ}
use native.Mathlib.Numerals.{add-one}
use native.Mathlib.Omega.{arith}
use lib.ListN.{drop, get_or, length, length-map, length-take, replicate, set, take}
use Rattle.lists.proofs.Walks.{map_more, take_more}
use Rattle.lists.specs.Arrays.{exactly}

module _ {A : Type 0} (d : A) where
  pub exactly_length : (n : ℕ) (l : List A) → length (exactly n d l) ≡ n
  unfolding exactly
  exactly_length zero l = refl
  exactly_length (suc n) [] = ap suc (exactly_length n [])
  exactly_length (suc n) (x ∷ l) = ap suc (exactly_length n l)

  pub exactly_none : (n : ℕ) → exactly n d [] ≡ replicate n d
  unfolding exactly
  exactly_none zero = refl
  exactly_none (suc n) = ap {B = List A} (λ r. d ∷ r) (exactly_none n)

  -- As many as there are: no blanks
  pub exactly_take : (n : ℕ) (l : List A) → n ≤ length l → exactly n d l ≡ take n l
  unfolding exactly
  exactly_take zero l h = refl
  exactly_take (suc n) [] h = absurd (omega arith)
  exactly_take (suc n) (x ∷ l) h = ap {B = List A} (λ r. x ∷ r) (exactly_take n l (omega arith))

  -- The list is what stands before the blanks.
  pub take_exactly : (n : ℕ) (l : List A) → length l ≤ n → take (length l) (exactly n d l) ≡ l
  unfolding exactly
  take_exactly zero [] h = refl
  take_exactly (suc n) [] h = refl
  take_exactly zero (x ∷ l) h = absurd (omega arith)
  take_exactly (suc n) (x ∷ l) h = ap {B = List A} (λ r. x ∷ r) (take_exactly n l (omega arith))

  -- An element put into the first blank slot
  pub set_exactly : (n : ℕ) (l : List A) (x : A) → length l < n → set (exactly n d l) (length l) x ≡ exactly n d (l ++ (x ∷ []))
  unfolding exactly
  set_exactly zero l x h = absurd (omega arith)
  set_exactly (suc n) [] x h = refl
  set_exactly (suc n) (y ∷ l) x h = ap {B = List A} (λ r. y ∷ r) (set_exactly n l x (omega arith))

  -- The last element taken out again
  pub unset_exactly : (n : ℕ) (l : List A) (x : A) → set (exactly n d (l ++ (x ∷ []))) (length l) d ≡ exactly n d l
  unfolding exactly
  unset_exactly zero l x = refl
  unset_exactly (suc n) [] x = refl
  unset_exactly (suc n) (y ∷ l) x = ap {B = List A} (λ r. y ∷ r) (unset_exactly n l x)

  pub get_d_exactly : (n : ℕ) (l : List A) (i : ℕ) → i < n → get_or (exactly n d l) i d ≡ get_or l i d
  unfolding exactly
  get_d_exactly zero l i h = absurd (omega arith)
  get_d_exactly (suc n) [] zero h = refl
  get_d_exactly (suc n) [] (suc i) h = get_d_exactly n [] i (omega arith)
  get_d_exactly (suc n) (x ∷ l) zero h = refl
  get_d_exactly (suc n) (x ∷ l) (suc i) h = get_d_exactly n l i (omega arith)

  -- Of a list that the array has room for, every read is the list's, past its end too.
  pub get_d_held : (n : ℕ) (l : List A) (i : ℕ) → length l ≤ n → get_or (exactly n d l) i d ≡ get_or l i d
  unfolding exactly
  get_d_held zero [] i h = refl
  get_d_held zero (x ∷ l) i h = absurd (omega arith)
  get_d_held (suc n) [] zero h = refl
  get_d_held (suc n) [] (suc i) h = get_d_held n [] i (omega arith)
  get_d_held (suc n) (x ∷ l) zero h = refl
  get_d_held (suc n) (x ∷ l) (suc i) h = get_d_held n l i (omega arith)

  -- An array with room for another's elements
  pub exactly_again : (n m : ℕ) (l : List A) → length l ≤ m → exactly n d (exactly m d l) ≡ exactly n d l
  unfolding exactly
  exactly_again zero m l h = refl
  exactly_again (suc n) zero [] h = refl
  exactly_again (suc n) zero (x ∷ l) h = absurd (omega arith)
  exactly_again (suc n) (suc m) [] h = ap {B = List A} (λ r. d ∷ r) (exactly_again n m [] (omega arith))
  exactly_again (suc n) (suc m) (x ∷ l) h = ap {B = List A} (λ r. x ∷ r) (exactly_again n m l (omega arith))

  pub map_exactly : {B : Type 0} (f : A → B) (n : ℕ) (l : List A) → map f (exactly n d l) ≡ exactly n (f d) (map f l)
  unfolding exactly
  map_exactly f zero l = refl
  map_exactly {B} f (suc n) [] = ap {B = List B} (λ r. f d ∷ r) (map_exactly f n [])
  map_exactly {B} f (suc n) (x ∷ l) = ap {B = List B} (λ r. f x ∷ r) (map_exactly f n l)

-- Within the length it does not matter what a read past the end would give.
pub get_d_any : {A : Type 0} (l : List A) (i : ℕ) (d e : A) → i < length l → get_or l i d ≡ get_or l i e
get_d_any [] i d e h = absurd (omega arith)
get_d_any (x ∷ l) zero d e h = refl
get_d_any (x ∷ l) (suc i) d e h = get_d_any l i d e (omega arith)

-- ---- an array filled from another, slot by slot

module _ {A B : Type 0} (f : A → B) where
  pub mapped_turn : (n : ℕ) (d : B) (e : A) (l : List A) (j : ℕ) → j < length l → j < n →
      set (exactly n d (map f (take j l))) j (f (get_or l j e)) ≡ exactly n d (map f (take (j + 1) l))
  mapped_turn n d e l j h k =
      let s : length (map f (take j l)) ≡ j = omega (arith, length-map (take j l) f, length-take j l) in
      ap (λ (i : ℕ). set (exactly n d (map f (take j l))) i (f (get_or l j e))) (sym s)
      ∙ set_exactly d n (map f (take j l)) (f (get_or l j e)) (omega arith) ∙ ap (exactly n d) (sym (map_more f l j e h))

pub copied_turn : {A : Type 0} (n : ℕ) (d : A) (l : List A) (j : ℕ) → j < length l → j < n → set (exactly n d (take j l)) j (get_or l j d) ≡ exactly n d (take (j + 1) l)
copied_turn n d l j h k =
    let s : length (take j l) ≡ j = omega (arith, length-take j l) in
    ap (λ (i : ℕ). set (exactly n d (take j l)) i (get_or l j d)) (sym s) ∙ set_exactly d n (take j l) (get_or l j d) (omega arith) ∙ ap (exactly n d) (sym (take_more l j d h))

-- In front of what a longer one holds
pub front_turn : {A : Type 0} (s l : List A) (j : ℕ) (d : A) → j < length s → j < length l → set (take j s ++ drop j l) j (get_or s j d) ≡ take (j + 1) s ++ drop (j + 1) l
front_turn {A} s l j d h k = rw add-one (go s l j h k)
  where
    go : (s l : List A) (j : ℕ) → j < length s → j < length l → set (take j s ++ drop j l) j (get_or s j d) ≡ take (suc j) s ++ drop (suc j) l
    go [] l j h k = absurd (omega arith)
    go (x ∷ s) [] j h k = absurd (omega arith)
    go (x ∷ s) (y ∷ l) zero h k = refl
    go (x ∷ s) (y ∷ l) (suc j) h k = ap {B = List A} (λ r. x ∷ r) (go s l j (omega arith) (omega arith))

-- ---- an array changed slot by slot

module _ {A : Type 0} (f : A → A) where
  turn : (t : List A) (j : ℕ) (d : A) → j < length t → set (map f (take j t) ++ drop j t) j (f (get_or t j d)) ≡ map f (take (suc j) t) ++ drop (suc j) t
  turn (x ∷ t) zero d h = refl
  turn (x ∷ t) (suc j) d h = ap (λ r. f x ∷ r) (turn t j d (omega arith))
  turn [] j d h = absurd (omega arith)

  pub each_turn : (t : List A) (j : ℕ) (d : A) → j < length t → set (map f (take j t) ++ drop j t) j (f (get_or t j d)) ≡ map f (take (j + 1) t) ++ drop (j + 1) t
  each_turn t j d h = rw add-one (turn t j d h)

  pub each_done : (t : List A) (j : ℕ) → length t ≤ j → map f (take j t) ++ drop j t ≡ map f t
  each_done [] zero h = refl
  each_done [] (suc j) h = refl
  each_done (x ∷ t) zero h = absurd (omega arith)
  each_done (x ∷ t) (suc j) h = ap (λ r. f x ∷ r) (each_done t j (omega arith))
