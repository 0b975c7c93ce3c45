-- Numbers that count up, and where an element stands in a list.
use mathlib.Core.Path.{◌≡◌, ap, refl, sym}
use mathlib.Core.Logic.{◌⊎◌, inl, inr}
use mathlib.Core.List.Memᴰ
use mathlib.Core.List.{List, Memᴰ, [], ◌∷◌, map}
use mathlib.Core.Bool.{Bool, cond, false, true}
use Prim.Native.Nat.{◌+◌, ◌<◌, ◌≤◌, suc, zero, ℕ}
use native.Mathlib.Omega.{arith}
use lib.Dec.{eqb, eqb_refl, eqb→eq}
use lib.ListN.{get_or, length}
use Rattle.lists.proofs.Members.{get_d_mem, keep_if_out}
use Rattle.lists.proofs.Tests.{F→eq, Said, T→eq, fails, holds, not_eqb, said}
use Rattle.lists.specs.Lists.{index_of, keep_if, up_from}

pub up_from_get : (a n x : ℕ) → x < n → get_or (up_from a n) x zero ≡ a + x
up_from_get a zero x h = absurd (omega arith)
up_from_get a (suc n) zero h = omega arith
up_from_get a (suc n) (suc x) h = let k = up_from_get (suc a) n x (omega arith) in omega arith

pub up_from_mem : (a n x : ℕ) → a ≤ x → x < a + n → Memᴰ x (up_from a n)
up_from_mem a zero x h k = absurd (omega arith)
up_from_mem a (suc n) x h k = go (λ h' k'. up_from_mem (suc a) n x h' k') (said (eqb x a))
  where
    go : (suc a ≤ x → x < suc a + n → Memᴰ x (up_from (suc a) n)) → Said (eqb x a) → Memᴰ x (up_from a (suc n))
    go ih (holds t) = Memᴰ.head (eqb→eq x a t)
    go ih (fails t) = let ne : ¬ (x ≡ a) = not_eqb x a t in Memᴰ.tail (ih (omega arith) (omega arith))

-- What stands at the place of x in a list that has it
pub index_of_get : (f : ℕ → ℕ) (x : ℕ) (l : List ℕ) → Memᴰ x l → get_or (map f l) (index_of x l) zero ≡ f x
index_of_get f x [] m = absurd (Memᴰ.not-nil m)
index_of_get f x (y ∷ ys) m = go (λ h. index_of_get f x ys h) (said (eqb x y)) (Memᴰ.cases_cons m)
  where
    go : (Memᴰ x ys → get_or (map f ys) (index_of x ys) zero ≡ f x) → Said (eqb x y) → (x ≡ y) ⊎ Memᴰ x ys → get_or (map f (y ∷ ys)) (index_of x (y ∷ ys)) zero ≡ f x
    go ih (holds t) c = rw (T→eq (eqb x y) t) (ap f (sym (eqb→eq x y t)))
    go ih (fails t) (inl e) = absurd (not_eqb x y t e)
    go ih (fails t) (inr h) = rw (F→eq (eqb x y) t) (ih h)

pub index_of_lt : (x : ℕ) (l : List ℕ) → Memᴰ x l → index_of x l < length l
index_of_lt x [] m = absurd (Memᴰ.not-nil m)
index_of_lt x (y ∷ ys) m = go (λ h. index_of_lt x ys h) (said (eqb x y)) (Memᴰ.cases_cons m)
  where
    go : (Memᴰ x ys → index_of x ys < length ys) → Said (eqb x y) → (x ≡ y) ⊎ Memᴰ x ys → index_of x (y ∷ ys) < length (y ∷ ys)
    go ih (holds t) c = rw (T→eq (eqb x y) t) (omega arith)
    go ih (fails t) (inl e) = absurd (not_eqb x y t e)
    go ih (fails t) (inr h) = let k = ih h in rw (F→eq (eqb x y) t) (omega arith)

pub up_from_out : (a n x : ℕ) → Memᴰ x (up_from a n) → (a ≤ x) × (x < a + n)
up_from_out a zero x m = absurd (Memᴰ.not-nil m)
up_from_out a (suc n) x m = go (λ h. up_from_out (suc a) n x h) (Memᴰ.cases_cons m)
  where
    go : (Memᴰ x (up_from (suc a) n) → (suc a ≤ x) × (x < suc a + n)) → (x ≡ a) ⊎ Memᴰ x (up_from (suc a) n) → (a ≤ x) × (x < a + suc n)
    go ih (inl e) = (omega arith, omega arith)
    go ih (inr h) = let k = ih h in (omega arith, omega arith)

-- In a list that counts up with parts left out each element stands where it stands
pub index_of_keep_if : (f : ℕ → Bool) (a n j : ℕ) → j < length (keep_if f (up_from a n)) → index_of (get_or (keep_if f (up_from a n)) j zero) (keep_if f (up_from a n)) ≡ j
index_of_keep_if f a zero j h = absurd (omega arith)
index_of_keep_if f a (suc n) j h = go (λ j h. index_of_keep_if f (suc a) n j h) (f a) j h
  where
    R : List ℕ
    R = keep_if f (up_from (suc a) n)

    far : (j : ℕ) → j < length R → suc a ≤ get_or R j zero
    far j h = (up_from_out (suc a) n (get_or R j zero) (keep_if_out f (up_from (suc a) n) (get_d_mem R j zero h))).0

    miss : (k i : ℕ) → suc a ≤ k → Said (eqb k a) → index_of k R ≡ i → index_of k (a ∷ R) ≡ suc i
    miss k i h (holds t) e = absurd (omega (arith, eqb→eq k a t))
    miss k i h (fails t) e = rw (F→eq (eqb k a) t) (ap suc e)

    go : ((j : ℕ) → j < length R → index_of (get_or R j zero) R ≡ j) → (b : Bool) (j : ℕ) → j < length (cond b (a ∷ R) R) → index_of (get_or (cond b (a ∷ R) R) j zero) (cond b (a ∷ R) R) ≡ j
    go ih false j h = ih j h
    go ih true zero h = rw (T→eq (eqb a a) (eqb_refl a)) refl
    go ih true (suc j) h = let lt : j < length R = omega arith in miss (get_or R j zero) j (far j lt) (said (eqb (get_or R j zero) a)) (ih j lt)

-- .. and the elements' places rise as they do.
pub index_of_rises : (f : ℕ → Bool) (a n x y : ℕ) → Memᴰ x (keep_if f (up_from a n)) → Memᴰ y (keep_if f (up_from a n)) → x < y → index_of x (keep_if f (up_from a n)) < index_of y (keep_if f (up_from a n))
index_of_rises f a zero x y m k h = absurd (Memᴰ.not-nil m)
index_of_rises f a (suc n) x y m k h = go (λ m k. index_of_rises f (suc a) n x y m k h) (f a) m k
  where
    R : List ℕ
    R = keep_if f (up_from (suc a) n)

    past : (z : ℕ) → Memᴰ z R → index_of z (a ∷ R) ≡ suc (index_of z R)
    past z m = step (said (eqb z a))
      where
        step : Said (eqb z a) → index_of z (a ∷ R) ≡ suc (index_of z R)
        step (holds t) = absurd (omega (arith, eqb→eq z a t, (up_from_out (suc a) n z (keep_if_out f (up_from (suc a) n) m)).0))
        step (fails t) = rw (F→eq (eqb z a) t)

    both : (Memᴰ x R → Memᴰ y R → index_of x R < index_of y R) → (x ≡ a) ⊎ Memᴰ x R → (y ≡ a) ⊎ Memᴰ y R → index_of x (a ∷ R) < index_of y (a ∷ R)
    both ih (inl e) (inl q) = absurd (omega arith)
    both ih (inl e) (inr k) = rw (T→eq (eqb x a) (rw e (eqb_refl a))) (omega (arith, past y k))
    both ih (inr m) (inl q) = absurd (omega (arith, (up_from_out (suc a) n x (keep_if_out f (up_from (suc a) n) m)).0))
    both ih (inr m) (inr k) = omega (arith, past x m, past y k, ih m k)

    go : (Memᴰ x R → Memᴰ y R → index_of x R < index_of y R) → (b : Bool) → Memᴰ x (cond b (a ∷ R) R) → Memᴰ y (cond b (a ∷ R) R) → index_of x (cond b (a ∷ R) R) < index_of y (cond b (a ∷ R) R)
    go ih true m k = both ih (Memᴰ.cases_cons m) (Memᴰ.cases_cons k)
    go ih false m k = ih m k
