-- Possible shown by numbers for the constants, or refuted by a circle of bounds whose sum is below 0: both are tests that compute.
use mathlib.Core.Path.{refl, subst, sym}
use mathlib.Core.Logic.{◌⊎◌, inl, inr}
use mathlib.Core.List.Memᴰ
use mathlib.Core.List.{List, Memᴰ, [], ◌++◌, ◌∷◌, map}
use mathlib.Core.Bool.{Bool, ◌&&◌, not, true}
use Prim.Native.Nat.{◌-◌, suc, zero, ℕ}
use native.Mathlib.Omega.{arith}
use lib.Dec.{T, T_not, eqb, eqb→eq}
use lib.IntN.{◌+ℤ◌, ◌-ℤ◌, negsuc, neg_ℤ, pos, ℤ}
use lib.ListN.{get_or}
use lib.Signed.{◌<ℤ◌, ◌≤ℤ◌, le_z, le_z_yes, lt_z, lt_z_yes}
use Rattle.basis.specs.Atoms.{Holds, Possible}
use Rattle.basis.specs.Numbers.{whole}
use Rattle.basis.specs.declared.Atom.{Atom}
use Rattle.lists.proofs.Counting.{up_from_mem, up_from_out}
use Rattle.lists.proofs.Members.{all_of_out, any_of_out}
use Rattle.lists.proofs.Tests.{and_l, and_r}
use Rattle.lists.specs.Lists.{all_of, any_of, up_from}
use Rattle.calculus.specs.Clauses.{same_atom}
use Rattle.calculus.proofs.Computed.{answer}
use Rattle.calculus.specs.Conditions.{Judged}
use Rattle.calculus.specs.States.{State, Step}
use Rattle.calculus.proofs.Answers.{judged_by}
use Rattle.calculus.proofs.Merged.{same_atom→eq}
use Rattle.integers.proofs.Linear.{le→, lt→, negated, sum, →le}
use Rattle.calculus.specs.Rules.{question}

-- ---- chains of whole numbers

chain : (x y z c d : ℤ) → (x -ℤ y) ≤ℤ c → (y -ℤ z) ≤ℤ d → (x -ℤ z) ≤ℤ (c +ℤ d)
chain x y z c d h k = →le (x -ℤ z) (c +ℤ d) (omega (arith, le→ h, le→ k, sum x (neg_ℤ y), sum y (neg_ℤ z), sum x (neg_ℤ z), sum c d, negated y, negated z))

circle : (x c : ℤ) → (x -ℤ x) ≤ℤ c → pos zero ≤ℤ c
circle x c h = →le (pos zero) c (omega (arith, le→ h, sum x (neg_ℤ x), negated x))

-- x < y is x − y ≤ −1.
below : (x y : ℤ) → x <ℤ y → (x -ℤ y) ≤ℤ negsuc zero
below x y h = →le (x -ℤ y) (negsuc zero) (omega (arith, lt→ h, sum x (neg_ℤ y), negated y))

-- ---- numbers that keep the order and make every atom true

-- The constants' numbers in order
abbrev numbers : List ℤ → ℕ → ℤ
numbers ws zero = pos zero
numbers ws (suc x) = get_or ws x (pos zero)

abbrev pub keeps : ℕ → List Atom → List ℤ → Bool
keeps n az ws = all_of (λ i. lt_z (numbers ws i) (numbers ws (suc i))) (up_from 1 (n - 1)) && all_of (λ (a : Atom). le_z (numbers ws a.p -ℤ numbers ws a.q) a.c) az

pub possible_by : (n : ℕ) (az : List Atom) (ws : List ℤ) → T (keeps n az ws) → Possible whole n az
possible_by n az ws t =
    let rises : ℕ → Bool = λ i. lt_z (numbers ws i) (numbers ws (suc i)) in
    let holds : Atom → Bool = λ a. le_z (numbers ws a.p -ℤ numbers ws a.q) a.c in
    record {
      value = numbers ws;
      at_zero = refl;
      rising = λ i h k. lt_z_yes (all_of_out rises (up_from 1 (n - 1)) (and_l (all_of rises (up_from 1 (n - 1))) (all_of holds az) t) (up_from_mem 1 (n - 1) i (omega arith) (omega arith)));
      every = λ a m. le_z_yes (all_of_out holds az (and_r (all_of rises (up_from 1 (n - 1))) (all_of holds az) t) m);
    }

-- ---- a circle of bounds

-- The order of the constants as atoms
abbrev orders : ℕ → List Atom
orders n = map (λ i. record { p = i; q = suc i; c = negsuc zero }) (up_from 1 (n - 1))

-- The bounds follow one another from p to q.
abbrev leads : ℕ → ℕ → List Atom → Bool
leads p q [] = eqb p q
leads p q (a ∷ az) = eqb p a.p && leads a.q q az

abbrev total : List Atom → ℤ
total [] = pos zero
total (a ∷ az) = a.c +ℤ total az

abbrev pub closes : ℕ → List Atom → ℕ → List Atom → Bool
closes n az p es = all_of (λ e. any_of (same_atom e) (az ++ orders n)) es && (leads p p es && not (le_z (pos zero) (total es)))

chain_holds : (value : ℕ → ℤ) (p q : ℕ) (es : List Atom) → T (leads p q es) → ((a : Atom) → Memᴰ a es → Holds whole value a) → (value p -ℤ value q) ≤ℤ total es
chain_holds value p q [] l h = rw (eqb→eq p q l) (→le (value q -ℤ value q) (pos zero) (omega (arith, sum (value q) (neg_ℤ (value q)), negated (value q))))
chain_holds value p q (a ∷ es) l h =
    rw (eqb→eq p a.p (and_l (eqb p a.p) (leads a.q q es) l))
    (chain (value a.p) (value a.q) (value q) a.c (total es) (h a (Memᴰ.head refl))
    (chain_holds value a.q q es (and_r (eqb p a.p) (leads a.q q es) l) (λ b m. h b (Memᴰ.tail m))))

order_holds : (n : ℕ) (az : List Atom) (P : Possible whole n az) (a : Atom) → Memᴰ a (orders n) → Holds whole P.value a
order_holds n az P a m =
    let (i, k, e) = Memᴰ.of_map (λ i. record { p = i; q = suc i; c = negsuc zero }) (up_from 1 (n - 1)) m in
    let (low, high) = up_from_out 1 (n - 1) i k in
    subst (Holds whole P.value) e (below (P.value i) (P.value (suc i)) (P.rising i (omega arith) (omega arith)))

pub impossible_by : (n : ℕ) (az : List Atom) (p : ℕ) (es : List Atom) → T (closes n az p es) → ¬ Possible whole n az
impossible_by n az p es t P =
    let held : Atom → Bool = λ e. any_of (same_atom e) (az ++ orders n) in
    let t₂ = and_r (all_of held es) (leads p p es && not (le_z (pos zero) (total es))) t in
    let round = and_l (leads p p es) (not (le_z (pos zero) (total es))) t₂ in
    let each : (a : Atom) → Memᴰ a es → Holds whole P.value a = λ a m. edge a (any_of_out (same_atom a) (az ++ orders n) (all_of_out held es (and_l (all_of held es) (leads p p es && not (le_z (pos zero) (total es))) t) m)) in
    T_not (le_z (pos zero) (total es)) (and_r (leads p p es) (not (le_z (pos zero) (total es))) t₂) (circle (P.value p) (total es) (chain_holds P.value p p es round each)).le
  where
    given : (b : Atom) → Memᴰ b az ⊎ Memᴰ b (orders n) → Holds whole P.value b
    given b (inl h) = P.every b h
    given b (inr h) = order_holds n az P b h

    edge : (a : Atom) → ((b : Atom) × Memᴰ b (az ++ orders n) × T (same_atom a b)) → Holds whole P.value a
    edge a (b, m, e) = subst (Holds whole P.value) (sym (same_atom→eq a b e)) (given b (Memᴰ.append_cases az m))

-- The answer to a step whose question has these numbers
pub judged_yes : (s : State) (x : Step) (ws : List ℤ) → T (keeps s.constants (question s x) ws) → Judged whole s x (answer true s x)
judged_yes s x ws t = judged_by whole true s x (λ u. possible_by s.constants (question s x) ws t, λ P. tt)
