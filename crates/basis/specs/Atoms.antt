-- What an atom says, which atoms may stand in a clause or in a set, and which sets are possible.
use Rattle.std.specs.Prelude.{◌≡◌, ◌⊎◌, ℕ, suc, ◌+◌, ◌≤◌, ◌<◌, ℤ, pos, neg_ℤ, ◌-ℤ◌, ◌≤ℤ◌}
use mathlib.Core.List.{List, Memᴰ}
use Rattle.basis.specs.declared.Atom.{Atom}
use Rattle.basis.specs.Limits.{most_c, most_denied}
use Rattle.basis.specs.Numbers.{Numbers, whole}

-- The blank atom stands in every slot past a count.
abbrev pub no_atom : Atom
no_atom = record { p = 0; q = 0; c = pos 0 }

-- "c is a signed 32-bit number from −1,000,000 to 1,000,000": in a clause.
pub record InRange (c : ℤ) : Type 0 where
  pub low : neg_ℤ (pos most_c) ≤ℤ c
  pub high : c ≤ℤ pos most_c

-- "Trail constants, and the test's, reach −1,000,001."
pub record InTest (c : ℤ) : Type 0 where
  pub low : neg_ℤ (pos most_denied) ≤ℤ c
  pub high : c ≤ℤ pos most_c

-- "A place is a variable or 0, the number zero; not both are 0." The places are those up to `most`, and c is in the range that is asked of it.
pub record Proper (Range : ℤ → Type 0) (most : ℕ) (a : Atom) : Type 0 where
  pub p_place : a.p ≤ most
  pub q_place : a.q ≤ most
  pub some_place : 0 < a.p + a.q
  pub c_range : Range a.c

-- "The denial of p − q ≤ c is q − p ≤ −c − 1."
abbrev pub denial : Atom → Atom
denial a = record { p = a.q; q = a.p; c = neg_ℤ a.c -ℤ pos 1 }

module _ (N : Numbers) where
  -- "An atom (p, q, c) means p − q ≤ c", with a number for each place.
  abbrev pub Holds : (ℕ → N.Number) → Atom → Type 0
  Holds value a = N.AtMost (value a.p) (value a.q) a.c

  -- "A set of ground atoms is possible if whole numbers exist for the constants that keep this order and make every atom true."
  pub record Possible (constants : ℕ) (atoms : List Atom) : Type 0 where
    pub value : ℕ → N.Number
    pub at_zero : value 0 ≡ N.zeroth
    -- "The constants b1, b2, .. are ordered: b1 < b2 < .. ."
    pub rising : (i : ℕ) → 1 ≤ i → i < constants → N.Below (value i) (value (suc i))
    pub every : (a : Atom) → Memᴰ a atoms → Holds value a

-- The order is strict: no two neighbouring constants have one number. Proved in proofs/Order.antt.
abbrev pub ConstantsApart : Type 0
ConstantsApart = (constants : ℕ) (atoms : List Atom) (P : Possible whole constants atoms) (i : ℕ) → 1 ≤ i → i < constants → ¬ (P.value i ≡ P.value (suc i))

-- Whatever the numbers, exactly one of an atom and its denial holds. Proved in proofs/Denials.antt.
pub record ExactlyOne (P Q : Type 0) : Type 0 where
  pub either : P ⊎ Q
  pub not_both : ¬ (P × Q)

abbrev pub DenialDenies : Type 0
DenialDenies = (value : ℕ → ℤ) (a : Atom) → ExactlyOne (Holds whole value a) (Holds whole value (denial a))

-- The denial of the denial is the atom. Proved in proofs/Denials.antt.
abbrev pub DeniedTwice : Type 0
DeniedTwice = (a : Atom) → denial (denial a) ≡ a

-- "So trail constants, and the test's, reach −1,000,001": an atom that may stand in a clause, and its denial, may both be tested. Proved in
-- proofs/Denials.antt.
abbrev pub DenialProper : Type 0
DenialProper = (most : ℕ) (a : Atom) → Proper InRange most a → Proper InTest most a × Proper InTest most (denial a)
