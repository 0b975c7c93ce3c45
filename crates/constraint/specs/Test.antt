-- What the constraint test is handed, when it refuses, and what each answer says. The paper's section "The constraint test".
use Rattle.std.specs.Prelude.{◌≡◌, List, ℕ, suc, ◌≤◌, ◌<◌, ℤ, get_or, length, Option, Some, None, Result, Ok, Err}
use Rattle.basis.specs.declared.Atom.{Atom}
use Rattle.basis.specs.declared.Refusal.TheVariants as refusals
use Rattle.basis.specs.declared.Refused.{Refused}
use Rattle.basis.specs.Limits.{most_constants, most_tested}
use Rattle.basis.specs.Numbers.{whole}
use Rattle.basis.specs.Atoms.{no_atom, InTest, Proper, Possible}
use Rattle.basis.specs.Choices.{NumbersOf}
use Rattle.constraint.specs.Witnesses.{packed_numbers}

-- The atom at k, from 0; its number is one more.
abbrev pub atom_at : List Atom → ℕ → Atom
atom_at atoms k = get_or atoms k no_atom

-- Handed at most 16 constants and 184 atoms, ..
pub record FewEnough (constants : ℕ) (atoms : List Atom) : Type 0 where
  pub few_constants : constants ≤ most_constants
  pub few_atoms : length atoms ≤ most_tested

-- .. each with places among the constants, not both 0, and c in range: "trail constants, and the test's, reach −1,000,001".
pub record Accepted (constants : ℕ) (atoms : List Atom) : Type 0 where
  pub few_enough : FewEnough constants atoms
  pub proper : (k : ℕ) → k < length atoms → Proper InTest constants (atom_at atoms k)

-- "Handed more than 16 constants or 184 atoms it refuses by 3, place 0; then an atom with a place above the constants, both places 0 or
-- c out of range by 4, the place being the atom's number": that of the first such atom.
pub data Refusal (constants : ℕ) (atoms : List Atom) : Refused ℕ → Type 0 where
  too_many : ¬ FewEnough constants atoms → Refusal constants atoms (record { refusal = refusals.AboveLimit; place = 0 })
  improper : (k : ℕ) → FewEnough constants atoms → k < length atoms → ((j : ℕ) → j < k → Proper InTest constants (atom_at atoms j)) → ¬ Proper InTest constants (atom_at atoms k)
      → Refusal constants atoms (record { refusal = refusals.OutOfRange; place = suc k })

-- The array holds the numbers behind a yes, and 0 past them.
abbrev pub NumbersIn : ℕ → List Atom → List ℤ → Type 0
NumbersIn constants atoms slots = (numbers : List ℤ) × NumbersOf constants atoms numbers × (slots ≡ packed_numbers numbers)

-- What each answer says of the constants and the atoms: yes with the numbers behind it, no, or a refusal.
abbrev pub Says : ℕ → List Atom → Result (Option (List ℤ)) (Refused ℕ) → Type 0
Says constants atoms (Ok (Some slots)) = Accepted constants atoms × Possible whole constants atoms × NumbersIn constants atoms slots
Says constants atoms (Ok None) = Accepted constants atoms × (¬ Possible whole constants atoms)
Says constants atoms (Err refused) = Refusal constants atoms refused

-- Whether atoms are possible is decided, whatever they are: also those that the test would refuse. Proved in proofs/Decided.antt.
abbrev pub Decided : Type 0
Decided = (constants : ℕ) (atoms : List Atom) → Dec (Possible whole constants atoms)

-- Two answers that say what is so are one: proved in proofs/Unique.antt.
abbrev pub Unique : Type 0
Unique = (constants : ℕ) (atoms : List Atom) (f g : Result (Option (List ℤ)) (Refused ℕ)) → Says constants atoms f → Says constants atoms g → f ≡ g
