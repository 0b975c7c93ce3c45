-- What the constraint test is asked, and what its yes says.
use Rattle.std.specs.Option.{is_some}
use Rattle.std.specs.Prelude.{Option, Some, ℤ, ◌≡◌, ◌↔◌, Bool, true, false, ℕ, ◌+◌, ◌≤◌, T, length, take, drop, set}
use mathlib.Core.List.{List, ◌++◌, Memᴰ}
use Rattle.basis.specs.declared.Atom.{Atom}
use Rattle.basis.specs.declared.Literal.{Literal}
use Rattle.basis.specs.Limits.{most_constants, most_entries, most_atoms, most_tested}
use Rattle.basis.specs.Numbers.{whole}
use Rattle.basis.specs.Atoms.{no_atom, InTest, Proper, Possible}
use Rattle.lists.specs.Arrays.{exactly}
use Rattle.calculus.specs.Tests.{atoms_undefined}
use Rattle.calculus.specs.Trails.{Entry, Trail, atoms_of, foreground, background, undefined}
use Rattle.constraint.specs.Test.{NumbersIn}
use Rattle.testing.specs.declared.DecisionSeen.{DecisionSeen}
use Rattle.testing.specs.declared.Tested.{Tested}

abbrev pub is_background : Entry → Bool
is_background (foreground l o) = false
is_background (background a o) = true

-- ---- what is gathered

-- The record of a trail's atoms and then a step's, blank past them
abbrev pub packed_tested : List Atom → List Atom → Tested
packed_tested ts az = record { known = length ts; count = length (ts ++ az); atoms = exactly most_tested no_atom (ts ++ az) }

-- The record of these atoms of a trail and of a step, for which it has room
pub record Gathers (t : Tested) (ts az : List Atom) : Type 0 where
  pub few_known : length ts ≤ most_entries
  pub few_step : length az ≤ most_atoms
  pub packed : t ≡ packed_tested ts az

-- Such a record is unique. Proved in proofs/Gathering.antt.
abbrev pub GathersOnce : Type 0
GathersOnce = (t u : Tested) (ts az : List Atom) → Gathers t ts az → Gathers u ts az → t ≡ u

-- All atoms of a record, those of the trail, and those of the step
abbrev pub tested_atoms : Tested → List Atom
tested_atoms t = take t.count t.atoms

abbrev pub known_atoms : Tested → List Atom
known_atoms t = take t.known t.atoms

abbrev pub step_atoms : Tested → List Atom
step_atoms t = drop t.known (tested_atoms t)

-- One atom more, after the others
abbrev pub tested_with : Tested → Atom → Tested
tested_with t a = record { known = t.known; count = t.count + 1; atoms = set t.atoms t.count a }

-- The record counts no more atoms than there is room for, at most 24 of them the step's.
pub record InRoom (t : Tested) : Type 0 where
  pub ordered : t.known ≤ t.count
  pub few : t.count ≤ most_tested
  pub few_step : t.count ≤ t.known + most_atoms

-- ---- the constraint test

-- The constraint test takes the atoms.
pub record Testable (constants : ℕ) (atoms : List Atom) : Type 0 where
  pub few_constants : constants ≤ most_constants
  pub proper : (a : Atom) → Memᴰ a atoms → Proper InTest constants a

-- The answer is yes exactly if the constraint test takes the atoms and they are possible.
abbrev pub SaysPossible : ℕ → List Atom → Bool → Type 0
SaysPossible constants atoms b = T b ↔ (Testable constants atoms × Possible whole constants atoms)

-- Numbers are given with a yes alone, and they are those behind it.
pub record WitnessOf (constants : ℕ) (atoms : List Atom) (w : Option (List ℤ)) : Type 0 where
  pub says : SaysPossible constants atoms (is_some w)
  pub shown : (numbers : List ℤ) → w ≡ Some numbers → NumbersIn constants atoms numbers

-- There is one such record. Proved in proofs/Asked.antt.
abbrev pub WitnessOnce : Type 0
WitnessOnce = (constants : ℕ) (atoms : List Atom) (v w : Option (List ℤ)) → WitnessOf constants atoms v → WitnessOf constants atoms w → v ≡ w

-- ---- what a Decide asks

-- Of a trail, its literal and the atoms that it brings: whether the literal is undefined, whether they are, and what the constraint test says of the
-- trail's and those.
pub record SeesDecision (constants : ℕ) (t : Trail) (l : Literal) (az : List Atom) (s : DecisionSeen) : Type 0 where
  pub free : s.free ≡ undefined t l
  pub fresh : s.fresh ≡ atoms_undefined (atoms_of t) az
  pub witness : WitnessOf constants (atoms_of t ++ az) s.witness

-- There is one such record. Proved in proofs/Seeing.antt.
abbrev pub SeesOnce : Type 0
SeesOnce = (constants : ℕ) (t : Trail) (l : Literal) (az : List Atom) (r s : DecisionSeen) → SeesDecision constants t l az r → SeesDecision constants t l az s → r ≡ s
