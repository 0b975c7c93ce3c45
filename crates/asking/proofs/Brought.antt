-- The atoms that a Decide brings: what the code counts and asks of them is what the calculus asks.
use mathlib.Core.Path.{◌∙◌, ◌≡◌, ap, refl, sym}
use mathlib.Core.List.{List, [], ◌∷◌, map}
use mathlib.Core.Bool.{Bool, ◌&&◌, cond, false, true}
use Prim.Native.Nat.{◌-◌, ◌<◌, ◌≤◌, min, suc, zero, ℕ}
use native.Mathlib.Omega.{arith}
use lib.Dec.{leb}
use lib.ListN.{get_or-map, get_or, length, length-take}
use lib.Seq.{take_all}
use borrow.Author.Tests.{leb-true}
use Rattle.basis.specs.Atoms.{no_atom}
use Rattle.basis.specs.Limits.{most_brought, most_variables}
use Rattle.basis.specs.Versions.{form_of}
use Rattle.lists.proofs.Arrays.{get_d_exactly}
use Rattle.lists.specs.Arrays.{exactly}
use Rattle.lists.specs.Lists.{all_of}
use Rattle.calculus.specs.Clauses as calculus
use Rattle.calculus.specs.Rules.{brought_at, source_atoms, source_in}
use Rattle.calculus.specs.States.{State, clause_at, clauses}
use Rattle.calculus.specs.Tests.{clause_exists, counts_few, fits_in, signs_fit, source_fits}
use Rattle.calculus.specs.Trails as trails
use Rattle.asking.specs.Looking.{atoms_looked, count_brought, held_at, named_at, named_rightly}
use Rattle.asking.specs.Steps.{decide_of, no_source, source_of, sources_in}
use Rattle.asking.specs.declared.Step.{Step}
use Rattle.asking.proofs.Sources.{sources_length}

-- The clause with a number that names one
pub held_named : (cs : List calculus.Clause) (c : ℕ) → clause_exists cs c ≡ true → held_at cs c ≡ clause_at cs c
held_named cs zero e = absurd (let z : ◌≡◌ {A = ℕ} 0 1 = cc in omega arith)
held_named cs (suc c) e = let k : c ≡ suc c - 1 = omega arith in ap (λ (i : ℕ). get_or cs i calculus.no_clause) k

pub both_true : (a b : Bool) → (a && b) ≡ true → (a ≡ true) × (b ≡ true)
both_true true b e = (refl, e)
both_true false b e = absurd (let z : ◌≡◌ {A = ℕ} 0 1 = cc in omega arith)

-- ---- how many there are

module _ (s : State) (x : Step) where
  abbrev zs : List trails.Source
  zs = brought_at s (sources_in x.brought x)

  abbrev count : ℕ
  count = count_brought s.version x

  pub brought_are : zs ≡ sources_in count x
  unfolding exactly
  brought_are = go (form_of s.version).brings
    where
      go : (b : Bool) → cond b (sources_in x.brought x) [] ≡ sources_in (cond b x.brought 0) x
      go true = refl
      go false = refl

  pub brought_length : length zs ≡ count
  brought_length = ap length brought_are ∙ sources_length count x

  -- Each is the one that stands in its slot.
  pub brought_at_lem : (j : ℕ) → j < count → get_or zs j (source_of no_source) ≡ source_of (get_or x.atoms j no_source)
  brought_at_lem j h = ap (λ (l : List trails.Source). get_or l j (source_of no_source)) brought_are ∙ get_or-map source_of (exactly count no_source x.atoms) j no_source ∙ ap source_of (get_d_exactly no_source count x.atoms j h)

  pub looked_count : length (atoms_looked s (decide_of x)) ≡ min most_brought count
  looked_count = omega (arith, length-take most_brought zs, brought_length)

-- ---- what is asked of them

module _ (s : State) where
  abbrev fits : trails.Source → Bool
  fits = source_fits (clauses s) s.constants

  pub fits_held : (c : ℕ) (P : calculus.Clause → Bool) → (clause_exists (clauses s) c && P (held_at (clauses s) c)) ≡ (clause_exists (clauses s) c && P (clause_at (clauses s) c))
  fits_held c P = go (clause_exists (clauses s) c) refl
    where
      go : (b : Bool) → clause_exists (clauses s) c ≡ b → (clause_exists (clauses s) c && P (held_at (clauses s) c)) ≡ (clause_exists (clauses s) c && P (clause_at (clauses s) c))
      go true e = ap (λ (C : calculus.Clause). clause_exists (clauses s) c && P C) (held_named (clauses s) c e)
      go false e = rw e

  -- An instance that is not too long, and what the calculus asks
  rightly_is : (z : trails.Source) → named_rightly s z ≡ (leb (length z.instance) most_variables && fits z)
  rightly_is z = ap (λ (b : Bool). leb (length z.instance) most_variables && b) (fits_held z.clause (λ C. fits_in s.constants C z))

  all_right : (zs : List trails.Source) → all_of (λ z. leb (length z.instance) most_variables) zs ≡ true → all_of (named_rightly s) zs ≡ all_of fits zs
  all_right [] e = refl
  all_right (z ∷ zs) e =
      let (short, rest) = both_true (leb (length z.instance) most_variables) (all_of (λ z. leb (length z.instance) most_variables) zs) e in
      λ i. (rightly_is z ∙ ap (λ (b : Bool). b && fits z) short) i && all_right zs rest i

  -- What the atoms are, where each is one of a clause
  pub atoms_named_lem : (zs : List trails.Source) → all_of fits zs ≡ true → map (λ z. source_in (held_at (clauses s) z.clause) z) zs ≡ source_atoms (clauses s) zs
  atoms_named_lem [] e = refl
  atoms_named_lem (z ∷ zs) e =
      let (own, rest) = both_true (fits z) (all_of fits zs) e in
      let there = (both_true (clause_exists (clauses s) z.clause) (fits_in s.constants (clause_at (clauses s) z.clause) z) own).0 in
      λ i. source_in (held_named (clauses s) z.clause there i) z ∷ atoms_named_lem zs rest i

-- ---- where their counts are within the limits

module _ (s : State) (x : Step) (few : counts_few (sources_in (count s x) x) ≡ true) where
  counted : (leb (length (zs s x)) most_brought ≡ true) × (all_of (λ z. leb (length z.instance) most_variables) (zs s x) ≡ true)
  counted = both_true (leb (length (zs s x)) most_brought) (all_of (λ z. leb (length z.instance) most_variables) (zs s x)) (ap counts_few (brought_are s x) ∙ few)

  pub few_brought : count s x ≤ most_brought
  few_brought = omega (arith, leb-true (length (zs s x)) most_brought counted.0, brought_length s x)

  pub first_all : min most_brought (count s x) ≡ count s x
  first_all = omega (arith, few_brought)

  pub signs_asked : signs_fit (sources_in (min most_brought (count s x)) x) ≡ signs_fit (zs s x)
  signs_asked = ap (λ (n : ℕ). signs_fit (sources_in n x)) first_all ∙ sym (ap signs_fit (brought_are s x))

  pub looked_all : atoms_looked s (decide_of x) ≡ zs s x
  looked_all = take_all most_brought (zs s x) (omega (arith, few_brought, brought_length s x))

  pub right_asked : (named_at s (decide_of x)).right ≡ all_of (source_fits (clauses s) s.constants) (zs s x)
  right_asked = ap (all_of (named_rightly s)) looked_all ∙ all_right s (zs s x) counted.1

  pub atoms_asked : (named_at s (decide_of x)).right ≡ true → (named_at s (decide_of x)).at ≡ exactly most_brought no_atom (source_atoms (clauses s) (zs s x))
  atoms_asked e = ap (exactly most_brought no_atom) (ap (map (λ z. source_in (held_at (clauses s) z.clause) z)) looked_all ∙ atoms_named_lem s (zs s x) (sym right_asked ∙ e))
