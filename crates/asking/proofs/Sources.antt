-- The atoms that a step record names: what is asked of the first of them.
use mathlib.Core.Path.{◌∙◌, ◌≡◌, ap, refl, sym}
use mathlib.Core.List.{List, [], ◌∷◌, map}
use mathlib.Core.Bool.{Bool, ◌&&◌, cond, false, true}
use Prim.Native.Nat.{◌<◌, ◌≤◌, suc, zero, ℕ}
use native.Mathlib.Decide.{dec_lt}
use native.Mathlib.Omega.{arith}
use lib.Dec.{leb}
use lib.ListN.{get_or-eq_default, length, length-map, length-take, take}
use lib.Seq.{get_or-take}
use borrow.Author.Tests.{eq-eqb, le-leb, lt-leb, ne_eqb}
use Rattle.basis.specs.Atoms.{denial}
use Rattle.basis.specs.Limits.{most_brought, most_variables}
use Rattle.basis.specs.declared.Atom.{Atom}
use Rattle.lists.proofs.Arrays.{exactly_length, exactly_take, get_d_exactly}
use Rattle.lists.specs.Arrays.{exactly}
use Rattle.lists.specs.Lists.{all_of}
use Rattle.calculus.specs.Checks.{between}
use Rattle.calculus.specs.Clauses.{rename_atom, under}
use Rattle.calculus.specs.Rules.{atom_numbered, source_in}
use Rattle.calculus.specs.Tests.{counts_few, instance_fits, signs_fit}
use Rattle.calculus.specs.Trails as trails
use Rattle.clauses.specs.Records.{clause_of}
use Rattle.clauses.specs.declared.Clause.{Clause}
use Rattle.asking.specs.Looking.{right_in}
use Rattle.asking.specs.Steps.{no_source, source_of, sources_in}
use Rattle.asking.specs.declared.Source.{Source}
use Rattle.asking.specs.declared.Step.{Step}

-- What a read past the end of an array of sources would give
abbrev pub past_source : Source
past_source = record { clause = 0; number = 0; sign = 0; count = 0; instance = [] }

-- ---- what is asked of the first of them

all_of_map : {A B : Type 0} (p : B → Bool) (f : A → B) (q : A → Bool) → ((a : A) → p (f a) ≡ q a) → (l : List A) → all_of p (map f l) ≡ all_of q l
all_of_map p f q same [] = refl
all_of_map p f q same (a ∷ l) = λ i. same a i && all_of_map p f q same l i

pub sources_length : (n : ℕ) (x : Step) → length (sources_in n x) ≡ n
sources_length n x = length-map (exactly n no_source x.atoms) source_of ∙ exactly_length no_source n x.atoms

module _ (n : ℕ) (x : Step) where
  -- As many as there are slots for stand in the record.
  module _ (h : n ≤ length x.atoms) where
    pub sources_taken : sources_in n x ≡ map source_of (take n x.atoms)
    sources_taken = ap (map source_of) (exactly_take no_source n x.atoms h)

    asked_of : (p : trails.Source → Bool) (q : Source → Bool) → ((z : Source) → p (source_of z) ≡ q z) → all_of p (sources_in n x) ≡ all_of q (take n x.atoms)
    asked_of p q same = ap (all_of p) sources_taken ∙ all_of_map p source_of q same (take n x.atoms)

    pub signs_are : signs_fit (sources_in n x) ≡ all_of (λ z. leb z.sign 1) (take n x.atoms)
    signs_are = asked_of (λ z. leb z.sign 1) (λ z. leb z.sign 1) (λ z. refl)

    pub counts_are : n ≤ most_brought → counts_few (sources_in n x) ≡ all_of (λ z. leb z.count most_variables) (take n x.atoms)
    counts_are k =
        ap (λ (b : Bool). b && all_of (λ z. leb (length z.instance) most_variables) (sources_in n x)) (ap (λ (m : ℕ). leb m most_brought) (sources_length n x) ∙ le-leb n most_brought k)
        ∙ asked_of (λ z. leb (length z.instance) most_variables) (λ z. leb z.count most_variables) (λ z. ap (λ (m : ℕ). leb m most_variables) (exactly_length 0 z.count z.instance))

  pub counts_above : most_brought < n → counts_few (sources_in n x) ≡ false
  counts_above h = ap (λ (b : Bool). b && all_of (λ z. leb (length z.instance) most_variables) (sources_in n x)) (ap (λ (m : ℕ). leb m most_brought) (sources_length n x) ∙ lt-leb n most_brought h)

-- ---- what one of them names

-- The constants that are read are those of the array, and blank past it.
under_exactly : (n : ℕ) (τ : List ℕ) (x : ℕ) → under (exactly n 0 τ) x ≡ under (take n τ) x
under_exactly n τ zero = refl
under_exactly n τ (suc x) = elim (dec_lt x n) [
  | yes h ↦ get_d_exactly 0 n τ x h ∙ sym (get_or-take n τ x 0 h)
  | no h ↦ get_or-eq_default (exactly n 0 τ) 0 (omega (arith, exactly_length 0 n τ)) ∙ sym (get_or-eq_default (take n τ) 0 (omega (arith, length-take n τ)))
]

module _ (k : Clause) (z : Source) where
  -- With such an atom, and no more constants than there is room for, it is the instance that is asked about.
  pub rightly : (constants held : ℕ) → length z.instance ≡ most_variables → between 1 (length (clause_of k).atoms) z.number ≡ true → z.count ≤ most_variables → {τ : List ℕ} → τ ≡ take z.count z.instance
      → right_in constants held k z ≡ (leb (length τ) most_variables && (between 1 held z.clause && instance_fits constants (clause_of k) τ))
  rightly constants held long e few q =
      let counted : z.count ≡ length (take z.count z.instance) = omega (arith, length-take z.count z.instance) in
      rw q (λ i. leb (counted i) most_variables && (between 1 held z.clause && (e i && instance_fits constants (clause_of k) (exactly_take 0 z.count z.instance (omega arith) i))))

  -- Its atom, as it stands
  abbrev own : Atom
  own = rename_atom (under (source_of z).instance) (atom_numbered (clause_of k) z.number)

  -- With an atom of the clause, and its instance
  module _ {a g : Atom} (is : a ≡ atom_numbered (clause_of k) z.number) (grounded : g ≡ rename_atom (under (take z.count z.instance)) a) where
    grounded_own : g ≡ own
    grounded_own = grounded ∙ ap (rename_atom (under (take z.count z.instance))) is
        ∙ (λ i. record { p = sym (read numbered.p) i; q = sym (read numbered.q) i; c = numbered.c })
      where
        numbered : Atom
        numbered = atom_numbered (clause_of k) z.number

        read : (x : ℕ) → under (source_of z).instance x ≡ under (take z.count z.instance) x
        read x = under_exactly z.count z.instance x

    -- "1 as it stands, 0 denied"
    pub stands_so : z.sign ≡ 1 → g ≡ source_in (clause_of k) (source_of z)
    stands_so e = grounded_own ∙ sym (ap (λ (b : Bool). cond b own (denial own)) (eq-eqb z.sign 1 e))

    pub denied_so : ¬ (z.sign ≡ 1) → {d : Atom} → d ≡ denial g → d ≡ source_in (clause_of k) (source_of z)
    denied_so e is-denied = is-denied ∙ ap denial grounded_own ∙ sym (ap (λ (b : Bool). cond b own (denial own)) (ne_eqb z.sign 1 e))
