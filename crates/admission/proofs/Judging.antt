-- What the tests of admission say of a clause record as it was read.
use Rattle.std.proofs.Common.{◌≡◌, refl, sym, ◌∙◌, ap, ap₂, List, [], ◌∷◌, ◌++◌, Bool, true, false, cond, ◌&&◌, ℕ, zero, suc, ◌+◌, ◌-◌, ◌≤◌, Err, leb, arith, length, map, take, drop, length-take, length-drop}
use Rattle.std.specs.Prelude.{ltb}
use mathlib.Core.List.{append-nil}
use lib.ListN.{length-map, replicate}
use Rattle.std.proofs.lemmas.List.{drop_all}
use Rattle.std.specs.List.{list_all, range_with_len}
use Rattle.basis.specs.declared.Literal.{Literal}
use Rattle.basis.specs.Limits.{most_variables, most_atoms, most_literals}
use Rattle.basis.specs.Refusals.{above_limit}
use Rattle.basis.specs.Atoms.{no_atom}
use Rattle.lists.specs.Lists.{all_of, up_from}
use Rattle.lists.specs.Arrays.{exactly}
use Rattle.lists.proofs.Arrays.{exactly_length, exactly_none, map_exactly}
use Rattle.calculus.specs.Class.{arity_of, within_limits}
use Rattle.clauses.specs.declared.Clause.{Clause}
use Rattle.clauses.specs.Records.{clause_of, packed, counted, Counted}
use Rattle.clauses.proofs.Records.{packed_says}
use Rattle.admission.specs.Offered.{cleaned, clause_answer, offered}
use Rattle.calculus.specs.Clauses as calculus

-- The numbers from a on, counted from the one before
pub all_up : (p : ℕ → Bool) (a n : ℕ) → list_all (λ x. p (x + 1)) (range_with_len a n) ≡ all_of p (up_from (a + 1) n)
all_up p a zero = refl
all_up p a (suc n) = let e : a + 1 + 1 ≡ suc (a + 1) = omega arith in ap (λ b. p (a + 1) && b) (all_up p (a + 1) n ∙ ap (λ k. all_of p (up_from k n)) e)

-- ---- the record as it was read

-- Blanks from place n on, in an array with m places
blank_from : {A : Type 0} (d : A) (n m : ℕ) (l : List A) → n ≤ m → length l ≡ m → take n l ++ (replicate (m - n) d ++ drop (m - n) (drop n l)) ≡ exactly m d (exactly n d l)
unfolding exactly
blank_from {A} d zero m l h e = let z : m - 0 ≡ m = omega arith in rw (z, drop_all m l (omega arith)) (append-nil (replicate m d) ∙ sym (exactly_none d m))
blank_from d (suc n) m [] h e = absurd (omega arith)
blank_from d (suc n) zero (x ∷ l) h e = absurd (omega arith)
blank_from {A} d (suc n) (suc m) (x ∷ l) h e = let z : suc m - suc n ≡ m - n = omega arith in rw z (ap {B = List A} (λ r. x ∷ r) (blank_from d n m l (omega arith) (omega arith)))

-- Slots of an array filled from place n on
pub filled_from : {A : Type 0} {d e : A} {n k : ℕ} (m : ℕ) (l : List A) {b : List A} → n ≡ k → k ≤ m → length l ≡ m → e ≡ d → b ≡ replicate (length (take (length l - n) (drop n l))) e →
    take n l ++ (b ++ drop (length l - n) (drop n l)) ≡ exactly m d (exactly k d l)
filled_from {A} {d} {e} {n} {k} m l {b} en h long ed eb =
    let many : length (take (length l - n) (drop n l)) ≡ m - n = omega (arith, length-take (length l - n) (drop n l), length-drop n l) in
    let blanks : b ≡ replicate (m - n) d = eb ∙ ap₂ (λ (i : ℕ) (a : A). replicate i a) many ed in
    let filled : take n l ++ (b ++ drop (length l - n) (drop n l)) ≡ exactly m d (exactly n d l) = rw (blanks, long) (blank_from d n m l (omega arith) long) in
    filled ∙ ap (λ (i : ℕ). exactly m d (exactly i d l)) en

module _ (arities : List ℕ) where
  cleaned_blank : cleaned arities calculus.no_literal ≡ calculus.no_literal
  cleaned_blank = λ i. record { positive = false; predicate = 0; x = same (ltb 0 n) i; y = same (ltb 1 n) i; z = same (ltb 2 n) i }
    where
      n : ℕ
      n = arity_of arities 0

      same : (b : Bool) → ◌≡◌ {A = ℕ} (cond b 0 0) 0
      same true = refl
      same false = refl

  -- Blanks are blank as they are read.
  pub exactly_cleaned : (n : ℕ) (l : List Literal) → exactly n calculus.no_literal (map (cleaned arities) l) ≡ map (cleaned arities) (exactly n calculus.no_literal l)
  exactly_cleaned n l = ap (λ (d : Literal). exactly n d (map (cleaned arities) l)) (sym cleaned_blank) ∙ sym (map_exactly calculus.no_literal (cleaned arities) n l)

module _ (arities : List ℕ) (c : Clause) where
  atoms_long : length (offered arities c).atoms ≡ c.atomcount
  atoms_long = exactly_length no_atom c.atomcount c.atoms

  literals_long : length (offered arities c).literals ≡ c.literalcount
  literals_long = length-map (exactly c.literalcount calculus.no_literal c.literals) (cleaned arities) ∙ exactly_length calculus.no_literal c.literalcount c.literals

  pub clean_is : (r : Clause) → r.variables ≡ c.variables → r.atomcount ≡ c.atomcount → r.literalcount ≡ c.literalcount → r.atoms ≡ exactly most_atoms no_atom (offered arities c).atoms
      → r.literals ≡ exactly most_literals calculus.no_literal (offered arities c).literals → r ≡ packed (offered arities c)
  clean_is r v n m az ls = λ i. record { variables = v i; atomcount = (n ∙ sym atoms_long) i; literalcount = (m ∙ sym literals_long) i; atoms = az i; literals = ls i }

  pub offered_limits : within_limits (offered arities c) ≡ counted c
  offered_limits = ap₂ (λ (a l : ℕ). leb c.variables most_variables && (leb a most_atoms && leb l most_literals)) atoms_long literals_long

  module _ (h : Counted c) where
    pub packed_counted : Counted (packed (offered arities c))
    packed_counted = record { few_variables = h.few_variables; few_atoms = rw atoms_long h.few_atoms; few_literals = rw literals_long h.few_literals }

    pub offered_says : clause_of (packed (offered arities c)) ≡ offered arities c
    offered_says = packed_says (offered arities c) (record { few_variables = h.few_variables; few_atoms = rw atoms_long h.few_atoms; few_literals = rw literals_long h.few_literals })

  pub answer_above : counted c ≡ false → Err above_limit ≡ clause_answer arities c
  unfolding clause_answer
  answer_above e = rw (offered_limits ∙ e)
