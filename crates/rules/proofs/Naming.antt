-- The clause that a step names, and its instance: what the code has seen, as the calculus's conditions.
use mathlib.Core.Path.{◌∙◌, ◌≡◌, ap, refl, subst, sym}
use mathlib.Core.List.{List}
use mathlib.Core.Bool.{Bool, ◌&&◌, false, true}
use Prim.Native.Nat.{◌+◌, ◌-◌, ◌<◌, ◌≤◌, suc, zero, min, ℕ}
use native.Mathlib.Omega.{arith}
use lib.Dec.{T, leb}
use lib.ListN.{get_or, length, take}
use lib.Seq.{length-take-le}
use Rattle.std.proofs.lemmas.List.{take_min}
use borrow.Author.Tests.{le-leb, lt-leb}
use Rattle.basis.specs.Limits.{most_variables}
use Rattle.lists.proofs.Arrays.{exactly_length, exactly_take}
use Rattle.lists.specs.Arrays.{exactly}
use Rattle.rules.specs.Answers.{RunOf}
use Rattle.asking.specs.Looking.{held_at}
use Rattle.asking.specs.declared.Looked.{Looked}
use Rattle.rules.specs.declared.Run.{Run}
use Rattle.calculus.specs.Checks.{between}
use Rattle.calculus.specs.Tests.{clause_exists}
use Rattle.calculus.specs.States.{State, clause_at, clauses}
use Rattle.clauses.specs.Records.{clause_of, packed}
use Rattle.clauses.specs.declared.Clause.{Clause}
use Rattle.rules.proofs.Runs.{clause_says, clauses_is, constants_is}
use Rattle.calculus.specs.Clauses as calculus

-- ---- instances

-- As many constants as are counted: what a step names, and what the code reads
pub instance_is : (count : ℕ) (τ : List ℕ) → count ≤ length τ → exactly count 0 τ ≡ take count τ
instance_is count τ h = exactly_take 0 count τ h

-- The constants that are read: as many as are counted, and no more than there is room for
pub constants_read : (count : ℕ) (τ : List ℕ) → length τ ≡ most_variables → {k : ℕ} → k ≡ min count most_variables → take k τ ≡ take count τ
constants_read count τ long {k} e = let least : k ≡ min count (length τ) = omega (arith, e, long) in ap (λ (n : ℕ). take n τ) least ∙ take_min count τ

pub instance_long : (count : ℕ) (τ : List ℕ) → most_variables < count → leb (length (exactly count 0 τ)) most_variables ≡ false
instance_long count τ h = rw (exactly_length 0 count τ) (lt-leb count most_variables h)

pub instance_short : (count : ℕ) (τ : List ℕ) → count ≤ length τ → count ≤ most_variables → leb (length (take count τ)) most_variables ≡ true
instance_short count τ h k = rw (length-take-le count τ h) (le-leb count most_variables k)

-- ---- the clause that is named

-- The clause with a number that names one
held_named : (cs : List calculus.Clause) (c : ℕ) → T (clause_exists cs c) → held_at cs c ≡ clause_at cs c
held_named cs zero h = absurd h
held_named cs (suc c) h = let e : c ≡ suc c - 1 = omega arith in ap (λ (i : ℕ). get_or cs i calculus.no_clause) e

-- What a step looks at, where it looks at the clause c and there is such a clause
pub looks_named : (s : State) (k : Looked) (c : ℕ) → k ≡ record { clause = packed (held_at (clauses s) c) } → T (clause_exists (clauses s) c) → k.clause ≡ packed (clause_at (clauses s) c)
looks_named s k c e h = ap (λ (q : Looked). q.clause) e ∙ ap packed (held_named (clauses s) c h)

module _ {r : Run} {s : State} (R : RunOf r s) (k : Clause) (c : ℕ) (looks : T (clause_exists (clauses s) c) → k ≡ packed (clause_at (clauses s) c)) where
  pub exists_is : between 1 (r.input + r.learned) c ≡ clause_exists (clauses s) c
  exists_is = ap (λ (n : ℕ). between 1 n c) (clauses_is R)

  module _ (e : between 1 (r.input + r.learned) c ≡ true) where
    pub exists_there : clause_exists (clauses s) c ≡ true
    exists_there = sym exists_is ∙ e

    pub named_there : T (clause_exists (clauses s) c)
    named_there = subst T (sym exists_there) tt

    pub named_packed : k ≡ packed (clause_at (clauses s) c)
    named_packed = looks named_there

    pub named_says : clause_of k ≡ clause_at (clauses s) c
    named_says = clause_says R c k named_there named_packed

-- What the code asks of the clause that is named, and of that clause alone, the calculus asks.
pub asked_is : {r : Run} {s : State} → RunOf r s → (k : Clause) (c : ℕ) → (T (clause_exists (clauses s) c) → k ≡ packed (clause_at (clauses s) c)) → (P : ℕ → calculus.Clause → Bool)
    → (between 1 (r.input + r.learned) c && P r.constants (clause_of k)) ≡ (clause_exists (clauses s) c && P s.constants (clause_at (clauses s) c))
asked_is {r} {s} R k c looks P = go (between 1 (r.input + r.learned) c) refl
  where
    go : (b : Bool) → between 1 (r.input + r.learned) c ≡ b → (between 1 (r.input + r.learned) c && P r.constants (clause_of k)) ≡ (clause_exists (clauses s) c && P s.constants (clause_at (clauses s) c))
    go true e = λ i. exists_is R k c looks i && P (constants_is R i) (named_says R k c looks e i)
    go false e = ap (λ (b : Bool). b && P r.constants (clause_of k)) e ∙ sym (ap (λ (b : Bool). b && P s.constants (clause_at (clauses s) c)) (sym (exists_is R k c looks) ∙ e))

pub and_true : (a b : Bool) → (a && b) ≡ true → (a ≡ true) × (b ≡ true)
and_true true b e = (refl, e)
and_true false b e = absurd (let z : ◌≡◌ {A = ℕ} 0 1 = cc in omega arith)
