-- A clause within the limits is what its record says.
use mathlib.Core.Path.{◌≡◌, sym, ◌∙◌, ap, subst}
use mathlib.Core.List.{[]}
use mathlib.Core.Bool.{Bool, true, ◌&&◌}
use Prim.Native.Nat.{ℕ, ◌≤◌}
use native.Mathlib.Omega.{arith}
use lib.Dec.{T, leb, leb→le}
use lib.ListN.{length, take}
use Rattle.basis.specs.Limits.{most_variables, most_atoms, most_literals}
use Rattle.basis.specs.Atoms.{no_atom}
use Rattle.lists.proofs.Tests.{and_l, and_r}
use Rattle.lists.proofs.Arrays.{take_exactly}
use Rattle.calculus.specs.Class.{Limited}
use Rattle.clauses.specs.declared.Clause.{Clause}
use Rattle.clauses.specs.Records.{clause_of, instanced_of, packed, packed_instanced, counted, Counted}
use Rattle.calculus.specs.Clauses as calculus

-- What a read past the end of an array of clauses would give
abbrev pub past_table : Clause
past_table = record { variables = 0; atomcount = 0; literalcount = 0; atoms = []; literals = [] }

-- Its atoms and literals are, however many variables it has.
pub packed_holds : (C : calculus.Clause) → length C.atoms ≤ most_atoms → length C.literals ≤ most_literals → clause_of (packed C) ≡ C
packed_holds C h k = λ i. record { variables = C.variables; atoms = take_exactly no_atom most_atoms C.atoms h i; literals = take_exactly calculus.no_literal most_literals C.literals k i }

pub packed_says : (C : calculus.Clause) → Limited C → clause_of (packed C) ≡ C
packed_says C h = packed_holds C h.few_atoms h.few_literals

-- Of an instance with a constant for each variable
pub packed_instanced_says : (N : calculus.Instanced) → Limited N.clause → length N.instance ≡ N.clause.variables → instanced_of (packed_instanced N) ≡ N
packed_instanced_says N h e =
    let whole = ap (λ (n : ℕ). take n (packed_instanced N).instance) (sym e) ∙ take_exactly 0 most_variables N.instance (omega (arith, h.few_variables)) in
    λ i. record { clause = packed_says N.clause h i; instance = whole i }

pub counted_facts : (c : Clause) → counted c ≡ true → Counted c
counted_facts c e = record {
  few_variables = leb→le c.variables most_variables (and_l (leb c.variables most_variables) (more) all);
  few_atoms = leb→le c.atomcount most_atoms (and_l (leb c.atomcount most_atoms) (leb c.literalcount most_literals) rest);
  few_literals = leb→le c.literalcount most_literals (and_r (leb c.atomcount most_atoms) (leb c.literalcount most_literals) rest);
}
  where
    more : Bool
    more = leb c.atomcount most_atoms && leb c.literalcount most_literals

    all : T (counted c)
    all = subst T (sym e) tt

    rest : T more
    rest = and_r (leb c.variables most_variables) more all
