-- The records that merging gives back, from the calculus's reason, resolvent and factored conflict.
use Rattle.std.specs.Prelude.{◌≡◌, List, true, ◌&&◌, cond, ℕ, take, Option, Some, None}
use Rattle.calculus.specs.Merging.{reason, resolvent, factored}
use Rattle.clauses.specs.declared.Clause.{Clause}
use Rattle.clauses.specs.declared.Instanced.{Instanced}
use Rattle.clauses.specs.Records.{clause_of, instanced_of, packed_instanced, counted, Counted}
use Rattle.joining.specs.Fitted.{fitted}
use Rattle.merging.specs.declared.Reason.{Reason}
use Rattle.calculus.specs.Clauses as calculus
use Rattle.calculus.specs.Merging as merging

-- The conflict n resolved at its literal j with the reason r at its literal i, both from 0; none where it is too large, or was to be made
-- from records whose counts are above the limits
unfoldable pub resolved : Instanced → ℕ → Instanced → ℕ → Option Instanced
resolved n j r i = cond (counted n.clause && counted r.clause) (fitted (resolvent (instanced_of n) j (instanced_of r) i)) None

-- The conflict n with its literals i and j, from 0, made one
unfoldable pub factorized : Instanced → ℕ → ℕ → Option Instanced
factorized n i j = cond (counted n.clause) (fitted (factored (instanced_of n) i j)) None

-- A reason, and none where the clause's counts are above the limits
abbrev pub packed_reason : merging.Reason → Reason
packed_reason R = record { of = packed_instanced R.of; own = R.own }

abbrev pub no_reason : Reason
no_reason = record { of = packed_instanced calculus.no_instanced; own = 0 }

-- The reason that clause c with its literal i, from 0, and the instance τ gives. It is never larger than the clause.
unfoldable pub reason_of : Clause → ℕ → List ℕ → Reason
reason_of c i τ = cond (counted c) (packed_reason (reason (clause_of c) i (take c.variables τ))) no_reason

-- ---- what is given back says the calculus's clauses, of which its theorems speak: proved in proofs/Says.antt

abbrev pub ResolvedSays : Type 0
ResolvedSays = (n r m : Instanced) (j i : ℕ) → resolved n j r i ≡ Some m → instanced_of m ≡ resolvent (instanced_of n) j (instanced_of r) i

abbrev pub FactorizedSays : Type 0
FactorizedSays = (n m : Instanced) (i j : ℕ) → factorized n i j ≡ Some m → instanced_of m ≡ factored (instanced_of n) i j

abbrev pub ReasonSays : Type 0
ReasonSays = (c : Clause) (i : ℕ) (τ : List ℕ) → counted c ≡ true → instanced_of (reason_of c i τ).of ≡ (reason (clause_of c) i (take c.variables τ)).of

-- Every clause given back can be merged again.
abbrev pub CanBeMerged : Type 0
CanBeMerged =
    ((n r m : Instanced) (j i : ℕ) → resolved n j r i ≡ Some m → Counted m.clause)
    × ((n m : Instanced) (i j : ℕ) → factorized n i j ≡ Some m → Counted m.clause)
    × ((c : Clause) (i : ℕ) (τ : List ℕ) → Counted (reason_of c i τ).of.clause)
