-- What merging gives back says the calculus's clauses, and can be merged again.
use mathlib.Core.Path.{◌≡◌, refl, sym, ◌∙◌, ap, subst}
use mathlib.Core.List.{List}
use mathlib.Core.Bool.{Bool, true, false, ◌&&◌, cond}
use Prim.Native.Nat.{ℕ}
use native.Mathlib.Omega.{arith}
use lib.Dec.{T}
use lib.ListN.{length, get_or, take, length-map}
use Rattle.basis.specs.declared.Atom.{Atom}
use Rattle.basis.specs.declared.Literal.{Literal}
use Rattle.lists.specs.Lists.{keep_if, up_from}
use Rattle.calculus.specs.Clauses as calculus
use Rattle.calculus.specs.Merging.{occurs_in, close_up, merge, own_pairs, reason_literals, reason, resolvent, factored}
use Rattle.calculus.specs.Class.{within_limits, Limited}
use Rattle.calculus.proofs.Class.{limited_of}
use Rattle.std.proofs.Common.{Some, None}
use Rattle.clauses.specs.declared.Clause.{Clause}
use Rattle.clauses.specs.declared.Instanced.{Instanced}
use Rattle.clauses.specs.Records.{clause_of, instanced_of, packed, packed_instanced, counted, Counted}
use Rattle.clauses.proofs.Records.{packed_instanced_says, counted_facts}
use Rattle.joining.specs.Fitted.{fitted}
use Rattle.merging.specs.Results.{packed_reason, no_reason, resolved, factorized, reason_of, ResolvedSays, FactorizedSays, ReasonSays, CanBeMerged}
use Rattle.merging.proofs.Own.{stay_few}
use Rattle.merging.proofs.Whole.{merge_limits, few_atoms}

-- ---- a constant for each variable

close_sized : (v : ℕ) (az : List Atom) (ls : List Literal) (τ : List ℕ) → length (close_up v az ls τ).instance ≡ (close_up v az ls τ).clause.variables
unfolding close_up
close_sized v az ls τ = length-map (keep_if (occurs_in az ls) (up_from 1 v)) (calculus.under τ)

merge_sized : (es : List (ℕ × ℕ)) (v : ℕ) (az : List Atom) (ls : List Literal) (τ : List ℕ) → length (merge es v az ls τ).instance ≡ (merge es v az ls τ).clause.variables
unfolding merge
merge_sized es v az ls τ = close_sized _ _ _ _

resolvent_sized : (N R : calculus.Instanced) (j i : ℕ) → length (resolvent N j R i).instance ≡ (resolvent N j R i).clause.variables
unfolding resolvent
resolvent_sized N R j i = merge_sized _ _ _ _ _

factored_sized : (N : calculus.Instanced) (i j : ℕ) → length (factored N i j).instance ≡ (factored N i j).clause.variables
unfolding factored
factored_sized N i j = merge_sized _ _ _ _ _

reason_sized : (C : calculus.Clause) (i : ℕ) (τ : List ℕ) → length (reason C i τ).of.instance ≡ (reason C i τ).of.clause.variables
unfolding reason
reason_sized C i τ = merge_sized _ _ _ _ _

-- ---- a clause that fits

limited : (C : calculus.Clause) → within_limits C ≡ true → Limited C
limited C e = limited_of C (subst T (sym e) tt)

packed_counted : (C : calculus.Clause) → Limited C → Counted (packed C)
packed_counted C h = record { few_variables = h.few_variables; few_atoms = h.few_atoms; few_literals = h.few_literals }

none_counted : Counted (packed calculus.no_clause)
none_counted = record { few_variables = omega arith; few_atoms = omega arith; few_literals = omega arith }

module _ (N : calculus.Instanced) where
  fitted_limited : (m : Instanced) → fitted N ≡ Some m → (m ≡ packed_instanced N) × Limited N.clause
  unfolding fitted
  fitted_limited m = go (within_limits N.clause) refl
    where
      go : (b : Bool) → within_limits N.clause ≡ b → cond b (Some (packed_instanced N)) None ≡ Some m → (m ≡ packed_instanced N) × Limited N.clause
      go true e h = (cc, limited N.clause e)
      go false e h = cc

  module _ (z : length N.instance ≡ N.clause.variables) (b : Bool) (m : Instanced) where
    merged_says : cond b (fitted N) None ≡ Some m → instanced_of m ≡ N
    merged_says = go b
      where
        go : (b : Bool) → cond b (fitted N) None ≡ Some m → instanced_of m ≡ N
        go true h = let (e, l) = fitted_limited m h in ap instanced_of e ∙ packed_instanced_says N l z
        go false h = cc

  merged_counted : (b : Bool) (m : Instanced) → cond b (fitted N) None ≡ Some m → Counted m.clause
  merged_counted true m h = let (e, l) = fitted_limited m h in subst (λ (n : Instanced). Counted n.clause) (sym e) (packed_counted N.clause l)
  merged_counted false m h = cc

-- ---- the three

pub resolved_says : ResolvedSays
unfolding resolved
resolved_says n r m j i = merged_says (resolvent (instanced_of n) j (instanced_of r) i) (resolvent_sized (instanced_of n) (instanced_of r) j i) (counted n.clause && counted r.clause) m

pub factorized_says : FactorizedSays
unfolding factorized
factorized_says n m i j = merged_says (factored (instanced_of n) i j) (factored_sized (instanced_of n) i j) (counted n.clause) m

-- The reason is within the clause's own limits.
reason_fits : (c : Clause) (i : ℕ) (τ : List ℕ) → Counted c → fitted (reason (clause_of c) i τ).of ≡ Some (packed_instanced (reason (clause_of c) i τ).of)
unfolding reason
reason_fits c i τ h =
    let l = get_or (clause_of c).literals i calculus.no_literal in
    let g = calculus.ground τ l in
    merge_limits (own_pairs τ g l (clause_of c).literals) c.variables (clause_of c).atoms (reason_literals τ g i (clause_of c).literals) τ h.few_variables (few_atoms c h)
    (omega (arith, h.few_literals, stay_few τ g i c.literals c.literalcount))

pub reason_says : ReasonSays
unfolding reason_of
reason_says c i τ e =
    let R = reason (clause_of c) i (take c.variables τ) in
    ap (λ (b : Bool). instanced_of (cond b (packed_reason R) no_reason).of) e
    ∙ packed_instanced_says R.of (fitted_limited R.of _ (reason_fits c i (take c.variables τ) (counted_facts c e))).1 (reason_sized (clause_of c) i (take c.variables τ))

reason_counted : (c : Clause) (i : ℕ) (τ : List ℕ) → Counted (reason_of c i τ).of.clause
unfolding reason_of
reason_counted c i τ = go (counted c) refl
  where
    R : calculus.Instanced
    R = (reason (clause_of c) i (take c.variables τ)).of

    go : (b : Bool) → counted c ≡ b → Counted (cond b (packed_reason (reason (clause_of c) i (take c.variables τ))) no_reason).of.clause
    go true e = packed_counted R.clause (fitted_limited R _ (reason_fits c i (take c.variables τ) (counted_facts c e))).1
    go false e = none_counted

pub can_be_merged : CanBeMerged
unfolding resolved factorized
can_be_merged =
    (λ n r m j i. merged_counted (resolvent (instanced_of n) j (instanced_of r) i) (counted n.clause && counted r.clause) m, λ n m i j. merged_counted (factored (instanced_of n) i j) (counted n.clause) m, reason_counted)
