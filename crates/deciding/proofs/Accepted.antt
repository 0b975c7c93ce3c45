-- What a decision that is accepted comes to: it is the calculus's, all of its atoms are looked at, and they are the calculus's.
use mathlib.Core.Path.{◌∙◌, ◌≡◌, ap, refl, subst, sym, transport}
use mathlib.Core.List.{List, Memᴰ, ◌++◌, ◌∷◌}
use mathlib.Core.Bool.{Bool, ◌&&◌, true}
use Prim.Native.Nat.{◌+◌, ◌-◌, ◌<◌, ◌≤◌, ℕ}
use native.Mathlib.Omega.{arith}
use lib.Dec.{T, leb, leb→le}
use lib.ListN.{get_or, length}
use Rattle.basis.specs.Atoms.{no_atom}
use Rattle.basis.specs.Limits.{most_brought, most_entries, most_variables}
use Rattle.basis.specs.Numbers.{whole}
use Rattle.basis.specs.declared.Atom.{Atom}
use Rattle.lists.proofs.Arrays.{exactly_length, exactly_take, get_d_exactly}
use Rattle.lists.proofs.Members.{all_of_out}
use Rattle.lists.proofs.Tests.{T→eq, and_l, and_r}
use Rattle.lists.specs.Lists.{all_of}
use Rattle.calculus.proofs.Answers.{Accepted, acceptance}
use Rattle.calculus.specs.Clauses as calculus
use Rattle.calculus.specs.Rules.{brought_at, decided_literal, is_one, next, question, source_atoms}
use Rattle.calculus.specs.States as states
use Rattle.calculus.specs.States.{State, clause_at, clauses}
use Rattle.calculus.specs.Tests.{clause_exists, counts_few, instance_fits, literal_exists, source_fits}
use Rattle.calculus.specs.Trails.{Source, atoms_of, decided, foreground}
use Rattle.trail.specs.Entries.{Recorded}
use Rattle.reaching.proofs.Handing.{HandsBy, hands_shown}
use Rattle.reaching.proofs.Reached.{FineState, brought_proper}
use Rattle.testing.specs.Asked.{WitnessOf}
use Rattle.asking.proofs.Brought.{atoms_asked, atoms_named_lem, both_true, brought_are, held_named, looked_all, right_asked}
use Rattle.std.specs.Prelude.{Option, None, Some, ℤ}
use Rattle.std.specs.Option.{is_some}
use Rattle.asking.specs.Trying.{given_number}
use Rattle.asking.specs.Looking.{count_brought, named_at}
use Rattle.asking.specs.Steps.{decide_of, instance_of, sources_in}
use Rattle.asking.specs.declared.Step.{Step}
use Rattle.deciding.specs.Weighing.{Weighs, atoms_named}
use Rattle.deciding.specs.declared.Weighed.{Weighed}
use Rattle.deciding.proofs.Weighing.{brought_long}

module _ {s : State} (F : FineState s) {x : Step} {w : Weighed} (W : Weighs s x w) (none : given_number w.refusal ≡ 0) where
  abbrev y : states.Step
  y = decide_of x

  -- What the step brings, all of it
  abbrev all : List Source
  all = brought_at s (sources_in x.brought x)

  abbrev C : calculus.Clause
  C = clause_at (clauses s) x.clause

  pub met : Accepted whole s y W.answer.state
  met = acceptance whole s y W.answer W.judged (sym W.number ∙ none)

  short : T (leb (length (instance_of x)) most_variables)
  short = and_l (leb (length (instance_of x)) most_variables) (counts_few all) met.checks.0

  counts : T (counts_few all)
  counts = and_r (leb (length (instance_of x)) most_variables) (counts_few all) met.checks.0

  few : counts_few (sources_in (count_brought s.version x) x) ≡ true
  few = sym (ap counts_few (brought_are s x)) ∙ T→eq (counts_few all) counts

  named : T (clause_exists (clauses s) x.clause && (literal_exists C x.literal && instance_fits s.constants C (instance_of x)))
  named = and_l (clause_exists (clauses s) x.clause && (literal_exists C x.literal && instance_fits s.constants C (instance_of x))) (all_of (source_fits (clauses s) s.constants) all) met.checks.1.1.1.0

  fits : T (all_of (source_fits (clauses s) s.constants) all)
  fits = and_r (clause_exists (clauses s) x.clause && (literal_exists C x.literal && instance_fits s.constants C (instance_of x))) (all_of (source_fits (clauses s) s.constants) all) met.checks.1.1.1.0

  pub all_counted : w.count ≡ length all
  all_counted = W.count ∙ ap length (looked_all s x few)

  pub few_atoms : w.count ≤ most_brought
  few_atoms = omega (arith, all_counted, leb→le (length all) most_brought (and_l (leb (length all) most_brought) (all_of (λ z. leb (length z.instance) most_variables) all) counts))

  pub short_sources : (z : Source) → Memᴰ z all → length z.instance ≤ most_variables
  short_sources z m =
      let test : Source → Bool = λ z. leb (length z.instance) most_variables in
      leb→le (length z.instance) most_variables (all_of_out test all (and_r (leb (length all) most_brought) (all_of test all) counts) m)

  pub fits_all : length s.trail + w.count < most_entries
  fits_all =
      omega (
        arith,
        all_counted,
        brought_long (clauses s) all (foreground (decided_literal C (x.literal - 1) (is_one x.sign) (instance_of x)) (decided x.clause x.literal (is_one x.sign) (instance_of x) (length all)) ∷ s.trail),
        leb→le (length (next s y).trail) most_entries met.checks.1.1.1.1.1.1.0,
      )

  -- The entry of the decision, where the instance has room in its array
  pub own_is : length x.instance ≡ most_variables → Recorded w.own (foreground (decided_literal C (x.literal - 1) (is_one x.sign) (instance_of x)) (decided x.clause x.literal (is_one x.sign) (instance_of x) (length all)))
  own_is long =
      let there = (both_true (clause_exists (clauses s) x.clause) (literal_exists C x.literal && instance_fits s.constants C (instance_of x)) (T→eq _ named)).0 in
      let τ = exactly_take 0 x.count x.instance (omega (arith, leb→le (length (instance_of x)) most_variables short, exactly_length 0 x.count x.instance)) in
      transport
      (λ i. Recorded w.own (foreground (decided_literal (held_named (clauses s) x.clause there i) (x.literal - 1) (is_one x.sign) (sym τ i)) (decided x.clause x.literal (is_one x.sign) (sym τ i) (length (looked_all s x few i)))))
      W.own

  asked : WitnessOf s.constants (question s y) w.witness
  asked =
      subst (λ (az : List Atom). WitnessOf s.constants (atoms_of s.trail ++ az) w.witness)
      (ap (atoms_named s) (looked_all s x few) ∙ atoms_named_lem s all (T→eq (all_of (source_fits (clauses s) s.constants) all) fits))
      W.witness

  given : T (is_some w.witness)
  given = asked.says.1 (record { few_constants = F.few_constants; proper = brought_proper F all fits }, met.decides.0 met.checks.1.1.1.1.1.0)

  pub hands : HandsBy s y w.witness
  hands = by w.witness refl given
    where
      by : (v : Option (List ℤ)) → w.witness ≡ v → T (is_some w.witness) → HandsBy s y w.witness
      by None e t = absurd (subst (λ (v : Option (List ℤ)). T (is_some v)) e t)
      by (Some numbers) e t = subst (HandsBy s y) (sym e) (hands_shown s y refl numbers (asked.shown numbers e))

  pub atoms_at : (j : ℕ) → j < w.count → get_or (named_at s y).at j no_atom ≡ get_or (source_atoms (clauses s) all) j no_atom
  atoms_at j h =
      ap (λ (l : List Atom). get_or l j no_atom) (atoms_asked s x few (right_asked s x few ∙ T→eq (all_of (source_fits (clauses s) s.constants) all) fits))
      ∙ get_d_exactly no_atom most_brought (source_atoms (clauses s) all) j (omega (arith, few_atoms))
