-- Decide: refused by the number that was weighed, or accepted, with what is stored.
use mathlib.Core.Path.{◌∙◌, ◌≡◌, ap, subst, sym}
use mathlib.Core.List.{List}
use mathlib.Core.Option.{Option}
use mathlib.Core.Bool.{false}
use Prim.Native.Nat.{◌+◌, ◌<◌, ◌≤◌, min, ℕ}
use native.Mathlib.Omega.{arith}
use lib.ListN.{get_or, length, length-take, take}
use lib.Seq.{get_or-take}
use Rattle.basis.specs.Atoms.{no_atom}
use Rattle.basis.specs.Limits.{most_brought, most_entries, most_variables}
use Rattle.basis.specs.Numbers.{whole}
use Rattle.basis.specs.Refusals.{not_false}
use Rattle.lists.proofs.Arrays.{exactly_length}
use Rattle.lists.proofs.Members.{get_d_mem}
use Rattle.lists.proofs.Tests.{F→eq}
use Rattle.lists.specs.Arrays.{exactly}
use Rattle.calculus.proofs.Answers.{not_lacking}
use Rattle.calculus.specs.Clauses as calculus
use Rattle.calculus.specs.Conditions.{FirstLacking, conditions}
use Rattle.calculus.specs.Rules.{brought_at, next}
use Rattle.calculus.specs.States as states
use Rattle.calculus.specs.States.{State, clauses, conflict_of, stands}
use Rattle.calculus.specs.Trails as trails
use Rattle.clauses.specs.Records.{packed_instanced}
use Rattle.trail.proofs.Stored.{stored_length}
use Rattle.asking.proofs.Brought.{brought_at_lem, brought_length}
use Rattle.asking.specs.Trying.{given_number}
use Rattle.asking.specs.Looking.{named_at}
use Rattle.asking.specs.Steps.{decide_of, no_source, source_of, sources_in}
use Rattle.asking.specs.declared.Named.{Named}
use Rattle.asking.specs.declared.Step.{Step}
use Rattle.deciding.proofs.Accepted.{all_counted, atoms_at, few_atoms, fits_all, hands, met, own_is, short_sources}
use Rattle.deciding.specs.Weighing.{Weighs}
use Rattle.deciding.specs.declared.Weighed.{Weighed}
use Rattle.reaching.proofs.Reached.{no_conflict}
use Rattle.rules.specs.Answers.{RunOf, Told}
use Rattle.rules.specs.Records.{decided_at, refused_by, source_kept}
use Rattle.rules.specs.declared.Run.{Run}
use Rattle.rules.proofs.Growing.{brought_stored}
use Rattle.rules.proofs.Runs.{conflict_is, constants_is, fine, input_is, learned_is, level_is, packed_as, stands_is, stored, version_is}
use Rattle.rules.proofs.Told.{accepted_as, refused_as}

module _ {r : Run} {s : State} (R : RunOf r s) {x : Step} {w : Weighed} (W : Weighs s x w) where
  abbrev y : states.Step
  y = decide_of x

  pub decide_refused : ¬ (given_number w.refusal ≡ 0) → Told s y (refused_by r (given_number w.refusal))
  decide_refused h =
      refused_as R y W.judged (λ e. h (W.number ∙ e)) (λ e. not_lacking not_false (conditions whole s y) tt (subst (λ (n : ℕ). FirstLacking n (conditions whole s y)) e W.judged.first_lacking)) W.number

  module _ (o : given_number w.refusal ≡ 0) where
    -- What the step brings
    abbrev zs : List trails.Source
    zs = brought_at s (sources_in x.brought x)

    -- There is room ..
    pub decide_fits : (w.count ≤ most_brought) × (r.length + w.count < most_entries)
    decide_fits = (few_atoms (fine R) W o, omega (arith, fits_all (fine R) W o, stored_length (stored R)))

    source_at : (j : ℕ) → j < w.count → source_kept (get_or x.atoms j no_source) ≡ get_or zs j (source_of no_source)
    source_at j h =
        let z = get_or x.atoms j no_source in
        let counted = all_counted (fine R) W o in
        let at = brought_at_lem s x j (omega (arith, counted, brought_length s x)) in
        let few = short_sources (fine R) W o (get_or zs j (source_of no_source)) (get_d_mem zs j (source_of no_source) (omega (arith, counted))) in
        let short : min most_variables z.count ≡ z.count = omega (arith, few, ap (λ (q : trails.Source). length q.instance) at, exactly_length 0 z.count z.instance) in
        ap (λ (n : ℕ). record { clause = z.clause; number = z.number; sign = z.sign; instance = exactly n 0 z.instance }) short ∙ sym at

    -- .. and what is stored is what the rule names.
    pub decide_told : length x.instance ≡ most_variables → {named : Named} → named ≡ named_at s y → Told s y (decided_at r w.own (take w.count named.at) (take w.count x.atoms) w.witness)
    decide_told long {named} n-is =
        let room : length named.at ≡ most_brought = ap (λ (q : Named). length q.at) n-is ∙ exactly_length no_atom most_brought _ in
        let counted : length (take w.count named.at) ≡ w.count = omega (arith, length-take w.count named.at, decide_fits.0) in
        accepted_as R y (met (fine R) W o).possible (met (fine R) W o).decides (met (fine R) W o).checks (hands (fine R) W o)
        _ (packed_as (next s y) (version_is R) (constants_is R) (input_is R) (learned_is R) (omega (arith, level_is R)) (stands_is R ∙ free)
        (brought_stored (clauses s) zs (take w.count named.at) (take w.count x.atoms) (counted ∙ all_counted (fine R) W o) (omega (arith, counted, decide_fits.1))
        (λ j h. get_or-take w.count named.at j no_atom (omega arith) ∙ ap (λ (q : Named). get_or q.at j no_atom) n-is ∙ atoms_at (fine R) W o j (omega arith))
        (λ j h. ap source_kept (get_or-take w.count x.atoms j no_source (omega arith)) ∙ source_at j (omega arith)) (short_sources (fine R) W o) (stored R) (own_is (fine R) W o long))
        (conflict_is R ∙ ap (λ (o : Option calculus.Instanced). packed_instanced (conflict_of o)) (no_conflict s.conflict free)))
      where
        free : stands s.conflict ≡ false
        free = F→eq (stands s.conflict) (met (fine R) W o).checks.1.1.0
