-- Outside, the literals passed are false or need not be; inside, no entry passed is the literal's complement.
use mathlib.Core.Path.{◌∙◌, ◌≡◌, ap, refl, sym}
use mathlib.Core.Bool.{false, true}
use native.Mathlib.Omega.{arith}
use lib.ListN.{length}
use lib.Seq.{take-length}
use Rattle.lists.proofs.Walks.{any_of_found, any_of_not}
use Rattle.lists.specs.Lists.{any_of}
use Rattle.calculus.specs.Trails.{is_literal, on_trail}
use Rattle.trail.specs.Answers.{is_own, passes}
use Rattle.trail.specs.Entries.{entries_of, entry_of, past_end}
use Rattle.trail.proofs.NotFalse.{fails_here, false_passes, neither_passes, none_left, one_passes, own_passes}
use Rattle.trail.proofs.Walks.{any_of_entries}
use borrow.Author.Rules.{rules}
use Rattle.trail.proofs.first_failing.Goals as goal

pub literals-init : goal.literals-init
literals-init c = record { none = refl; passed = λ k h. absurd (omega arith) }

pub literals-preserved-then-eq : goal.literals-preserved-then-eq
literals-preserved-then-eq c =
    let args = c.args in
    let t = entries_of args.trail.now in
    let own : is_own args.own c.ground-g.result ≡ true = search rules in
    record {
      none = c.literals.invariant.none;
      passed = one_passes (passes args.own t args.instance.now) args.literals.now c.literals.j c.literals.invariant.passed
          (own_passes args.own t args.instance.now _ c.ground-g.ensures own);
    }

pub loop-e-init : goal.loop-e-init
loop-e-init c = refl

pub literals-preserved : goal.literals-preserved
literals-preserved c =
    let args = c.args in
    let es = args.trail.now in
    let t = entries_of es in
    let here : is_literal c.complement-denied.result (entry_of _) ≡ true = sym c.is_literal.ensures ∙ c.if-is_literal.true in
    let found : on_trail c.complement-denied.result t ≡ true =
    any_of_entries (is_literal c.complement-denied.result) es
    ∙ ap (any_of (λ e. is_literal c.complement-denied.result (entry_of e))) (sym (take-length es))
    ∙ any_of_found (λ e. is_literal c.complement-denied.result (entry_of e)) es c.loop-e.e-index (length es) past_end c.loop-e-test.true c.loop-e-test.true here in
    record {
      none = c.literals.invariant.none;
      passed = one_passes (passes args.own t args.instance.now) args.literals.now c.literals.j c.literals.invariant.passed
          (false_passes args.own t args.instance.now _ c.ground-g.ensures (rw c.complement-denied.ensures at found));
    }

pub loop-e-preserved : goal.loop-e-preserved
loop-e-preserved c =
    any_of_not (λ e. is_literal c.complement-denied.result (entry_of e)) c.args.trail.now c.loop-e.e-index past_end
    c.loop-e-test.true c.loop-e.invariant (sym c.is_literal.ensures ∙ c.if-is_literal.false)

pub returns-after-literals : goal.returns-after-literals
returns-after-literals c =
    let args = c.args in
    c.literals.invariant.none
    ∙ none_left (passes args.own (entries_of args.trail.now) args.instance.now) args.literals.now c.literals.j c.literals.invariant.passed
    (omega (arith, c.literals-test.false, c.literals.auto.j-end))

pub returns-after-loop-e : goal.returns-after-loop-e
returns-after-loop-e c =
    let args = c.args in
    let es = args.trail.now in
    let t = entries_of es in
    let end : c.loop-e.e-index ≡ length es = omega (arith, c.loop-e-test.false, c.loop-e.auto.e-index-end) in
    let absent : on_trail c.complement-denied.result t ≡ false =
    any_of_entries (is_literal c.complement-denied.result) es
    ∙ ap (any_of (λ e. is_literal c.complement-denied.result (entry_of e))) (sym (take-length es)) ∙ (rw end at c.loop-e.invariant) in
    let other : is_own args.own c.ground-g.result ≡ false = search rules in
    fails_here (passes args.own t args.instance.now) args.literals.now c.literals.j c.literals.invariant.passed c.literals-test.true
    (neither_passes args.own t args.instance.now _ c.ground-g.ensures other (rw c.complement-denied.ensures at absent))
