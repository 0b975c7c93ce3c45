-- Of the entries passed: how many decisions, the two levels, and how many of them are kept.
use mathlib.Core.Path.{◌∙◌, ◌≡◌, ap, ap₂, refl, sym}
use mathlib.Core.Bool.{Bool, cond, false, true}
use mathlib.Core.List.{[], ◌∷◌}
use Prim.Native.Nat.{◌+◌, ◌≤◌, suc, ℕ}
use native.Mathlib.Numerals.{add-one}
use native.Mathlib.Omega.{arith}
use mir.Val.{bool_byte}
use lib.Dec.{leb}
use lib.ListN.{get_or, length}
use borrow.Author.Tests.{le-leb, lt-leb}
use Rattle.calculus.specs.Trails.{cut, decisions, largest_level, level_of}
use Rattle.instances.proofs.Others.{listed_says}
use Rattle.trail.specs.Entries.{entry_of, past_end, trail_of}
use Rattle.trail.proofs.Walks.{decisions_most, kept_more, largest_turn, level_most}
use Rattle.trail.proofs.levels.Goals as goal
use Rattle.trail.proofs.levels.Goals.{then-is_about, else-is_about, then-is_about_any, else-is_about_any, then-decisions-others, else-decisions-others}

pub loop-k-init : goal.loop-k-init
loop-k-init c = record { few = c.requires; counted = refl; own = refl; others = omega (arith, level_most [] c.as_slice-literals.result.now); kept = refl }

counted : (b : Bool) (n : ℕ) → n + bool_byte b ≡ cond b (suc n) n
counted true n = omega arith
counted false n = omega arith

chosen : {r h o x y : ℕ} {a b : Bool} → r ≡ cond a h o → a ≡ b → h ≡ x → o ≡ y → r ≡ cond b x y
chosen p q s u = p ∙ (λ i. cond (q i) (s i) (u i))

byte_most : (b : Bool) → bool_byte b ≤ 1
byte_most true = omega arith
byte_most false = omega arith

pub overflow_add-decisions : goal.overflow_add-decisions
overflow_add-decisions c = let h : c.loop-k.decisions + c.from-decisions.result ≤ 160 = omega (arith, byte_most c.is_decision.result, decisions_most c.args.trail.now c.loop-k.k) in omega arith

pub loop-k-preserved : goal.loop-k-preserved
loop-k-preserved c =
    let loop = c.loop-k in
    let es = c.args.trail.now in
    let ls = c.as_slice-literals.result.now in
    let e = entry_of (get_or es loop.k past_end) in
    let d = loop.decisions + c.from-decisions.result in
    let here : d ≡ decisions (e ∷ trail_of es loop.k) =
    ap (λ n. loop.decisions + n) c.from-decisions.ensures ∙ chosen (counted c.is_decision.result loop.decisions) c.is_decision.ensures (ap suc loop.invariant.counted) loop.invariant.counted in
    let more : d ≡ decisions (trail_of es (loop.k + 1)) = rw add-one here in
    let own : c.if-is_about.own ≡ cond c.is_about.result d loop.own = elim c.if-is_about.branch [
      | then-is_about w ↦ w.own-is ∙ rw w.if-is_about.true
      | else-is_about w ↦ w.own-is ∙ rw w.if-is_about.false
    ] in
    let others : c.if-is_about_any.others ≡ cond c.is_about_any.result d loop.others = elim c.if-is_about_any.branch [
      | then-is_about_any w ↦ w.others-is ∙ rw w.if-is_about_any.true
      | else-is_about_any w ↦ w.others-is ∙ rw w.if-is_about_any.false
    ] in
    let kept : c.if-decisions-others.kept ≡ cond (leb d c.if-is_about_any.others) (loop.k + 1) loop.kept = elim c.if-decisions-others.branch [
      | then-decisions-others w ↦ w.kept-is ∙ rw (le-leb d _ w.if-decisions-others.true)
      | else-decisions-others w ↦ w.kept-is ∙ rw (lt-leb d _ w.if-decisions-others.false)
    ] in
    let largest : c.if-is_about_any.others ≡ largest_level (trail_of es (loop.k + 1)) ls =
    rw add-one (chosen others c.is_about_any.ensures here loop.invariant.others ∙ sym (largest_turn e (trail_of es loop.k) ls)) in
    record {
      few = c.requires;
      counted = more;
      own = rw add-one (chosen own c.is_about.ensures here loop.invariant.own);
      others = largest;
      kept = kept_more es ls loop.k _ _ loop.kept _ more largest loop.invariant.kept kept;
    }

pub returns : goal.returns
returns c =
    let loop = c.loop-k in
    let e : loop.k ≡ length c.args.trail.now = omega arith in
    let all = c.as_slice-literals.ensures ∙ listed_says c.other_instances-d.ensures in
    let t = ap (trail_of c.args.trail.now) e in
    let largest = ap₂ largest_level t all in
    λ i. record {
      own = (loop.invariant.own ∙ ap₂ level_of c.conflict_instance-g.ensures t) i;
      others = (loop.invariant.others ∙ largest) i;
      kept = (loop.invariant.kept ∙ ap length (ap₂ cut largest t)) i;
    }
