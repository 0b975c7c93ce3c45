-- How an answer is told: refused, with the run handed back, or accepted, with the next one and what the step hands on. It is unique.
use Rattle.basis.proofs.Numbered.{in_table, numbered, numbered_again}
use Rattle.basis.specs.declared.Refused.{Refused}
use Rattle.rules.specs.declared.Stepped.{Stepped}
use Rattle.std.specs.Prelude as std
use mathlib.Core.Path.{◌∙◌, ◌≡◌, ap, ap₂, refl, sym}
use mathlib.Core.Logic.{◌↔◌}
use mathlib.Core.Option.{none}
use mathlib.Core.Bool.{Bool, false, not, true}
use Prim.Native.Nat.{ℕ}
use lib.Dec.{T, eqb}
use borrow.Author.Tests.{ne_eqb}
use Rattle.basis.specs.Atoms.{Possible}
use Rattle.basis.specs.Numbers.{whole}
use Rattle.basis.specs.Refusals.{accepted, not_false}
use Rattle.lists.proofs.Tests.{F→eq}
use Rattle.rules.specs.Answers.{AnswerUnique, RunOf, Told}
use Rattle.rules.specs.Records.{RunAnswer, Shown, packed_answer, packed_run, refused_at, refused_by, learned_under, outcome}
use Rattle.rules.specs.declared.Run.{Run}
use Rattle.calculus.proofs.Answers.{judged_by}
use Rattle.calculus.proofs.Asks.{AllOk, pass}
use Rattle.calculus.specs.Checks.{first_refusal}
use Rattle.calculus.proofs.Computed.{answer, asks, not_false_place}
use Rattle.calculus.specs.Conditions.{Judged}
use Rattle.calculus.specs.Rules.{Answer, learns_at, next, question}
use Rattle.calculus.specs.States.{State, Step}
use Rattle.constraint.specs.Witnesses.{packed_given}
use Rattle.reaching.proofs.Handing.{HandsBy, answered_once, decided}

module _ {r : Run} {s : State} (R : RunOf r s) (x : Step) where
  -- Refused by n, the test's answer being b
  pub refused_by_lem : (b : Bool) → T b ↔ Possible whole s.constants (question s x) → (n : ℕ) → T (not (eqb n accepted)) → T (not (eqb n not_false)) → first_refusal (asks b s x) ≡ n
      → Told s x (refused_by r n)
  refused_by_lem b d n h k e =
      let refuses = F→eq (eqb n accepted) h in
      (answer b s x, none, judged_by whole b s x d, rw (e, refuses) refl, rw (e, refuses, F→eq (eqb n not_false) k) (ap (λ (q : Run). refused_by q n) R.is))

  -- .. whatever its answer is
  pub refused_as : {b : Answer} → Judged whole s x b → ¬ (b.number ≡ accepted) → ¬ (b.number ≡ not_false) → {n : ℕ} → n ≡ b.number → Told s x (refused_by r n)
  refused_as {b} j h k e =
      let refuses = ne_eqb b.number accepted h in
      (b, none, j, rw refuses refl, rw refuses (λ i. record { run = (R.is ∙ ap packed_run (sym (j.handed_back h))) i; number = e i; place = sym (j.no_place k) i; learned = std.None; witness = packed_given none }))

  -- Refused before the test, whose answer would change nothing
  pub refused : (n : ℕ) → T (not (eqb n accepted)) → T (not (eqb n not_false)) → ((b : Bool) → first_refusal (asks b s x) ≡ n) → Told s x (refused_by r n)
  refused n h k e = let d = decided s x in refused_by_lem d.0 d.1 n h k (e d.0)

  -- Refused by 12, with the place
  pub refused_at_lem : (p : ℕ) → p ≡ not_false_place s x → ((b : Bool) → first_refusal (asks b s x) ≡ not_false) → Told s x (refused_at r p)
  refused_at_lem p q e = let d = decided s x in (answer d.0 s x, none, judged_by whole d.0 s x d.1, rw (e d.0) refl, rw (e d.0) (λ i. refused_at (R.is i) (q i)))

  -- Accepted, with the next run and what is handed on
  pub accepted_as : (b : Bool) → T b ↔ Possible whole s.constants (question s x) → AllOk (asks b s x) → {w : Shown} → HandsBy s x w → (q : Run) → q ≡ packed_run (next s x)
      → Told s x (record { run = q; number = accepted; place = 0; learned = learned_under (learns_at s x); witness = w })
  accepted_as b d checks (h, handed, w-is) q e =
      let passes = pass (asks b s x) checks in
      (answer b s x, h, judged_by whole b s x d, rw passes handed, rw passes (λ i. record { run = e i; number = accepted; place = 0; learned = learned_under (learns_at s x); witness = w-is i }))

-- Two answers to a step at a state are one.
pub told_once : (s : State) (x : Step) {a b : RunAnswer} → Told s x a → Told s x b → a ≡ b
told_once s x (c, m, i, M, e) (d, n, j, N, h) = let (same, handed) = answered_once s x i M j N in e ∙ ap₂ (packed_answer s x) same handed ∙ sym h

-- ---- of the code's answers too

-- An answer of the code, from what it says: of one that is accepted, and of one that is refused
unsaid : RunAnswer → std.Result Stepped (Refused ℕ)
unsaid q = by (eqb q.number accepted)
  where
    by : Bool → std.Result Stepped (Refused ℕ)
    by true = std.Ok (record { run = q.run; learned = q.learned; witness = q.witness })
    by false = std.Err (record { refusal = numbered q.number; place = q.place })

said_again : (r : Run) (a : std.Result Stepped (Refused ℕ)) → unsaid (outcome r a) ≡ a
unfolding unsaid
said_again r (std.Ok a) = refl
said_again r (std.Err e) = rw (in_table e.refusal, numbered_again e.refusal)

pub outcome_once : (r : Run) (a b : std.Result Stepped (Refused ℕ)) → outcome r a ≡ outcome r b → a ≡ b
outcome_once r a b e = sym (said_again r a) ∙ ap unsaid e ∙ said_again r b

pub answered_unique : AnswerUnique
answered_unique r k x a b (s, R, l) f g = outcome_once r a b (told_once s x (f s R l) (g s R l))
