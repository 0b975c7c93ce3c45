-- What is reached: what admission makes, every other start, and what every step leads to.
use mathlib.Core.Path.{◌∙◌, ◌≡◌, ap, refl, subst, sym}
use mathlib.Core.List.Memᴰ
use mathlib.Core.List.{List, Memᴰ, [], ◌++◌, ◌∷◌}
use native.Mathlib.Omega.{arith}
use lib.ListN.{length}
use Rattle.calculus.specs.Admission.{Admitted}
use Rattle.calculus.specs.Clauses.{Clause}
use Rattle.calculus.specs.Rules.{Reply}
use Rattle.calculus.specs.Runs.{AdmittedStarts, Judge, Reached, Run, StartReached, StepsKeepReached, restarted}
use Rattle.calculus.specs.States.{State, Step}

pub none_learned : (s : State) → Admitted s → s.learned ≡ []
none_learned s a = ap (λ (q : State). q.learned) a.new

pub admitted_starts : AdmittedStarts
admitted_starts s a = record {
  admitted = subst Admitted a.new a;
  few_learned = omega (arith, ap (λ (l : List Clause). length l) (none_learned s a));
  in_class = λ C m. absurd (Memᴰ.not-nil (subst (Memᴰ C) (none_learned s a) m));
  limited = λ C m. absurd (Memᴰ.not-nil (subst (Memᴰ C) (none_learned s a) m));
  empty = a.new ∙ ap restarted (sym a.new);
}

pub start_reached : StartReached
start_reached J s S = record { first = s; steps = []; start = S; run = Run.over refl }

pub admitted_reached : (J : Judge) (s : State) → Admitted s → Reached J (J.start s)
admitted_reached J s a = start_reached J s (admitted_starts s a)

-- One step more
pub run_more : (J : Judge) {o o₁ : J.Over} {xs : List Step} (x : Step) (a : Reply J.Over) → Run J o xs o₁ → J.Gives o₁ x a → Run J o (xs ++ (x ∷ [])) a.state
run_more J {o} x a (Run.over e) g = subst (λ q. Run J q (x ∷ []) a.state) (sym e) (Run.then a g (Run.over refl))
run_more J x a (Run.then b h r) g = Run.then b h (run_more J x a r g)

pub steps_keep_reached : StepsKeepReached
steps_keep_reached J o x a h g = record { first = h.first; steps = h.steps ++ (x ∷ []); start = h.start; run = run_more J x a h.run g }
