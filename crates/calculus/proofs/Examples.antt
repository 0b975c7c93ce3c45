-- The twelve examples, each computed: numbers that show what is possible, circles of bounds that show what is not, answers to steps.
use mathlib.Core.Path.{◌≡◌, refl, subst, sym}
use mathlib.Core.Logic.{◌⊎◌, inl, inr}
use mathlib.Core.List.Memᴰ
use mathlib.Core.List.{List, Memᴰ, [], ◌∷◌}
use mathlib.Core.Bool.{Bool, ◌&&◌, false, true}
use Prim.Native.Nat.{ℕ}
use lib.Dec.{T, eqb, eqb→eq}
use lib.IntN.{negsuc, pos, ℤ}
use lib.ListN.{length, replicate}
use Rattle.basis.specs.Numbers.{whole}
use Rattle.basis.specs.Refusals.{accepted}
use Rattle.basis.specs.declared.Atom.{Atom}
use Rattle.basis.specs.declared.Version.TheVariants.{One}
use Rattle.lists.proofs.Tests.{and_l, and_r}
use Rattle.calculus.specs.Admission.{admission_refusal}
use Rattle.calculus.specs.Examples.{Admits, BringingExamples, Example, Goes, LastReason, No, Runs, Shown, Tried, TwelveExamples, Yes, over, then}
use Rattle.calculus.specs.Merging.{close_up, factored, merge, reason, resolvent}
use Rattle.calculus.proofs.Computed.{answer}
use Rattle.calculus.specs.Conditions.{Judged}
use Rattle.calculus.specs.Rules.{Answer, last_reason, question}
use Rattle.calculus.specs.States.{State, Step, clauses}
use Rattle.calculus.proofs.Admitting.{admitted_exactly}
use Rattle.calculus.proofs.Answers.{judged_by}
use Rattle.calculus.proofs.Certificates.{closes, impossible_by, judged_yes, keeps, possible_by}

-- What shows whether a step's question is possible: numbers, or a circle of bounds
data Certificate : Type 0 where
  numbers : List ℤ → Certificate
  circle : ℕ → List Atom → Certificate

abbrev shows : Certificate → State → Step → Bool
shows (numbers ws) s x = keeps s.constants (question s x) ws
shows (circle p es) s x = closes s.constants (question s x) p es

abbrev answered : Certificate → State → Step → Answer
answered (numbers ws) s x = answer true s x
answered (circle p es) s x = answer false s x

answered_right : (c : Certificate) (s : State) (x : Step) → T (shows c s x) → Judged whole s x (answered c s x)
answered_right (numbers ws) s x t = judged_yes s x ws t
answered_right (circle p es) s x t = judged_by whole false s x (λ u. absurd u, λ P. impossible_by s.constants (question s x) p es t P)

-- The steps are answered so, with a certificate for each.
abbrev goes_by : List Certificate → State → List Tried → Bool
goes_by cs s [] = true
goes_by [] s (x ∷ xs) = false
goes_by (c ∷ cs) s (x ∷ xs) =
    let a = answered c s x.step in
    shows c s x.step && (eqb a.number x.number && (eqb (length a.state.trail) x.entries && (eqb a.state.level x.level && goes_by cs a.state xs)))

abbrev final : List Certificate → State → List Tried → State
final cs s [] = s
final [] s (x ∷ xs) = s
final (c ∷ cs) s (x ∷ xs) = final cs (answered c s x.step).state xs

goes : (cs : List Certificate) (s : State) (xs : List Tried) → T (goes_by cs s xs) → Goes s xs (final cs s xs)
goes cs s [] t = over refl
goes [] s (x ∷ xs) t = absurd t
goes (c ∷ cs) s (x ∷ xs) t =
    let a = answered c s x.step in
    let k = and_r (shows c s x.step) _ t in
    let n = and_r (eqb a.number x.number) _ k in
    let e = and_r (eqb (length a.state.trail) x.entries) _ n in
    then a (answered_right c s x.step (and_l (shows c s x.step) _ t)) (eqb→eq a.number x.number (and_l (eqb a.number x.number) _ k))
    (eqb→eq (length a.state.trail) x.entries (and_l (eqb (length a.state.trail) x.entries) _ n)) (eqb→eq a.state.level x.level (and_l (eqb a.state.level x.level) _ e))
    (goes cs a.state xs (and_r (eqb a.state.level x.level) _ e))

-- What is computed of each
abbrev Computed : Example → Type 0
Computed (Yes n az) = (ws : List ℤ) × T (keeps n az ws)
Computed (No n az) = (p : ℕ) × (es : List Atom) × T (closes n az p es)
Computed (Admits n arities cs) = (admission_refusal n arities cs).number ≡ accepted
Computed (Runs s xs s') = (cs : List Certificate) × T (goes_by cs s xs) × (final cs s xs ≡ s')
Computed (LastReason s R) = (last_reason (clauses s) s.trail).of ≡ R

infixr 20 ◌also◌
data AllComputed : List Example → Type 0 where
  all : AllComputed []
  ◌also◌ : {y : Example} {xs : List Example} → Computed y → AllComputed xs → AllComputed (y ∷ xs)

shown : (x : Example) → Computed x → Shown x
shown (Yes n az) (ws, t) = possible_by n az ws t
shown (No n az) (p, es, t) = impossible_by n az p es t
shown (Admits n arities cs) e = (admitted_exactly One n arities cs).0 e
shown (Runs s xs s') (cs, t, e) = subst (Goes s xs) e (goes cs s xs t)
shown (LastReason s R) e = e

all_shown : {xs : List Example} → AllComputed xs → (x : Example) → Memᴰ x xs → Shown x
all_shown all x m = absurd (Memᴰ.not-nil m)
all_shown (◌also◌ {y} {xs} k ks) x m = go (λ h. all_shown ks x h) (Memᴰ.cases_cons m)
  where
    go : (Memᴰ x xs → Shown x) → (x ≡ y) ⊎ Memᴰ x xs → Shown x
    go ih (inl e) = subst Shown (sym e) (shown y k)
    go ih (inr h) = ih h

abbrev atom : ℕ → ℕ → ℤ → Atom
atom p q c = record { p = p; q = q; c = c }

-- The one constant as 5 serves every step of the paper's runs.
abbrev fives : ℕ → List Certificate
fives n = replicate n (numbers (pos 5 ∷ []))

pub twelve_examples : TwelveExamples
unfolding resolvent merge close_up reason factored
twelve_examples =
    all_shown (
    -- E1 to E6
    ([], tt)
    also (1, (atom 1 2 (negsuc 0) ∷ atom 2 3 (negsuc 0) ∷ atom 3 0 (pos 2) ∷ atom 0 1 (negsuc 0) ∷ []), tt)
    also (pos 1 ∷ pos 2 ∷ [], tt)
    also (1, (atom 1 2 (negsuc 0) ∷ atom 2 0 (pos 5) ∷ atom 0 1 (negsuc 4) ∷ []), tt)
    also (1, (atom 1 1 (negsuc 0) ∷ []), tt)
    also (pos 0 ∷ [], tt)
    also (1, (atom 1 2 (negsuc 3) ∷ atom 2 0 (pos 3) ∷ atom 0 1 (pos 0) ∷ []), tt)
    also (pos 0 ∷ pos 4 ∷ [], tt)
    -- E7
    also refl
    also (fives 4, tt, refl)
    -- E8
    also refl
    also (fives 2, tt, refl)
    also refl
    -- E9
    also refl
    also (fives 3, tt, refl)
    -- E10 to E12
    also refl
    also (fives 5, tt, refl)
    also (fives 4, tt, refl)
    also (fives 1, tt, refl)
    also all)

-- a ≤ 5 and a ≥ 6
abbrev both : Certificate
both = circle 1 (atom 1 0 (pos 5) ∷ atom 0 1 (negsuc 5) ∷ [])

pub bringing_examples : BringingExamples
bringing_examples = all_shown (
    refl
    also (fives 1, tt, refl)
    also (numbers (pos 5 ∷ []) ∷ both ∷ both ∷ [], tt, refl)
    also (numbers (pos 5 ∷ []) ∷ both ∷ [], tt, refl)
    also (fives 1, tt, refl)
    also (numbers (pos 6 ∷ []) ∷ circle 1 (atom 1 0 (pos 4) ∷ atom 0 1 (negsuc 5) ∷ []) ∷ [], tt, refl)
    also (numbers (pos 4 ∷ []) ∷ [], tt, refl)
    also (numbers (pos 5 ∷ []) ∷ numbers (pos 6 ∷ []) ∷ numbers (pos 5 ∷ []) ∷ [], tt, refl)
    also (fives 1, tt, refl)
    also all)
