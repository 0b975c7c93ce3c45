-- What a step hands on is unique, and is there where the state was reached; and the record of it.
use mathlib.Core.Path.{◌∙◌, ◌≡◌, ap, refl, subst, sym}
use mathlib.Core.Logic.{◌↔◌}
use mathlib.Core.List.Memᴰ
use mathlib.Core.List.{List, []}
use mathlib.Core.Option.{Option, none, some}
use mathlib.Core.Bool.{Bool, ◌&&◌, false, true}
use Prim.Native.Nat.{ℕ}
use lib.Dec.{T, eqb}
use lib.IntN.{ℤ}
use borrow.Author.Tests.{eqb-true}
use Rattle.basis.specs.Atoms.{Possible}
use Rattle.basis.specs.Numbers.{whole}
use Rattle.basis.specs.Refusals.{accepted}
use Rattle.basis.specs.declared.Atom.{Atom}
use Rattle.lists.specs.Lists.{all_of}
use Rattle.lists.proofs.Tests.{T→eq, and_l, and_r}
use Rattle.bounds.proofs.Numbers.{numbers_exist, numbers_once}
use Rattle.bounds.specs.Choices.{Placed}
use Rattle.calculus.proofs.Answers.{acceptance, accepted_exactly_if_allowed, answer_unique, asked_possible, possible_none}
use Rattle.calculus.proofs.Asks.{AllOk}
use Rattle.calculus.proofs.Computed.{asks}
use Rattle.calculus.specs.Conditions.{Judged}
use Rattle.calculus.specs.Handing.{Hands, HandsOn, tests}
use Rattle.calculus.specs.Rules.{Answer, back_level, brought_at, question}
use Rattle.calculus.specs.Runs.{Reached, plain}
use Rattle.calculus.specs.States.{Backtrack, Conflict, Decide, Factorize, Grow, Propagate, Resolve, Skip, State, Step, Unknown, clause_at, clauses, conflict_of, stands}
use Rattle.calculus.specs.Tests.{clause_exists, instance_fits, literal_exists, source_fits}
use Rattle.constraint.proofs.Decided.{possible_decided}
use Rattle.constraint.specs.Test.{NumbersIn}
use Rattle.constraint.specs.Witnesses.{packed_given}
use Rattle.std.specs.Prelude as std
use Rattle.reaching.specs.Handing.{EveryStepHands, HandsOnce}
use Rattle.reaching.proofs.Reached.{AllProper, FineState, brought_proper, kept_proper, named_proper, reached_fine, some_conflict}

-- ---- it is unique

-- Numbers or none, two such are one.
hands_same : (c : Bool) (n : ℕ) (az : List Atom) {g h : Option (List ℤ)} → Hands c n az g → Hands c n az h → g ≡ h
hands_same true n az (ms, M, p) (ns, N, q) = p ∙ ap (λ (l : List ℤ). some l) (numbers_once n az ms ns M N) ∙ sym q
hands_same false n az p q = p ∙ sym q

pub hands_once : HandsOnce
hands_once s x number g h f k = hands_same (eqb number accepted && tests x) s.constants (question s x) f k

-- Two answers to a step, each with what the step hands on, are one.
pub answered_once : (s : State) (x : Step) {c d : Answer} {g h : Option (List ℤ)} → Judged whole s x c → HandsOn s x c.number g → Judged whole s x d → HandsOn s x d.number h → (c ≡ d) × (g ≡ h)
answered_once s x {c} {d} {g} {h} i f j k =
    let same = answer_unique whole s x c d i j in
    (same, hands_once s x c.number g h f (subst (λ (b : Answer). HandsOn s x b.number h) (sym same) k))

-- ---- it is there

-- Where a step passes its checks, the atoms that it asks about are proper.
asked_proper : {s : State} → FineState s → (x : Step) (b : Bool) → AllOk (asks b s x) → AllProper s.constants (question s x)
asked_proper {s} F (Propagate c l τ) b k =
    let C = clause_at (clauses s) c in
    let named = and_r (clause_exists (clauses s) c) (literal_exists C l && instance_fits s.constants C τ) k.1.1.0 in
    named_proper F c τ (and_l (clause_exists (clauses s) c) (literal_exists C l && instance_fits s.constants C τ) k.1.1.0) (and_r (literal_exists C l) (instance_fits s.constants C τ) named)
asked_proper {s} F (Decide c l g τ zs) b k =
    let C = clause_at (clauses s) c in
    let sources = brought_at s zs in
    brought_proper F sources (and_r (clause_exists (clauses s) c && (literal_exists C l && instance_fits s.constants C τ)) (all_of (source_fits (clauses s) s.constants) sources) k.1.1.1.0)
asked_proper {s} F (Conflict c τ) b k =
    let C = clause_at (clauses s) c in
    named_proper F c τ (and_l (clause_exists (clauses s) c) (instance_fits s.constants C τ) k.1.1.0) (and_r (clause_exists (clauses s) c) (instance_fits s.constants C τ) k.1.1.0)
asked_proper F (Resolve l) b k = λ a m. absurd (Memᴰ.not-nil m)
asked_proper F (Factorize i j) b k = λ a m. absurd (Memᴰ.not-nil m)
asked_proper F Skip b k = λ a m. absurd (Memᴰ.not-nil m)
asked_proper {s} F (Backtrack l) b k =
    let N = conflict_of s.conflict in
    kept_proper F (back_level N l s.trail) N (F.conflict N (some_conflict s.conflict (T→eq (stands s.conflict) k.0)))
asked_proper F (Grow n) b k = λ a m. absurd (Memᴰ.not-nil m)
asked_proper F (Unknown r) b k = λ a m. absurd (Memᴰ.not-nil m)

-- An accepted step's question is over the constants.
pub asked_placed : (s : State) (x : Step) (b : Answer) → Reached (plain whole) s → Judged whole s x b → b.number ≡ accepted → Placed s.constants (question s x)
asked_placed s x b R j e a m =
    let met = acceptance whole s x b j e in
    let proper = asked_proper (reached_fine s R) x met.possible met.checks a m in
    (proper.p_place, proper.q_place)

pub every_step_hands : EveryStepHands
every_step_hands s x b R j = go (eqb b.number accepted) (tests x) refl
  where
    go : (c t : Bool) → eqb b.number accepted ≡ c → (h : Option (List ℤ)) × Hands (c && t) s.constants (question s x) h
    go true true e =
        let z = eqb-true b.number accepted e in
        let (numbers, these) = (numbers_exist s.constants (question s x) (asked_placed s x b R j z)).0 (asked_possible whole s x ((accepted_exactly_if_allowed whole s x b j).0 z)) in
        (some numbers, (numbers, these, refl))
    go true false e = (none, refl)
    go false t e = (none, refl)

-- ---- what is asked

-- Whether the atoms that a step asks for are possible is decided.
pub decided : (s : State) (x : Step) → (b : Bool) × (T b ↔ Possible whole s.constants (question s x))
decided s x = go (possible_decided s.constants (question s x))
  where
    go : Dec (Possible whole s.constants (question s x)) → (b : Bool) × (T b ↔ Possible whole s.constants (question s x))
    go (yes p) = (true, ((λ _. p), (λ _. tt)))
    go (no n) = (false, ((λ z. absurd z), n))

-- A rule that asks for nothing to be possible
pub nothing_asked : (s : State) (x : Step) → question s x ≡ [] → T true ↔ Possible whole s.constants (question s x)
nothing_asked s x e = ((λ _. subst (Possible whole s.constants) (sym e) (possible_none whole s.constants)), (λ _. tt))

-- ---- the record of it

-- w is the record of what the step hands on where it is accepted.
abbrev pub HandsBy : State → Step → std.Option (List ℤ) → Type 0
HandsBy s x w = (h : Option (List ℤ)) × HandsOn s x accepted h × (w ≡ packed_given h)

-- .. of a rule that tests the numbers behind the yes, of another none
pub hands_shown : (s : State) (x : Step) → tests x ≡ true → (w : List ℤ) → NumbersIn s.constants (question s x) w → HandsBy s x (std.Some w)
hands_shown s x t w (numbers, these, is) = (some numbers, rw t (numbers, these, refl), ap (λ (l : List ℤ). std.Some l) is)

pub hands_none : (s : State) (x : Step) → tests x ≡ false → {w : std.Option (List ℤ)} → w ≡ std.None → HandsBy s x w
hands_none s x t e = (none, rw t refl, e)
