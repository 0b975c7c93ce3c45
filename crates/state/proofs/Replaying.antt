-- Replay read off the record of a state is the calculus's of that state, and a run of the code.
use mathlib.Core.Path.{◌∙◌, ◌≡◌, ap, refl, subst, sym}
use mathlib.Core.List.{List, [], ◌∷◌, map}
use mathlib.Core.Option.{none}
use Prim.Native.Nat.{ℕ}
use native.Mathlib.Omega.{arith}
use Rattle.basis.specs.Numbers.{whole}
use Rattle.calculus.specs.Conditions.{Judged}
use Rattle.calculus.specs.Runs.{AcceptedRun, Reached, plain, restarted}
use Rattle.calculus.proofs.Invariant.{Now}
use Rattle.calculus.proofs.Runs.{start_reached, steps_keep_reached}
use Rattle.calculus.proofs.Sound.{inv_run, inv_start, reached_few, replays, restarted_starts}
use Rattle.calculus.proofs.Trails.{Built, brings_at}
use Rattle.calculus.specs.States as states
use Rattle.calculus.specs.States.{clauses}
use Rattle.asking.specs.Steps.{step_of}
use Rattle.asking.specs.declared.Step.{Step}
use Rattle.reaching.proofs.Handing.{every_step_hands}
use Rattle.reaching.proofs.Reached.{no_conflict}
use Rattle.trail.proofs.Stored.{row_held}
use Rattle.trail.specs.declared.Entry.{Entry}
use Rattle.state.specs.Runs.{StartAgainRestarts, BehindReplays, CodeAccepts, CodeReplays, StartsAgain, behind, behind_entries, over, start_again, then}
use Rattle.state.specs.States.{packed_answer, packed_state}
use Rattle.state.specs.declared.State.{State}
use Rattle.state.proofs.Behind.{built_tells}
use Rattle.state.proofs.Runs.{answers_so}

pub start_again_restarts : StartAgainRestarts
start_again_restarts s = refl

-- Where no conflict stands, the trail was built group by group.
built : (s : states.State) → Reached (plain whole) s → s.conflict ≡ none → Built whole (brings_at s) (clauses s) s.constants s.trail
built s h e = (subst (Now whole (clauses h.first) s) e (inv_run (inv_start whole h.first h.start) h.run).now).lower

pub behind_replays : BehindReplays
behind_replays s h e = ap (λ (es : List Entry). map step_of (behind_entries es)) (row_held s.trail (reached_few whole s h)) ∙ (built_tells (built s h e)).says

-- Steps that the rules accept one after the other, given to the code
code_accepts : {s s' : states.State} {ys : List states.Step} (xs : List Step) → map step_of xs ≡ ys → Reached (plain whole) s → AcceptedRun (plain whole) s ys s' → CodeAccepts (packed_state s) xs (packed_state s')
code_accepts [] e R (AcceptedRun.over q) = over (ap packed_state q)
code_accepts [] e R (AcceptedRun.then b j n rest) = absurd (let z : ◌≡◌ {A = ℕ} 0 1 = cc in omega arith)
code_accepts (x ∷ xs) e R (AcceptedRun.over q) = absurd (let z : ◌≡◌ {A = ℕ} 0 1 = cc in omega arith)
code_accepts {s} (x ∷ xs) e R (AcceptedRun.then {x = y} {xs = ys} b j n rest) =
    let first : y ≡ step_of x = cc in
    let others : map step_of xs ≡ ys = cc in
    let k = subst (λ q. Judged whole s q b) first j in
    let (h, handed) = every_step_hands s (step_of x) b R k in
    then x (packed_answer b h) (s, record { reached = R; is = refl }) (answers_so s x b h R k handed) n (code_accepts xs others (steps_keep_reached (plain whole) s (step_of x) b R k) rest)

again_reached : (s : states.State) → Reached (plain whole) s → Reached (plain whole) (restarted s)
again_reached s R = start_reached (plain whole) (restarted s) (restarted_starts whole s R)

pub starts_again : StartsAgain
starts_again r (s, S) = (restarted s, record { reached = again_reached s S.reached; is = ap start_again S.is })

pub code_replays : CodeReplays
code_replays r (s, S) free =
    let calm = no_conflict s.conflict (sym (ap (λ (q : State). q.run.stands) S.is) ∙ free) in
    subst (λ (q : State). CodeAccepts (start_again q) (behind q) q) (sym S.is) (code_accepts (behind (packed_state s)) (behind_replays s S.reached calm) (again_reached s S.reached) (replays whole s S.reached calm))
