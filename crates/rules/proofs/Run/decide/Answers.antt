use Rattle.std.proofs.Common.{◌≡◌, ap, length}
use Rattle.basis.specs.Limits.{most_brought}
use lib.ListN.{length-take, take}
use Rattle.asking.specs.Trying.{given_number}
use Rattle.rules.proofs.Asking.{some_number}
use native.Mathlib.Omega.{arith}
use borrow.Author.Rules.{rules}
use Rattle.rules.proofs.Deciding.{decide_fits, decide_refused, decide_told}
use Rattle.rules.proofs.Runs.{kept_small, shown}
use Rattle.rules.proofs.Run.decide.Goals as goal

pub overflow_add-self : goal.overflow_add-self
overflow_add-self c = let h = kept_small (c.requires.0, c.requires.1) in omega (arith, h.few_input, h.few_learned)

pub weigh-weighed-requires : goal.weigh-weighed-requires
weigh-weighed-requires c = (c.requires.0, shown c.requires.1, record { clause = c.requires.2; atoms = c.requires.3 })

pub returns-in-Some : goal.returns-in-Some
returns-in-Some c =
    rw c.refused.ensures (λ s R l n. let W = c.weigh-weighed.ensures s (shown R) (record { clause = l; atoms = n }) in
    rw c.in-Some.is at (decide_refused R W (rw c.in-Some.is (some_number c.in-Some.refusal))))

pub shared_ref_as_front-trail : goal.shared_ref_as_front-trail
shared_ref_as_front-trail c = (kept_small (c.requires.0, c.requires.1)).few_entries

pub shared_ref_as_front-decided : goal.shared_ref_as_front-decided
shared_ref_as_front-decided c =
    let R = c.requires.1 in
    (decide_fits R (c.weigh-weighed.ensures c.requires.0 (shown R) (record { clause = c.requires.2; atoms = c.requires.3 })) (ap given_number c.in_default.is)).0

pub decided-requires : goal.decided-requires
decided-requires c =
    let R = c.requires.1 in
    let (few, fits) = decide_fits R (c.weigh-weighed.ensures c.requires.0 (shown R) (record { clause = c.requires.2; atoms = c.requires.3 })) (ap given_number c.in_default.is) in
    let small = kept_small (c.requires.0, R) in
    let n = c.weigh-weighed.result.count in
    let room : length c.args.named.at ≡ most_brought = search rules in
    let slots : length c.args.x.atoms ≡ most_brought = search rules in
    let at : length (take n c.args.named.at) ≡ n = omega (arith, length-take n c.args.named.at) in
    let sources : length (take n c.args.x.atoms) ≡ n = omega (arith, length-take n c.args.x.atoms) in
    (omega arith, omega arith, omega (arith, small.few_decisions, small.few_entries))

pub returns : goal.returns
returns c =
    rw c.decided.ensures (λ s R l n. decide_told R (c.weigh-weighed.ensures s (shown R) (record { clause = l; atoms = n })) (ap given_number c.in_default.is) (let g = c.well_formed.1.1.1.0.1.1.1.1.1.1.1.1.1.1.0 in search rules) n)
