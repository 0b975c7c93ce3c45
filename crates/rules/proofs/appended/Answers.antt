use Rattle.std.proofs.Common.{◌≡◌, ◌≤◌, ◌+◌, ◌-◌, ◌∙◌, ◌++◌, ap, ap₂, arith, length, length-drop, length-take, min, set, take, drop, ℕ, List}
use lib.ListN.{replicate}
use Rattle.trail.specs.Entries.{blank_entry}
use Rattle.trail.specs.declared.Entry.{Entry}
use Rattle.rules.proofs.Growing.{blanked}
use Rattle.rules.specs.declared.Run.{Run}
use Rattle.rules.specs.Records.{lengthened, with_atoms}
use Rattle.rules.proofs.appended.Goals as goal

pub returns : goal.returns
returns c =
    let a = c.args in
    let es = a.run.trail in
    let n = a.run.length in
    let k = c.min.result in
    let count = a.m + a.fresh.n + 1 in
    let least : k ≡ min a.m n = c.min.ensures ∙ ap (min a.m) c.from-length.ensures in
    let all : c.loop-j.j ≡ a.fresh.n = omega (arith, c.loop-j-test.false, c.loop-j.auto.j-end, ap length c.as_slice-a-items.ensures, length-take a.fresh.n a.fresh.at, c.requires.0) in
    let few : n ≤ length es = omega (arith, c.requires.1) in
    let many : length (take (c.from-length.result - k) (drop k es)) ≡ n - k = omega (arith, c.from-length.ensures, least, length-take (c.from-length.result - k) (drop k es), length-drop k es) in
    let blanks : c.fill.new.self ≡ replicate (n - k) blank_entry = c.fill.ensures.after (λ y h. h) ∙ ap₂ (λ i e. replicate i e) many c.blank_entry.ensures in
    let cut = ap₂ (λ (i : ℕ) (l : List Entry). take k es ++ (l ++ drop (i - k) (drop k es))) c.from-length.ensures blanks ∙ blanked es n a.m k least few in
    ap (λ (q : Run). lengthened q count q.trail a.learned a.witness) c.loop-j.invariant
    ∙ ap₂ (λ (l : List Entry) (j : ℕ). lengthened a.run count (with_atoms (set l a.m a.own) a.m a.fresh.at j) a.learned a.witness) cut all
