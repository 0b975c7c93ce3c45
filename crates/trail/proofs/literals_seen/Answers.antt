-- The first literal that must be false and is not, numbered from 1.
use mathlib.Core.Path.{◌∙◌, ◌≡◌, ap, refl, sym}
use mathlib.Core.Bool.{not}
use Prim.Native.Nat.{suc, ◌+◌, ℕ}
use native.Mathlib.Numerals.{add-one}
use borrow.Author.Rules.{rules}
use Rattle.std.specs.List.{position}
use Rattle.std.specs.Option.{option_map}
use Rattle.std.specs.Prelude.{Option, None, Some}
use Rattle.clauses.specs.Records.{clause_of}
use Rattle.trail.specs.Answers.{excepted, first_number, passes}
use Rattle.trail.specs.Entries.{entries_of}
use Rattle.trail.proofs.NotFalse.{first_found}
use Rattle.trail.proofs.literals_seen.Goals as goal

one_more : (o : Option ℕ) → option_map (λ (j : ℕ). j + 1) o ≡ option_map suc o
one_more None = refl
one_more (Some n) = ap Some (add-one n)

pub returns : goal.returns
returns c =
    let args = c.args in
    let own : c.then_some-excepted.result ≡ excepted args.others args.own = search rules in
    let f = passes (excepted args.others args.own) (entries_of args.trail.now) args.instance.now in
    let ls = (clause_of args.clause).literals in
    let mapped : c.map.result ≡ option_map (λ (j : ℕ). j + 1) c.first_failing-first.result = search rules in
    let found : c.first_failing-first.result ≡ position (λ l. not (f l)) ls = rw own at (c.first_failing-first.ensures ∙ ap (position (λ l. not (passes c.then_some-excepted.result (entries_of args.trail.now) args.instance.now l))) c.literals.ensures) in
    let number : c.map.result ≡ first_number f ls = mapped ∙ one_more c.first_failing-first.result ∙ ap (option_map suc) found ∙ sym (first_found f ls) in
    λ i. record { free = c.undefined.ensures i; first = number i }
