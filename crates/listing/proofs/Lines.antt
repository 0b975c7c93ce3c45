-- A rule's name by its number; how long lines are; the last line by a run record.
use mathlib.Core.Path.{◌≡◌, refl, subst, sym, ap}
use mathlib.Core.Bool.{Bool, true, false, ◌&&◌, cond}
use mathlib.Core.List.{List, [], ◌∷◌}
use mathlib.Core.Option.{Option, none, some}
use Prim.Native.Nat.{ℕ, suc, ◌≤◌, ◌<◌}
use native.Mathlib.Omega.{arith}
use borrow.Author.Tests.{ne_eqb}
use lib.Dec.{eqb, lit≤}
use lib.ListN.{length, length-append}
use Rattle.basis.specs.Refusals.{accepted}
use Rattle.basis.specs.declared.Literal.{Literal}
use Rattle.calculus.specs.Clauses.{Instanced}
use Rattle.calculus.specs.Rules.{Answer}
use Rattle.calculus.specs.States.{Step, Propagate, Decide, Conflict, Resolve, Factorize, Skip, Backtrack, Grow, Unknown, stands, conflict_of}
use Rattle.runfile.specs.File.{most_steps}
use Rattle.asking.specs.Steps.{decide_of, instance_of, step_of}
use Rattle.asking.specs.declared.Step as steps
use Rattle.text.specs.Text.{bytes, decimal}
use Rattle.text.proofs.Text.{length_decimal}
use Rattle.listing.specs.Lines.{rule_name, numbered, accepted_line, refused_line, is_empty, is_refutation, closing, last_line, bad_line, most_name, most_numbered, most_line, most_last, most_bad}
use Rattle.listing.specs.Records.{ClosesAsLast, NamesRule, name_of}

-- ---- a rule's name

pub names_rule : NamesRule
names_rule x = by (eqb x.rule 1) (eqb x.rule 2) (eqb x.rule 3) (eqb x.rule 4) (eqb x.rule 5) (eqb x.rule 6) (eqb x.rule 7) (eqb x.rule 8)
  where
    by : (b1 b2 b3 b4 b5 b6 b7 b8 : Bool)
        → cond b1 (bytes "propagate") (cond b2 (bytes "decide") (cond b3 (bytes "conflict") (cond b4 (bytes "resolve") (cond b5 (bytes "factorize") (cond b6 (bytes "skip") (cond b7 (bytes "backtrack") (cond b8 (bytes "grow") (bytes ""))))))))
        ≡ rule_name (cond b1 (Propagate x.clause x.literal (instance_of x)) (cond b2 (decide_of x) (cond b3 (Conflict x.clause (instance_of x)) (cond b4 (Resolve x.literal)
        (cond b5 (Factorize x.literal x.other) (cond b6 Skip (cond b7 (Backtrack x.literal) (cond b8 (Grow x.amount) (Unknown x.rule)))))))))
    by true b2 b3 b4 b5 b6 b7 b8 = refl
    by false true b3 b4 b5 b6 b7 b8 = refl
    by false false true b4 b5 b6 b7 b8 = refl
    by false false false true b5 b6 b7 b8 = refl
    by false false false false true b6 b7 b8 = refl
    by false false false false false true b7 b8 = refl
    by false false false false false false true b8 = refl
    by false false false false false false false true = refl
    by false false false false false false false false = refl

-- ---- how long

length_name : (x : Step) → length (rule_name x) ≤ most_name
length_name (Propagate c l τ) = lit≤ tt
length_name (Decide c l sign τ zs) = lit≤ tt
length_name (Conflict c τ) = lit≤ tt
length_name (Resolve l) = lit≤ tt
length_name (Factorize l m) = lit≤ tt
length_name Skip = lit≤ tt
length_name (Backtrack l) = lit≤ tt
length_name (Grow n) = lit≤ tt
length_name (Unknown rule) = lit≤ tt

pub short_name : (rule : ℕ) → length (name_of rule) ≤ most_name
short_name rule =
    let x : steps.Step = record { rule = rule; clause = 0; literal = 0; other = 0; sign = 0; amount = 0; count = 0; brought = 0; instance = []; atoms = [] } in
    subst (λ (name : List ℕ). length name ≤ most_name) (sym (names_rule x)) (length_name (step_of x))

pub digits_step : (n : ℕ) → n ≤ most_steps → length (decimal n) ≤ 4
digits_step n h = length_decimal 3 n (omega arith)

pub digits_byte : (n : ℕ) → n < 256 → length (decimal n) ≤ 3
digits_byte n h = length_decimal 2 n (omega arith)

pub digits_machine : (n : ℕ) → n < 18446744073709551616 → length (decimal n) ≤ 20
digits_machine n h = length_decimal 19 n (omega arith)

pub length_numbered : (n rule : ℕ) → n ≤ most_steps → length (numbered n (name_of rule)) ≤ most_numbered
length_numbered n rule h = simp length-append (omega (arith, digits_step n h, short_name rule))

pub length_accepted : (n : ℕ) (x : Step) (t k : ℕ) → n ≤ most_steps → t < 256 → k < 256 → length (accepted_line n (rule_name x) t k) ≤ most_line
unfolding accepted_line
length_accepted n x t k h i j = simp length-append (omega (arith, digits_step n h, length_name x, digits_byte t i, digits_byte k j))

pub length_refused : (n : ℕ) (x : Step) (e : ℕ) → n ≤ most_steps → e < 256 → length (refused_line n (rule_name x) e) ≤ most_line
unfolding refused_line
length_refused n x e h i = simp length-append (omega (arith, digits_step n h, length_name x, digits_byte e i))

pub length_bad : (n p : ℕ) → n < 256 → p < 18446744073709551616 → length (bad_line n p) ≤ most_bad
unfolding bad_line
length_bad n p h i = simp length-append (omega (arith, digits_byte n h, digits_machine p i))

pub length_closing : (r : Bool) (e : ℕ) → length (closing r e) ≤ most_last
length_closing true e = lit≤ tt
length_closing false e = by (eqb e accepted)
  where
    by : (b : Bool) → length (cond b (bytes "open\n") (bytes "stopped\n")) ≤ most_last
    by true = lit≤ tt
    by false = lit≤ tt

pub length_last : (e : Answer) → length (last_line e) ≤ most_last
length_last e = length_closing (is_refutation e.state.conflict) e.number

-- ---- the last line by a run record

refuted_run : (c : Option Instanced) → (stands c && eqb (length (conflict_of c).clause.literals) 0) ≡ is_refutation c
refuted_run none = refl
refuted_run (some N) = none_left N.clause.literals
  where
    none_left : (ls : List Literal) → eqb (length ls) 0 ≡ is_empty ls
    none_left [] = refl
    none_left (l ∷ ls) = ne_eqb (suc (length ls)) 0 (λ e. omega arith)

pub closes_as_last : ClosesAsLast
closes_as_last e = ap (λ (b : Bool). closing b e.number) (refuted_run e.state.conflict)
