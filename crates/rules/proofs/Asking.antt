-- What is asked in rising order: the first number that is given, and that all is passed where it is 0.
use Rattle.std.proofs.Common.{Option, Result, Err, None, Some, true≢false}
use Rattle.std.specs.Option.{is_none, unwrap_or}
use Rattle.basis.proofs.Numbered.{in_table}
use Rattle.basis.specs.Refusals.{accepted, number_of}
use Rattle.basis.specs.declared.Refusal.{Refusal}
use Rattle.asking.specs.Trying.{answer_number}
use mathlib.Core.Path.{◌∙◌, ◌≡◌, ap, refl, subst, sym}
use mathlib.Core.Bool.{Bool, ◌&&◌, cond, false, not, true}
use Prim.Native.Nat.{ℕ}
use lib.Dec.{T, eqb}
use borrow.Author.Tests.{eqb-true}
use Rattle.rules.specs.Answers.{Told}
use Rattle.basis.specs.Refusals.{not_false}
use Rattle.lists.proofs.Tests.{F→eq}
use Rattle.rules.specs.Records.{refused_at, refused_by, outcome}
use Rattle.rules.specs.declared.Run.{Run}
use Rattle.calculus.specs.States.{State, Step}

-- It is not so, and its number is given, or it is so, and the rest tells.
pub asked : {Q : Type 0} {n : ℕ} (ok : Bool) (x rest : ℕ) → n ≡ cond ok rest x → (ok ≡ false → n ≡ x → Q) → (ok ≡ true → n ≡ rest → Q) → Q
asked true x rest e f g = g refl e
asked false x rest e f g = f refl e

pub passed : {n : ℕ} (ok : Bool) (x rest : ℕ) → n ≡ cond ok rest x → T (not (eqb x 0)) → n ≡ 0 → (ok ≡ true) × (rest ≡ 0)
passed true x rest e h z = (refl, sym e ∙ z)
passed false x rest e h z = absurd (subst (λ (m : ℕ). T (not (eqb m 0))) (sym e ∙ z) h)

-- The same refusal
pub as_told : {s : State} {x : Step} {r : Run} {n m : ℕ} → n ≡ m → Told s x (refused_by r m) → Told s x (refused_by r n)
as_told {s} {x} {r} e = subst (λ (k : ℕ). Told s x (refused_by r k)) (sym e)

-- Of two tests the second, where the first holds
pub and_so : {a q : Bool} (b c : Bool) → b ≡ true → a ≡ (b && c) → a ≡ q → c ≡ q
and_so b c t e f = sym (ap (λ (d : Bool). d && c) t) ∙ sym e ∙ f

-- .. also by 12, which names a literal
abbrev At : State → Step → Run → ℕ → ℕ → Type 0
At s x r p n = Told s x (cond (eqb n not_false) (refused_at r p) (refused_by r n))

pub other_told : {s : State} {x : Step} {r : Run} {n m : ℕ} (p : ℕ) → n ≡ m → T (not (eqb m not_false)) → Told s x (refused_by r m) → Told s x (cond (eqb n not_false) (refused_at r p) (refused_by r n))
other_told {s} {x} {r} {m = m} p e h t = subst (At s x r p) (sym e) (subst (λ (b : Bool). Told s x (cond b (refused_at r p) (refused_by r m))) (sym (F→eq (eqb m not_false) h)) t)

pub place_told : {s : State} {x : Step} {r : Run} {n : ℕ} (p : ℕ) → n ≡ not_false → Told s x (refused_at r p) → Told s x (cond (eqb n not_false) (refused_at r p) (refused_by r n))
place_told {s} {x} {r} p e t = subst (At s x r p) (sym e) t

-- No number, and a number
pub none : (p : Option ℕ) → is_none p ≡ true → p ≡ None
none None e = refl
none (Some n) e = cc

pub some : (p : Option ℕ) → is_none p ≡ false → p ≡ Some (unwrap_or p 0)
some None e = cc
some (Some n) e = refl

-- ---- as the code answers

-- No refusal has the number 0.
pub some_number : (q : Refusal) → ¬ (number_of q ≡ 0)
some_number q e = true≢false (sym (ap (λ (n : ℕ). eqb n accepted) e) ∙ in_table q)

-- The number of a refusal that was found
pub found : {a : Result (Unit {0}) Refusal} {q : Refusal} {n : ℕ} → a ≡ Err q → answer_number a ≡ n → number_of q ≡ n
found e h = sym (ap answer_number e) ∙ h

-- What is refused by the first condition that does not hold, with the place of 12
pub with_place : {s : State} {x : Step} {r : Run} (q : Refusal) (p : ℕ) → Told s x (cond (eqb (number_of q) not_false) (refused_at r p) (refused_by r (number_of q)))
    → Told s x (outcome r (Err (record { refusal = q; place = cond (eqb (number_of q) not_false) p 0 })))
with_place {s} {x} {r} q p t = go (eqb (number_of q) not_false) refl t
  where
    go : (b : Bool) → eqb (number_of q) not_false ≡ b → Told s x (cond b (refused_at r p) (refused_by r (number_of q))) → Told s x (record { run = r; number = number_of q; place = cond b p 0; learned = None; witness = None })
    go true e u = subst (λ (n : ℕ). Told s x (record { run = r; number = n; place = p; learned = None; witness = None })) (sym (eqb-true (number_of q) not_false e)) u
    go false e u = u
