-- A listing that ends with `refuted` shows that the clauses have no model.
use mathlib.Core.Path.{◌∙◌, ◌≡◌, ap, refl, subst, sym}
use mathlib.Core.Bool.{Bool, true, false, cond}
use mathlib.Core.List.{List, [], ◌∷◌, ◌++◌, append_assoc}
use mathlib.Core.Option.{Option, none, some}
use Prim.Native.Nat.{ℕ, ◌/◌, ◌%◌, ◌<◌}
use native.Mathlib.Omega.{arith}
use borrow.Author.Tests.{ltb-true, ltb-false}
use lib.Dec.{eqb, ltb}
use lib.ListN.{get_or}
use Rattle.basis.specs.Refusals.{accepted}
use Rattle.basis.specs.declared.Literal.{Literal}
use Rattle.lists.proofs.Parts.{same_ends}
use Rattle.calculus.specs.Clauses.{Instanced}
use Rattle.calculus.specs.Rules.{Reply}
use Rattle.calculus.proofs.Sound.{admitted_sound}
use Rattle.calculus.specs.Runs.{Judge, Run}
use Rattle.calculus.specs.States.{Step}
use Rattle.runfile.specs.File.{opened}
use Rattle.runfile.specs.Readers.{got}
use Rattle.runfile.specs.Claims.{Outcome}
use Rattle.runfile.proofs.Given.{every_file}
use Rattle.text.specs.Text.{bytes, digit, decimal}
use Rattle.text.proofs.Text.{decimal_small, decimal_more}
use Rattle.listing.specs.Lines.{is_empty, is_refutation, closing, bad_line}
use Rattle.listing.specs.Listing.{Beneath, TriedWith, bad_file, good_file, refused, through, went}
use Rattle.listing.specs.Claims.{RefutedHasNoModel}

-- The steps tried are a run.
pub tried_run : {J : Judge} {B : Beneath J} {o : J.Over} {n : ℕ} {xs : List Step} {w : List ℕ} {e : Reply J.Over} → TriedWith J B o n xs w e → (ys : List Step) × Run J o ys e.state
tried_run through = ([], Run.over refl)
tried_run {xs = x ∷ xs} (refused a j z) = (x ∷ [], Run.then a j (Run.over refl))
tried_run {xs = x ∷ xs} (went a j z b t) = let (ys, r) = tried_run t in (x ∷ ys, Run.then a j r)

-- ---- which last lines end as `refuted` does

-- A number ends with a digit.
decimal_ends : (n : ℕ) → (u : List ℕ) × (k : ℕ) × (k < 10) × (decimal n ≡ u ++ (digit k ∷ []))
decimal_ends n = go (ltb n 10) refl
  where
    go : (b : Bool) → ltb n 10 ≡ b → (u : List ℕ) × (k : ℕ) × (k < 10) × (decimal n ≡ u ++ (digit k ∷ []))
    go true q = ([], n, ltb-true n 10 q, decimal_small n (ltb-true n 10 q))
    go false q = (decimal (n / 10), n % 10, omega arith, decimal_more n (ltb-false n 10 q))

not_bad : (n p : ℕ) (v : List ℕ) → bad_line n p ≡ v ++ bytes "refuted\n" → ⊥
unfolding bad_line
not_bad n p v e =
    let (u, k, h, d) = decimal_ends p in
    let front = bytes "bad file " ++ decimal n ++ bytes " " in
    let e₁ : front ++ u ++ (digit k ∷ 10 ∷ []) ≡ front ++ decimal p ++ bytes "\n" =
    sym (append_assoc (front ++ u) (digit k ∷ []) (bytes "\n")) ∙ ap (λ (l : List ℕ). l ++ bytes "\n") (append_assoc front u (digit k ∷ []) ∙ ap (λ (l : List ℕ). front ++ l) (sym d)) in
    let e₂ : digit k ∷ 10 ∷ [] ≡ bytes "d\n" = same_ends (front ++ u) (v ++ bytes "refute") (e₁ ∙ e ∙ sym (append_assoc v (bytes "refute") (bytes "d\n"))) refl in
    omega (arith, ap (λ (l : List ℕ). get_or l 0 0) e₂)

closing_refuted : (w v : List ℕ) (r : Bool) (n : ℕ) → w ++ closing r n ≡ v ++ bytes "refuted\n" → r ≡ true
closing_refuted w v true n e = refl
closing_refuted w v false n e = absurd (go (eqb n accepted) e)
  where
    go : (b : Bool) → w ++ cond b (bytes "open\n") (bytes "stopped\n") ≡ v ++ bytes "refuted\n" → ⊥
    go true e = omega (arith, ap (λ (l : List ℕ). get_or l 0 0) (same_ends w (v ++ bytes "ref") (e ∙ sym (append_assoc v (bytes "ref") (bytes "uted\n"))) refl))
    go false e = omega (arith, ap (λ (l : List ℕ). get_or l 0 0) (same_ends w v e refl))

-- ---- the theorem

no_literals : (c : Option Instanced) → is_refutation c ≡ true → (K : Instanced) × (c ≡ some K) × (K.clause.literals ≡ [])
no_literals none e = let z : ◌≡◌ {A = ℕ} 0 1 = cc in absurd (omega arith)
no_literals (some K) e = (K, refl, empty K.clause.literals e)
  where
    empty : (ls : List Literal) → is_empty ls ≡ true → ls ≡ []
    empty [] e = refl
    empty (l ∷ ls) e = let z : ◌≡◌ {A = ℕ} 0 1 = cc in absurd (omega arith)

pub refuted_has_no_model : RefutedHasNoModel
refuted_has_no_model N J sound s w v (bad_file n p f) e = absurd (not_bad n p v e)
refuted_has_no_model N J sound s w v (good_file F next {w = lines} a f t) e =
    let (sayable, whole_read) = subst (Outcome s) f (every_file s) in
    let (ys, r) = tried_run t in
    let conflict = (J.state a.state).conflict in
    let (K, c, z) = no_literals conflict (closing_refuted lines v (is_refutation conflict) a.number e) in
    (F, f ∙ ap (got F) whole_read, sound (opened F) a.state ys K (admitted_sound N (opened F) sayable.admitted) r c z)
