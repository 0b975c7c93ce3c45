-- A file has one listing, and judging it ends in one way.
use mathlib.Core.Path.{◌≡◌, refl, ap, sym, ◌∙◌}
use mathlib.Core.List.{List, [], ◌∷◌, ◌++◌}
use Prim.Native.Nat.{ℕ}
use native.Mathlib.Omega.{arith}
use Rattle.calculus.specs.Rules.{Reply}
use Rattle.calculus.specs.Runs.{AnswersOnce, Judge, stated}
use Rattle.calculus.specs.States.{Step}
use Rattle.runfile.specs.Readers.{Got, got, bad}
use Rattle.runfile.specs.File.{File}
use Rattle.listing.specs.Lines.{bad_line}
use Rattle.listing.specs.Listing.{Beneath, TriedWith, bad_file, good_file, nothing, refused, through, went, with_file, with_step}
use Rattle.listing.specs.Claims.{BeneathOnce, EndsOnce, PrintedOnce}

clash : {F : File} {n p k : ℕ} {g : Got File} → g ≡ bad n p → g ≡ got F k → ⊥
clash a b = let z : ◌≡◌ {A = ℕ} 0 1 = cc in omega arith

same_file : {F G : File} {k l : ℕ} {g : Got File} → g ≡ got F k → g ≡ got G l → F ≡ G
same_file a b = cc

module _ (J : Judge) (once : AnswersOnce J) where
  number_same : {o : J.Over} {x : Step} {a b : Reply J.Over} → J.Gives o x a → J.Gives o x b → a.number ≡ b.number
  number_same {o} {x} {a} {b} i j = ap (λ (c : Reply J.Over). c.number) (once o x a b i j)

  -- The same lines and the same last answer
  module _ (B : Beneath J) (beneath : BeneathOnce J B) where
    tried_once : (xs : List Step) {o : J.Over} {n : ℕ} {v w : List ℕ} {e f : Reply J.Over} → TriedWith J B o n xs v e → TriedWith J B o n xs w f → (v ≡ w) × (e ≡ f)
    tried_once [] through through = (refl, refl)
    tried_once (x ∷ xs) {o} (refused a j z) (refused a' j' z') =
        let e = once o x a a' j j' in (cc, e)
    tried_once (x ∷ xs) {o} (refused a j z) (went a' j' z' b' t') = absurd (z (number_same j j' ∙ z'))
    tried_once (x ∷ xs) {o} (went a j z b t) (refused a' j' z') = absurd (z' (number_same j' j ∙ z))
    tried_once (x ∷ xs) {o} (went {u = u} a j z b t) (went {u = u'} a' j' z' b' t') =
        let q = once o x a a' j j' in
        let p : u ≡ u' = beneath o x u u' b b' in
        let (lines, last) = tried_once xs (rw q at t) t' in (cc, last)

pub printed_once : PrintedOnce
printed_once J once B beneath after s v w (bad_file n p e) (bad_file n' p' e') =
    let a : n ≡ n' = cc in let b : p ≡ p' = cc in ap (λ (k : ℕ). bad_line k p) a ∙ ap (bad_line n') b
printed_once J once B beneath after s v w (bad_file n p e) (good_file F k a e' t') = absurd (clash e e')
printed_once J once B beneath after s v w (good_file F k a e t) (bad_file n p e') = absurd (clash e' e)
printed_once J once B beneath after s v w (good_file F k {w = u} a e t) (good_file F' k' {w = u'} a' e' t') =
    let (lines, last) = tried_once J once B beneath F'.steps (rw (same_file e e') at t) t' in
    ap (λ (b : List ℕ). b ++ after (stated J a)) lines ∙ ap (λ (b : Reply J.Over). u' ++ after (stated J b)) last

-- Nothing is nothing.
pub nothing_once : (J : Judge) → BeneathOnce J (nothing J)
nothing_once J o x u v a b = a ∙ sym b

pub ends_once : EndsOnce
ends_once J once s n p m q (with_file _ _ e) (with_file _ _ e') = (cc, cc)
ends_once J once s n p m q (with_file _ _ e) (with_step F k a e' t') = absurd (clash e e')
ends_once J once s n p m q (with_step F k a e t) (with_file _ _ e') = absurd (clash e' e)
ends_once J once s n p m q (with_step F k a e t) (with_step F' k' a' e' t') =
    let last = (tried_once J once (nothing J) (nothing_once J) F'.steps (rw (same_file e e') at t) t').1 in (ap (λ (b : Reply J.Over). b.number) last, ap (λ (b : Reply J.Over). b.place) last)
