-- What stands beneath the line of an accepted step: the code has it by what was handed on, and there is one such text.
use mathlib.Core.Path.{◌∙◌, ◌≡◌, ap, refl, subst, sym}
use mathlib.Core.Bool.{Bool, ◌&&◌, false, true}
use mathlib.Core.List.{List}
use mathlib.Core.Option.{Option, none, some}
use Prim.Native.Nat.{ℕ, ◌≤◌}
use native.Mathlib.Omega.{arith}
use lib.Dec.{eqb}
use lib.IntN.{ℤ, pos}
use lib.ListN.{length, take}
use Rattle.basis.proofs.Choices.{less_zero_length}
use Rattle.basis.specs.Limits.{most_constants}
use Rattle.basis.specs.Numbers.{whole}
use Rattle.basis.specs.Refusals.{accepted}
use Rattle.basis.specs.declared.Atom.{Atom}
use Rattle.std.specs.Prelude as std
use Rattle.lists.proofs.Arrays.{take_exactly}
use Rattle.calculus.specs.Handing.{Hands, HandsOn, tests}
use Rattle.calculus.specs.Rules.{question}
use Rattle.calculus.specs.Runs.{plain}
use Rattle.calculus.specs.States.{State, Step}
use Rattle.reaching.proofs.Handing.{hands_once}
use Rattle.listing.specs.Claims.{BeneathOnce}
use Rattle.listing.proofs.Once.{nothing_once}
use Rattle.inspection.specs.NumbersText.{numbers_line, numbers_text}
use Rattle.trying.specs.Running.{text_beneath}
use Rattle.trying.specs.Texts.{beneath, numbers_beneath}
use Rattle.constraint.specs.Witnesses.{packed_given, packed_numbers}

-- There are as many numbers as constants.
hands_length : (c : Bool) (n : ℕ) (az : List Atom) (ns : List ℤ) → Hands c n az (some ns) → length ns ≡ n
hands_length true n az ns (ms, M, e) = let same : ns ≡ ms = cc in ap length (same ∙ M.less_zero) ∙ less_zero_length n M.choice
hands_length false n az ns e = let z : ◌≡◌ {A = ℕ} 0 1 = cc in absurd (omega arith)

-- What a step hands on, of the state's constants, is what stands beneath the line.
module _ (s : State) (few : s.constants ≤ most_constants) (x : Step) where
  told_text : (h : Option (List ℤ)) → HandsOn s x accepted h → text_beneath true s.constants (packed_given h) ≡ numbers_text h
  told_text none H = refl
  told_text (some ns) H =
      let long = hands_length (eqb accepted accepted && tests x) s.constants (question s x) ns H in
      ap numbers_line (ap (λ (k : ℕ). take k (packed_numbers ns)) (sym long) ∙ take_exactly (pos 0) most_constants ns (omega arith))

  pub told_beneath : (numbered : Bool) {number constants : ℕ} (h : Option (List ℤ)) {w : std.Option (List ℤ)} → HandsOn s x number h → number ≡ accepted → constants ≡ s.constants → w ≡ packed_given h
      → beneath numbered s x (text_beneath numbered constants w)
  told_beneath true h H z c e =
      let H' = subst (λ (k : ℕ). HandsOn s x k h) z H in
      (h, H', (λ i. text_beneath true (c i) (e i)) ∙ told_text h H')
  told_beneath false h H z c e = refl

-- ---- there is one such text

numbers_beneath_once : BeneathOnce (plain whole) numbers_beneath
numbers_beneath_once s x u v (g, G, p) (h, H, q) = p ∙ ap numbers_text (hands_once s x accepted g h G H) ∙ sym q

pub beneath_once : (numbered : Bool) → BeneathOnce (plain whole) (beneath numbered)
beneath_once true = numbers_beneath_once
beneath_once false = nothing_once (plain whole)
