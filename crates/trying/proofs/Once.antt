-- What trying the steps prints is what is printed of the file, and so it is unique.
use mathlib.Core.Bool.{Bool}
use mathlib.Core.Path.{◌≡◌, ap, sym, ◌∙◌}
use mathlib.Core.List.{List, ◌++◌}
use Prim.Native.Nat.{ℕ, ◌+◌}
use lib.Seq.{sets}
use lib.ListN.{length}
use Rattle.basis.specs.Numbers.{whole}
use Rattle.calculus.specs.Runs.{plain}
use Rattle.calculus.proofs.Answers.{answer_unique}
use Rattle.listing.specs.Listing.{Ends, Printed, good_file, with_step}
use Rattle.listing.proofs.Every.{tried_alike}
use Rattle.listing.proofs.Once.{ends_once, printed_once}
use Rattle.trying.specs.Running.{Prints, PrintsOnce}
use Rattle.trying.specs.Texts.{beneath, ending}
use Rattle.trying.specs.declared.Ended.{Ended}
use Rattle.trying.proofs.Numbers.{beneath_once}

module _ {numbered shown : Bool} {s d d' : List ℕ} {r : Ended} (P : Prints numbered shown s d d' r) where
  abbrev pub text : List ℕ
  text = P.lines ++ ending shown P.answer

  pub prints_text : Printed (plain whole) (beneath numbered) (ending shown) s text
  prints_text = good_file P.says P.next P.answer P.is P.tried

  pub prints_ends : Ends (plain whole) s r.number r.place
  prints_ends = rw P.number_is (rw P.place_is (with_step P.says P.next P.answer P.is (tried_alike (plain whole) (beneath numbered) _ _ _ _ _ P.tried).2))

pub prints_once : PrintsOnce
prints_once numbered shown s d d₁ d₂ r₁ r₂ P Q =
    let same : text P ≡ text Q = printed_once (plain whole) (answer_unique whole) (beneath numbered) (beneath_once numbered) (ending shown) s (text P) (text Q) (prints_text P) (prints_text Q) in
    let (number, place) = ends_once (plain whole) (answer_unique whole) s r₁.number r₁.place r₂.number r₂.place (prints_ends P) (prints_ends Q) in
    let count : r₁.count ≡ r₂.count = P.wrote.next ∙ ap (λ (w : List ℕ). 0 + length w) same ∙ sym Q.wrote.next in
    ((λ i. record { count = count i; number = number i; place = place i }), P.wrote.left ∙ ap (sets d 0) same ∙ sym Q.wrote.left)
