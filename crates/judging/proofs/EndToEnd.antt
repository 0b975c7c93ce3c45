-- From the file's bytes to the listing's.
use mathlib.Core.Path.{◌∙◌, ◌≡◌, ap, sym}
use mathlib.Core.List.{List, ◌++◌}
use Prim.Native.Nat.{ℕ}
use lib.ListN.{drop, length, take}
use lib.Seq.{take-append_seam}
use Rattle.basis.specs.Numbers.{whole}
use Rattle.calculus.specs.Runs.{plain}
use Rattle.calculus.proofs.Sound.{sound_judge}
use Rattle.listing.proofs.NoModel.{refuted_has_no_model}
use Rattle.judging.specs.Judging.{EndToEnd}

-- What stands at the front of the buffer is the text.
pub written_text : {n : ℕ} (d : List ℕ) {d' w : List ℕ} → n ≡ length w → d' ≡ w ++ drop n d → take n d' ≡ w
written_text {n} d {d'} {w} count left = ap (take n) left ∙ ap (λ (i : ℕ). take i (w ++ drop n d)) count ∙ take-append_seam w (drop n d)

pub end_to_end : EndToEnd
end_to_end s d d' v n k p (room, ends, (w, listing, count, left)) e =
    refuted_has_no_model whole (plain whole) (sound_judge whole) s w v listing (sym (written_text d count left) ∙ e)
