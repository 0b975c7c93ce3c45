-- How long a listing can be.
use mathlib.Core.Path.{◌≡◌, ap, subst}
use mathlib.Core.Logic.{◌⊎◌, inl, inr}
use mathlib.Core.List.{List, [], ◌∷◌, ◌++◌}
use Prim.Native.Nat.{ℕ, ◌+◌, ◌*◌, ◌≤◌, ◌<◌}
use native.Mathlib.Omega.{arith}
use lib.ListN.{length, length-append}
use Rattle.basis.specs.Numbers.{whole}
use Rattle.basis.specs.Refusals.{ends_inside, surplus, too_long}
use Rattle.calculus.specs.Rules.{Reply}
use Rattle.calculus.specs.Runs.{Judge, Reached, plain, stated}
use Rattle.calculus.specs.States.{Step}
use Rattle.calculus.proofs.Answers.{answer_unique, number_in_table}
use Rattle.calculus.proofs.Sound.{sound_judge}
use Rattle.calculus.proofs.Runs.{admitted_reached, steps_keep_reached}
use Rattle.runfile.specs.File.{most_steps, opened}
use Rattle.runfile.specs.Claims.{Outcome}
use Rattle.runfile.proofs.Given.{every_file}
use Rattle.reaching.proofs.Reached.{reached_fine, decisions_few}
use Rattle.listing.specs.Lines.{rule_name, accepted_line, last_line, most_line}
use Rattle.listing.specs.Listing.{Tried, through, refused, went, bad_file, good_file}
use Rattle.listing.specs.Claims.{ListingFits, Modest, PlainJudge}
use Rattle.listing.proofs.Every.{answers_all}
use Rattle.listing.proofs.Lines.{length_accepted, length_refused, length_bad, length_last}

-- A line for each step; the steps are among the 2,000.
module _ (J : Judge) (M : Modest J) where
  tried_length : (xs : List Step) {o : J.Over} {n : ℕ} {w : List ℕ} {e : Reply J.Over} → Reached J o → n + length xs ≤ most_steps + 1 → Tried J o n xs w e → length w ≤ length xs * most_line
  tried_length [] R h through = omega arith
  tried_length (x ∷ xs) {o} {n} R h (refused a j z) = omega (arith, length_refused n x a.number (omega arith) (omega (arith, M.in_table o x a R j)))
  tried_length (x ∷ xs) {o} {n} R h (went {u = u} {w = w} a j z b t) =
      let R' = steps_keep_reached J o x a R j in
      let s = J.state a.state in
      let line = length_accepted n x (length s.trail) s.level (omega arith) (omega (arith, M.few_entries a.state R')) (omega (arith, M.low_level a.state R')) in
      let rest = tried_length xs R' (omega arith) t in
      omega (arith, line, rest, ap length b, length-append u w, length-append (accepted_line n (rule_name x) (length s.trail) s.level) (u ++ w))

-- The number by which a file is refused is a byte.
file_refusal : {n : ℕ} → ((ends_inside ≤ n) × (n ≤ surplus)) ⊎ (n ≡ too_long) → n < 256
file_refusal (inl (least, most)) = omega arith
file_refusal (inr is) = omega arith

pub listing_fits : ListingFits
listing_fits J M s w h (bad_file n p f) =
    let r = subst (Outcome s) f (every_file s) in
    omega (arith, length_bad n p (file_refusal r.in_table) (omega (arith, r.in_file)))
listing_fits J M s w h (good_file F next {w = lines} a f t) =
    let (sayable, whole_read) = subst (Outcome s) f (every_file s) in
    let l = tried_length J M F.steps (admitted_reached J (opened F) sayable.admitted) (omega (arith, sayable.few_steps)) t in
    omega (arith, l, sayable.few_steps, length_last (stated J a), length-append lines (last_line (stated J a)))

plain_modest : Modest (plain whole)
plain_modest = record {
  few_entries = λ s R. (reached_fine s R).few_entries;
  low_level = λ s R. let f = reached_fine s R in omega (arith, f.few_entries, f.level, decisions_few s.trail);
  in_table = λ s x a R j. number_in_table whole s x a j;
}

pub plain_judge : PlainJudge
plain_judge = (answers_all, answer_unique whole, plain_modest, sound_judge whole)
