-- Every file has a listing, and the rules over the whole numbers answer every step.
use mathlib.Core.Path.{◌∙◌, ◌≡◌, ap, refl, subst, sym}
use mathlib.Core.List.{List, [], ◌∷◌, ◌++◌, append_assoc, append-nil, flat_map}
use Prim.Native.Nat.{ℕ, ◌+◌}
use native.Mathlib.Decide.{ℕ_discrete}
use lib.ListN.{length}
use Rattle.basis.specs.Numbers.{whole}
use Rattle.basis.specs.Refusals.{accepted}
use Rattle.calculus.proofs.Computed.{answer}
use Rattle.calculus.specs.Rules.{Reply}
use Rattle.calculus.specs.Runs.{AnswersAll, Judge, Reached, plain}
use Rattle.calculus.specs.States.{Step}
use Rattle.calculus.proofs.Answers.{judged_by}
use Rattle.calculus.proofs.Runs.{admitted_reached, steps_keep_reached}
use Rattle.runfile.specs.Readers.{Got, got, bad}
use Rattle.runfile.specs.File.{File, file, opened}
use Rattle.runfile.specs.Claims.{Outcome}
use Rattle.runfile.proofs.Given.{every_file}
use Rattle.reaching.proofs.Handing.{decided}
use Rattle.listing.specs.Lines.{rule_name, accepted_line, refused_line}
use Rattle.listing.specs.Listing.{Beneath, Printed, TriedWith, bad_file, good_file, nothing, refused, through, went}
use Rattle.listing.specs.Claims.{BeneathAll, EveryFileListed, TriedAlike}

module _ (J : Judge) (all : AnswersAll J) (B : Beneath J) (beneath : BeneathAll J B) where
  tried : (xs : List Step) (o : J.Over) (n : ℕ) → Reached J o → (w : List ℕ) × (e : Reply J.Over) × TriedWith J B o n xs w e
  tried [] o n R = ([], record { number = accepted; place = 0; state = o }, through)
  tried (x ∷ xs) o n R = let (a, j) = all o R x in go a j (ℕ_discrete a.number accepted) (tried xs a.state (n + 1) (steps_keep_reached J o x a R j))
    where
      go : (a : Reply J.Over) → J.Gives o x a → Dec (a.number ≡ accepted) → ((w : List ℕ) × (e : Reply J.Over) × TriedWith J B a.state (n + 1) xs w e)
          → (w : List ℕ) × (e : Reply J.Over) × TriedWith J B o n (x ∷ xs) w e
      go a j (yes z) (w, e, t) = let (u, b) = beneath o R x a j z in (_, e, went a j z b t)
      go a j (no z) r = (_, a, refused a j z)

pub every_file_listed : EveryFileListed
every_file_listed J all B beneath after s = go (file s) refl (every_file s)
  where
    go : (g : Got File) → file s ≡ g → Outcome s g → (w : List ℕ) × Printed J B after s w
    go (got F next) f (sayable, _) = let (w, e, t) = tried J all B beneath F.steps (J.start (opened F)) _ (admitted_reached J (opened F) sayable.admitted) in (_, good_file F next e f t)
    go (bad number place) f r = (_, bad_file number place f)

-- A step has an answer, whatever the state.
pub answers_all : AnswersAll (plain whole)
answers_all s R x = let (b, d) = decided s x in (answer b s x, judged_by whole b s x d)

pub tried_alike : TriedAlike
unfolding flat_map
tried_alike J B o n xs w e through = ([], refl, through)
tried_alike J B o n (x ∷ xs) w e (refused a j z) =
    let line = refused_line n (rule_name x) a.number in
    ((line, []) ∷ [], sym (append-nil (line ++ []) ∙ append-nil line), subst (λ v. TriedWith J (nothing J) o n (x ∷ xs) v a) (sym (append-nil line)) (refused a j z))
tried_alike J B o n (x ∷ xs) w e (went {u = u} {w = v} a j z b t) =
    let (lines, is, r) = tried_alike J B a.state (n + 1) xs v e t in
    let line = accepted_line n (rule_name x) (length (J.state a.state).trail) (J.state a.state).level in
    ((line, u) ∷ lines, sym (append_assoc line u v) ∙ ap (λ (k : List ℕ). (line ++ u) ++ k) is, went a j z refl r)
