-- Levels count the decisions up to and including a literal, and a cut is just before decision i + 1.
use mathlib.Core.Path.{◌∙◌, ◌≡◌, ap, refl}
use mathlib.Core.Logic.{◌⊎◌, inl, inr}
use mathlib.Core.List.Memᴰ
use mathlib.Core.List.{Memᴰ, [], ◌++◌, ◌∷◌}
use mathlib.Core.Bool.{Bool, ◌||◌, false, not, true}
use Prim.Native.Nat.{◌<◌, ◌≤◌, zero}
use native.Mathlib.Omega.{arith}
use lib.Dec.{T, leb, leb→le, nleb→lt}
use Rattle.basis.specs.declared.Literal.{Literal}
use Rattle.lists.proofs.Denials.{not_or, not_or_in}
use Rattle.lists.proofs.Tests.{F→eq, Said, T→eq, fails, holds, said}
use Rattle.calculus.specs.Clauses.{complement, same_literal}
use Rattle.calculus.specs.Cuts.{CutBefore, CutJustBefore, IsLargestLevel, LargestLevel, LevelCounts, LevelShared}
use Rattle.calculus.specs.Trails.{Entry, Trail, background, cut, decided, decisions, foreground, is_decision, is_literal, largest_level, level_of, on_trail, propagated}
use Rattle.calculus.proofs.Merged.{same_literal_refl}
use Rattle.calculus.proofs.OnTrail.{complement_twice, not_on_in, not_on_out}

-- An entry that is neither the literal nor its complement does not tell its level.
level_later : (l : Literal) (e : Entry) (t : Trail) → T (not (is_literal l e || is_literal (complement l) e)) → level_of l (e ∷ t) ≡ level_of l t
level_later l e t h = rw (F→eq (is_literal l e || is_literal (complement l) e) h)

pub level_counts : LevelCounts
level_counts l o [] earlier u = rw (T→eq (same_literal l l) (same_literal_refl l))
level_counts l o (e ∷ later) earlier u =
    let a = not_on_in (e ∷ later) l u.not_it in
    let b = not_on_in (e ∷ later) (complement l) u.not_complement in
    let (p, q) = not_or (is_literal l e) (on_trail l later) a in
    let (r, w) = not_or (is_literal (complement l) e) (on_trail (complement l) later) b in
    level_later l e (later ++ (foreground l o ∷ earlier)) (not_or_in (is_literal l e) (is_literal (complement l) e) p r)
    ∙ level_counts l o later earlier (record { not_it = not_on_out later l q; not_complement = not_on_out later (complement l) w })

pub level_shared : LevelShared
level_shared l [] = refl
level_shared l (e ∷ t) = rw (complement_twice l, or_comm (is_literal (complement l) e) (is_literal l e), level_shared l t)
  where
    or_comm : (a b : Bool) → (a || b) ≡ (b || a)
    or_comm true true = refl
    or_comm true false = refl
    or_comm false true = refl
    or_comm false false = refl

pub largest_level_lem : LargestLevel
largest_level_lem t [] = record { at_most = λ m i. absurd (Memᴰ.not-nil i); reached = inl (refl, refl) }
largest_level_lem t (l ∷ D) = go (largest_level_lem t D) (said (leb (largest_level t D) (level_of l t)))
  where
    most : IsLargestLevel t D (largest_level t D) → (m : Literal) → (m ≡ l) ⊎ Memᴰ m D → level_of m t ≤ largest_level t (l ∷ D)
    most r m (inl e) = rw e (omega arith)
    most r m (inr h) = let k = r.at_most m h in omega arith

    reach : level_of l t < largest_level t D → ((D ≡ []) × (largest_level t D ≡ zero)) ⊎ ((m : Literal) × Memᴰ m D × (level_of m t ≡ largest_level t D)) →
        (m : Literal) × Memᴰ m (l ∷ D) × (level_of m t ≡ largest_level t (l ∷ D))
    reach h (inl (d, e)) = absurd (omega arith)
    reach h (inr (m, i, e)) = (m, Memᴰ.tail i, omega arith)

    go : IsLargestLevel t D (largest_level t D) → Said (leb (largest_level t D) (level_of l t)) → IsLargestLevel t (l ∷ D) (largest_level t (l ∷ D))
    go r (holds h) =
        let k = leb→le (largest_level t D) (level_of l t) h in
        record { at_most = λ m i. most r m (Memᴰ.cases_cons i); reached = inr (l, Memᴰ.head refl, omega arith) }
    go r (fails h) =
        let k = nleb→lt (largest_level t D) (level_of l t) h in
        record { at_most = λ m i. most r m (Memᴰ.cases_cons i); reached = inr (reach k r.reached) }

pub cut_just_before : CutJustBefore
cut_just_before i [] = record { gone = []; whole = refl; at_most = omega arith; just_before = inl refl }
cut_just_before i (e ∷ t) = go (said (leb (decisions (e ∷ t)) i)) (cut_just_before i t)
  where
    decision : (e : Entry) → i < decisions (e ∷ t) → decisions t ≤ i → T (is_decision e) × (decisions t ≡ i)
    decision (foreground l (propagated c n τ)) h k = absurd (omega arith)
    decision (foreground l (decided c n b τ q)) h k = (tt, omega arith)
    decision (background a o) h k = absurd (omega arith)

    more : i < decisions (e ∷ t) → (r : CutBefore i t (cut i t)) → CutBefore i (e ∷ t) (cut i t)
    more h r = record { gone = e ∷ r.gone; whole = ap (λ u. e ∷ u) r.whole; at_most = r.at_most; just_before = inr (first r.just_before) }
      where
        first : (r.gone ≡ []) ⊎ ((later : Trail) × (d : Entry) × (r.gone ≡ later ++ (d ∷ [])) × T (is_decision d) × (decisions (cut i t) ≡ i)) →
            (later : Trail) × (d : Entry) × (e ∷ r.gone ≡ later ++ (d ∷ [])) × T (is_decision d) × (decisions (cut i t) ≡ i)
        first (inl z) =
            let k : t ≡ cut i t = r.whole ∙ ap (λ u. u ++ cut i t) z in
            let (d, n) = decision e h (rw k r.at_most) in
            ([], e, ap (λ u. e ∷ u) z, d, rw (← k) n)
        first (inr (later, d, z, y, n)) = (e ∷ later, d, ap (λ u. e ∷ u) z, y, n)

    go : Said (leb (decisions (e ∷ t)) i) → CutBefore i t (cut i t) → CutBefore i (e ∷ t) (cut i (e ∷ t))
    go (holds h) r = rw (T→eq (leb (decisions (e ∷ t)) i) h) (record { gone = []; whole = refl; at_most = leb→le (decisions (e ∷ t)) i h; just_before = inl refl })
    go (fails h) r = rw (F→eq (leb (decisions (e ∷ t)) i) h) (more (nleb→lt (decisions (e ∷ t)) i h) r)
