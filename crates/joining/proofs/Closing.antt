-- The limits, counted on what closing up gives.
use mathlib.Core.Path.{◌≡◌, refl, sym, ◌∙◌, ap, ap₂}
use mathlib.Core.List.{List, map}
use mathlib.Core.Bool.{Bool, true, false, ◌&&◌}
use Prim.Native.Nat.{ℕ, ◌≤◌, ◌<◌}
use native.Mathlib.Omega.{arith}
use lib.Dec.{leb}
use lib.ListN.{length, length-map}
use borrow.Author.Tests.{le-leb, lt-leb}
use Rattle.std.proofs.Common.{Option, Some, None}
use Rattle.basis.specs.declared.Atom.{Atom}
use Rattle.basis.specs.declared.Literal.{Literal}
use Rattle.basis.specs.Limits.{most_variables, most_atoms, most_literals}
use Rattle.basis.specs.Atoms.{no_atom}
use Rattle.lists.specs.Lists.{up_from, keep_if}
use Rattle.lists.specs.Arrays.{exactly}
use Rattle.calculus.specs.Clauses.{no_literal, rename_atom, rename_literal, under}
use Rattle.calculus.specs.Merging.{occurs_in, close_up}
use Rattle.calculus.specs.Class.{within_limits}
use Rattle.clauses.specs.declared.Instanced.{Instanced}
use Rattle.clauses.specs.Records.{packed_instanced}
use Rattle.joining.specs.Scratch.{closed}
use Rattle.joining.specs.Fitted.{fitted}

module _ (v : ℕ) (az : List Atom) (ls : List Literal) (t : List ℕ) where
  abbrev kept : List ℕ
  kept = keep_if (occurs_in az ls) (up_from 1 v)

  pub close_limits : within_limits (close_up v az ls t).clause ≡ (leb (length (keep_if (occurs_in az ls) (up_from 1 v))) most_variables && (leb (length az) most_atoms && leb (length ls) most_literals))
  unfolding close_up
  close_limits = ap₂ (λ (n m : ℕ). leb (length kept) most_variables && (leb n most_atoms && leb m most_literals)) (length-map az (rename_atom (closed kept))) (length-map ls (rename_literal (closed kept)))

  refused : within_limits (close_up v az ls t).clause ≡ false → None ≡ fitted (close_up v az ls t)
  unfolding fitted
  refused e = sym (rw e)

  pub close_no_variables : most_variables < length (keep_if (occurs_in az ls) (up_from 1 v)) → None ≡ fitted (close_up v az ls t)
  close_no_variables h = refused (close_limits ∙ rw (lt-leb (length kept) most_variables h))

  pub close_no_atoms : most_atoms < length az → None ≡ fitted (close_up v az ls t)
  close_no_atoms h = refused (close_limits ∙ rw (lt-leb (length az) most_atoms h) (go (leb (length kept) most_variables)))
    where
      go : (a : Bool) → (a && false) ≡ false
      go true = refl
      go false = refl

  pub close_no_literals : most_literals < length ls → None ≡ fitted (close_up v az ls t)
  close_no_literals h = refused (close_limits ∙ rw (lt-leb (length ls) most_literals h) (go (leb (length kept) most_variables) (leb (length az) most_atoms)))
    where
      go : (a b : Bool) → (a && (b && false)) ≡ false
      go true true = refl
      go true false = refl
      go false b = refl

  pub close_fits : length (keep_if (occurs_in az ls) (up_from 1 v)) ≤ most_variables → length az ≤ most_atoms → length ls ≤ most_literals →
      fitted (close_up v az ls t) ≡ Some (packed_instanced (close_up v az ls t))
  unfolding fitted
  close_fits hv ha hl =
      let e : within_limits (close_up v az ls t).clause ≡ true = close_limits ∙ rw (le-leb (length kept) most_variables hv, le-leb (length az) most_atoms ha, le-leb (length ls) most_literals hl) in
      rw e

  -- The parts that the code makes are those of the record.
  pub close_is : {ks : List ℕ} {atoms : List Atom} {literals : List Literal} {instance : List ℕ} →
      ks ≡ keep_if (occurs_in az ls) (up_from 1 v) → length ks ≤ most_variables → length az ≤ most_atoms → length ls ≤ most_literals →
      atoms ≡ exactly most_atoms no_atom (map (rename_atom (closed ks)) az) →
      literals ≡ exactly most_literals no_literal (map (rename_literal (closed ks)) ls) →
      instance ≡ exactly most_variables 0 (map (under t) ks) →
      ◌≡◌ {A = Option Instanced}
      (Some (record { clause = record { variables = length ks; atomcount = length az; literalcount = length ls; atoms = atoms; literals = literals }; instance = instance }))
      (fitted (close_up v az ls t))
  unfolding close_up
  close_is {ks} {atoms} {literals} {instance} ek hk hn hm ea el ei =
      let count : length ks ≡ length kept = ap length ek in
      let ea' = ea ∙ ap (λ (l : List ℕ). exactly most_atoms no_atom (map (rename_atom (closed l)) az)) ek in
      let el' = el ∙ ap (λ (l : List ℕ). exactly most_literals no_literal (map (rename_literal (closed l)) ls)) ek in
      let ei' = ei ∙ ap (λ (l : List ℕ). exactly most_variables 0 (map (under t) l)) ek in
      let en' = sym (length-map az (rename_atom (closed kept))) in
      let em' = sym (length-map ls (rename_literal (closed kept))) in
      (λ i. Some (record { clause = record { variables = count i; atomcount = en' i; literalcount = em' i; atoms = ea' i; literals = el' i }; instance = ei' i }))
      ∙ sym (close_fits (omega arith) hn hm)
