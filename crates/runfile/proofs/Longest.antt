-- A good file of the greatest length: 163 Decides, each with a full instance and 24 atoms with full instances. With a byte more it is too long.
use mathlib.Core.Path.{◌∙◌, ◌≡◌, ap, refl, subst, sym}
use mathlib.Core.List.Memᴰ
use mathlib.Core.List.{List, Memᴰ, [], ◌++◌, ◌∷◌}
use Prim.Native.Nat.{◌+◌, ◌*◌, suc, zero, ℕ}
use native.Mathlib.Omega.{arith}
use lib.ListN.{length, length-append, length-replicate, replicate}
use lib.Seq.{take_at}
use Rattle.basis.specs.Limits.{most_brought, most_variables}
use Rattle.basis.specs.Versions.{form_of}
use Rattle.basis.specs.declared.Version.TheVariants.{Two}
use Rattle.calculus.specs.States.{Decide, Step}
use Rattle.calculus.specs.Trails.{Source}
use Rattle.runfile.specs.Claims.{FewerDoNot, LongestFile, Outcome, Sayable}
use Rattle.runfile.specs.File.{File, file, most_file}
use Rattle.runfile.specs.Readers.{got}
use Rattle.runfile.specs.Written.{header_with, joined, written, written_sources, written_step}
use Rattle.runfile.proofs.Back.{read_back}
use Rattle.runfile.proofs.Given.{every_file, no_value}
use Rattle.runfile.proofs.Short.{long_files_refused}

abbrev full_instance : List ℕ
full_instance = replicate most_variables 1

abbrev full_source : Source
full_source = record { clause = 1; number = 1; sign = 1; instance = full_instance }

-- 402 bytes: the rule number, clause, literal, sign and instance, and a count and 24 atoms of 16 bytes
abbrev full_step : Step
full_step = Decide 1 1 1 full_instance (replicate most_brought full_source)

-- 10 bytes and 163 times 402
abbrev steps : ℕ
steps = 163

abbrev deciding : List Step → File
deciding xs = record { version = Two; constants = 0; arities = []; input = []; steps = xs }

abbrev full_file : File
full_file = deciding (replicate steps full_step)

-- ---- what is so in it

module _ {A : Type 0} where
  same_member : (n : ℕ) (x : A) {y : A} → Memᴰ y (replicate n x) → y ≡ x
  same_member zero x m = absurd (Memᴰ.not-nil m)
  same_member (suc n) x (Memᴰ.head e) = e
  same_member (suc n) x (Memᴰ.tail m) = same_member n x m

  length_joined : (w : A → List ℕ) (n : ℕ) (x : A) → length (joined w (replicate n x)) ≡ n * length (w x)
  length_joined w zero x = omega arith
  length_joined w (suc n) x = length-append (w x) (joined w (replicate n x)) ∙ omega (arith, length_joined w n x)

full_sayable : Sayable full_file
full_sayable = record {
  admitted = record {
    few_constants = omega arith;
    few_predicates = omega arith;
    small_arities = λ n m. absurd (Memᴰ.not-nil m);
    few_clauses = omega arith;
    in_class = λ C m. absurd (Memᴰ.not-nil m);
    limited = λ C m. absurd (Memᴰ.not-nil m);
    new = refl;
  };
  few_steps = omega (arith, length-replicate steps full_step);
  steps_held = λ x m. rw (same_member steps full_step m) (
    omega arith,
    omega arith,
    record {
      few = omega (arith, length-replicate most_brought full_source);
      signs = λ z k. rw (same_member most_brought full_source k) (omega arith);
      instances = λ z k. rw (same_member most_brought full_source k) (omega arith);
    },
  );
}

-- ---- how long it is

length_step : length (written_step (form_of Two) full_step) ≡ 402
unfolding written_step written_sources
length_step = refl

length_written : (xs : List Step) → length (written (deciding xs)) ≡ 10 + length (joined (written_step (form_of Two)) xs)
unfolding header_with
length_written xs = simp length-append (omega arith)

full_length : length (written full_file) ≡ most_file
full_length = length_written (replicate steps full_step) ∙ omega (arith, length_joined (written_step (form_of Two)) steps full_step, length_step)

-- ---- the theorems

pub longest_file : LongestFile
longest_file = (written full_file, full_file, refl, read_back full_file full_sayable (omega (arith, full_length)) ∙ ap (got full_file) full_length)

pub fewer_do_not : FewerDoNot
fewer_do_not alike =
    let (s, F, v, e) = longest_file in
    let whole : length s ≡ most_file = sym (subst (Outcome s) e (every_file s)).1 in
    let more = s ++ (0 ∷ []) in
    let good : file more ≡ got F most_file = sym (alike more) ∙ ap file (take_at s (0 ∷ []) most_file whole) ∙ e in
    no_value (sym (long_files_refused more (omega (arith, whole, length-append s (0 ∷ [])))) ∙ good)
