-- What the answers of reading settle: the whole file's refusal, or its header and its steps, one after the other.
use mathlib.Core.Path.{◌∙◌, ◌≡◌, ap, refl, sym}
use mathlib.Core.List.{List, [], ◌∷◌, Memᴰ}
use Prim.Native.Nat.{ℕ, ◌<◌, ◌≤◌}
use native.Mathlib.Decide.{dec_le}
use native.Mathlib.Omega.{arith}
use lib.ListN.{length}
use borrow.Author.Tests.{le-leb}
use Rattle.basis.specs.Refusals.{too_long}
use Rattle.basis.specs.Versions.{form_of}
use Rattle.basis.specs.declared.Form.{Form}
use Rattle.calculus.specs.States as calculus
use Rattle.runfile.specs.Claims.{StepHeld, Sayable, Outcome}
use Rattle.runfile.specs.File as runfile
use Rattle.runfile.specs.File.{File, end, file, header, most_file, step, whole_file}
use Rattle.runfile.specs.Readers.{Got, bad, got, onward, times}
use Rattle.runfile.proofs.Given.{every_file, no_value}
use Rattle.runfile.proofs.Short.{long_files_refused}
use Rattle.runfile.proofs.Times.{times_front, times_length}
use Rattle.header.specs.Records.{input_of, kept, packed_header}
use Rattle.header.specs.declared.Header.{Header}
use Rattle.asking.specs.Steps.{step_of}
use Rattle.steps.specs.Records.{file_answer, in_order, packed_step, passed_over, step_there}
use Rattle.steps.proofs.Said.{step_said}

-- ---- as the code goes about it

-- The file of this header and these steps
abbrev saying : runfile.Header → List calculus.Step → File
saying h xs = record { version = h.version; constants = h.constants; arities = h.arities; input = h.input; steps = xs }

module _ (s : List ℕ) where
  -- "22, before all others, a file above 65,536 bytes"; what else is to be said of a file is said of one that is not.
  file_whole : length s ≤ most_file → file s ≡ whole_file s 0
  unfolding file
  file_whole h = rw (le-leb (length s) most_file h)

  pub file_long : most_file < length s → bad too_long most_file ≡ file_answer s
  file_long h = rw (long_files_refused s h)

  -- The steps are passed over and the end is tried before the header is handed on.
  abbrev pub read_on : Got Header → Got Header
  read_on g = onward g (λ H i. onward (passed_over H.steps (form_of H.version) s i) (λ _ j. onward (end s j) (λ _ k. got H i)))

  pub file_read : length s ≤ most_file → file_answer s ≡ read_on (kept (header s 0))
  unfolding whole_file
  file_read short = rw (file_whole short) (by (header s 0))
    where
      last : (F : File) (H : Header) (i : ℕ) (g : Got (Unit {0})) → in_order (onward g (λ _ k. got F k)) (got H i) ≡ onward g (λ _ k. got H i)
      last F H i (got u k) = refl
      last F H i (bad n p) = refl

      steps : (F : List calculus.Step → File) (H : Header) (i : ℕ) (g : Got (List calculus.Step))
          → in_order (onward g (λ xs j. onward (end s j) (λ _ k. got (F xs) k))) (got H i) ≡ onward (onward g (λ _ j. got (tt {0}) j)) (λ _ j. onward (end s j) (λ _ k. got H i))
      steps F H i (got xs j) = last (F xs) H i (end s j)
      steps F H i (bad n p) = refl

      by : (g : Got runfile.Header)
          → in_order (onward g (λ h i. onward (times h.count (step (form_of h.version)) s i) (λ xs j. onward (end s j) (λ _ k. got (saying h xs) k)))) (kept g) ≡ read_on (kept g)
      by (got h i) = steps (saying h) (packed_header h) i (times h.count (step (form_of h.version)) s i)
      by (bad n p) = refl

-- ---- what is settled

-- The header of the file F, as it is kept
abbrev pub header_of : File → Header
header_of F = packed_header (record { version = F.version; constants = F.constants; arities = F.arities; input = F.input; count = length F.steps })

-- From the place i on the steps zs are read, each of them one that a file of this form can hold.
pub record Ahead (s : List ℕ) (f : Form) (i : ℕ) (zs : List calculus.Step) : Type 0 where
  pub last : ℕ
  pub reads : times (length zs) (step f) s i ≡ got zs last
  pub held : (x : calculus.Step) → Memᴰ x zs → StepHeld f.brings x

-- The file s is in order: it says F, and from the place of its first step on its steps are read.
pub record Reads (s : List ℕ) (h : Header) (first : ℕ) : Type 0 where
  pub says : File
  pub next : ℕ
  pub is : file s ≡ got says next
  pub head : h ≡ header_of says
  pub input : input_of (header s 0) ≡ says.input
  pub sayable : Sayable says
  pub ahead : Ahead s (form_of says.version) first says.steps

-- The steps of a header's file, as its version has them
abbrev steps_from : runfile.Header → List ℕ → ℕ → Got (List calculus.Step)
steps_from h s i = times h.count (step (form_of h.version)) s i

-- The file is read to its end, or refused on the way or for its length.
data Taken (s : List ℕ) : Type 0 where
  read : (h : runfile.Header) (i : ℕ) (xs : List calculus.Step) (j next : ℕ) → header s 0 ≡ got h i → steps_from h s i ≡ got xs j → file s ≡ got (saying h xs) next → Taken s
  refused : (n p : ℕ) → file s ≡ bad n p → Taken s

taken : (s : List ℕ) → Taken s
unfolding whole_file
taken s = elim (dec_le (length s) most_file) [
  | yes short ↦ from short (header s 0) refl
  | no long ↦ refused too_long most_file (long_files_refused s (omega arith))
]
  where
    last : length s ≤ most_file → (h : runfile.Header) (i : ℕ) (xs : List calculus.Step) (j : ℕ) → header s 0 ≡ got h i → steps_from h s i ≡ got xs j → (g : Got (Unit {0})) → end s j ≡ g → Taken s
    last short h i xs j e q (got u k) r = read h i xs j k e q (rw (file_whole s short, e, q, r))
    last short h i xs j e q (bad n p) r = refused n p (rw (file_whole s short, e, q, r))

    on : length s ≤ most_file → (h : runfile.Header) (i : ℕ) → header s 0 ≡ got h i → (g : Got (List calculus.Step)) → steps_from h s i ≡ g → Taken s
    on short h i e (got xs j) q = last short h i xs j e q (end s j) refl
    on short h i e (bad n p) q = refused n p (rw (file_whole s short, e, q))

    from : length s ≤ most_file → (g : Got runfile.Header) → header s 0 ≡ g → Taken s
    from short (got h i) e = on short h i e (steps_from h s i) refl
    from short (bad n p) e = refused n p (rw (file_whole s short, e))

module _ (s : List ℕ) where
  sayable : (F : File) (next : ℕ) → file s ≡ got F next → Sayable F
  sayable F next e = by (file s) e (every_file s)
    where
      by : (g : Got File) → g ≡ got F next → Outcome s g → Sayable F
      by g q o = (rw q at o).0

  -- Where reading the file ends in a refusal, the file is refused so.
  pub refused_file : (n p : ℕ) → bad n p ≡ file_answer s → file s ≡ bad n p
  refused_file n p e = by (taken s)
    where
      by : Taken s → file s ≡ bad n p
      by (read k i xs j next a b c) = no_value (rw (c, a) at e)
      by (refused m r c) = let w : ◌≡◌ {A = Got Header} (bad n p) (bad m r) = rw c at e in let v : n ≡ m = cc in let u : p ≡ r = cc in c ∙ (λ z. bad (sym v z) (sym u z))

  -- Where it ends in a header, the file is in order, and its first step stands at the place beside it.
  pub file_reads : (h : Header) (first : ℕ) → got h first ≡ file_answer s → Reads s h first
  file_reads h first e = by (taken s)
    where
      by : Taken s → Reads s h first
      by (read k i xs j next a b c) =
          let z : got h first ≡ got (packed_header k) i = rw (c, a) at e in
          let v : h ≡ packed_header k = cc in
          let w : i ≡ first = cc in
          let n : length xs ≡ k.count = times_length (step (form_of k.version)) s k.count i xs j b in
          record {
            says = saying k xs;
            next = next;
            is = c;
            head = rw (sym n) at v;
            input = ap input_of a;
            sayable = sayable (saying k xs) next c;
            ahead = record { last = j; reads = rw (sym n, w) at b; held = (sayable (saying k xs) next c).steps_held };
          }
      by (refused m r c) = no_value (sym (rw c at e))

-- The first of the steps zs is read at the place i, and the others from next on.
pub record Stepping (s : List ℕ) (f : Form) (i : ℕ) (zs : List calculus.Step) : Type 0 where
  pub step_is : calculus.Step
  pub others : List calculus.Step
  pub next : ℕ
  pub all : zs ≡ step_is ∷ others
  pub reads : step f s i ≡ got step_is next
  pub says : step_of (step_there (step f s i)) ≡ step_is
  pub ahead : Ahead s f next others

pub step_ahead : (s : List ℕ) (f : Form) (i : ℕ) (zs : List calculus.Step) → Ahead s f i zs → 0 < length zs → Stepping s f i zs
step_ahead s f i [] a h = absurd (omega arith)
step_ahead s f i (x ∷ zs) a h =
    let t = times_front (step f) s (length zs) i (x ∷ zs) a.last a.reads in
    let q : x ≡ t.value = cc in
    let w : zs ≡ t.others = cc in
    record {
      step_is = x;
      others = zs;
      next = t.place;
      all = refl;
      reads = t.first ∙ ap (λ (y : calculus.Step). got y t.place) (sym q);
      says = ap (λ (g : Got calculus.Step). step_of (step_there g)) t.first ∙ ap (λ (y : calculus.Step). step_of (packed_step y)) (sym q) ∙ step_said f.brings x (a.held x (Memᴰ.head refl));
      ahead = record { last = a.last; reads = t.rest ∙ ap (λ (l : List calculus.Step). got l a.last) (sym w); held = λ y m. a.held y (Memᴰ.tail m) };
    }
