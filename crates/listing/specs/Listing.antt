-- The listing of a file: the lines of the steps tried, one after the other, and the last line.
use Rattle.std.specs.Prelude.{◌≡◌, List, [], ◌∷◌, ◌++◌, ℕ, ◌+◌, ◌*◌, length}
use Rattle.basis.specs.Numbers.{whole}
use Rattle.basis.specs.Refusals.{accepted}
use Rattle.calculus.specs.Rules.{Answer, Reply}
use Rattle.calculus.specs.Runs.{Judge, plain, stated}
use Rattle.calculus.specs.States.{Step}
use Rattle.runfile.specs.Readers.{got, bad}
use Rattle.runfile.specs.File.{File, file, most_steps, opened}
use Rattle.listing.specs.Lines.{rule_name, accepted_line, refused_line, last_line, bad_line, most_line, most_last}

-- What may stand beneath the line of an accepted step: of the place where it was tried, the step, and the text
abbrev pub Beneath : Judge → Type 1
Beneath J = J.Over → Step → List ℕ → Type 0

-- In a listing nothing does.
abbrev pub nothing : (J : Judge) → Beneath J
nothing J o x u = u ≡ []

-- The steps tried from a place on, the first of them with the number n, the judge J answering: their lines, B beneath those of the accepted
-- ones, and the answer to the last of them. "It stops at a refused step."
pub data TriedWith (J : Judge) (B : Beneath J) : J.Over → (n : ℕ) → List Step → List ℕ → Reply J.Over → Type 0 where
  through : {o : J.Over} {n : ℕ} → TriedWith J B o n [] [] (record { number = accepted; place = 0; state = o })
  refused : {o : J.Over} {n : ℕ} {x : Step} {xs : List Step} (a : Reply J.Over) → J.Gives o x a → ¬ (a.number ≡ accepted)
      → TriedWith J B o n (x ∷ xs) (refused_line n (rule_name x) a.number) a
  went : {o : J.Over} {n : ℕ} {x : Step} {xs : List Step} {u w : List ℕ} {e : Reply J.Over} (a : Reply J.Over) → J.Gives o x a → a.number ≡ accepted → B o x u
      → TriedWith J B a.state (n + 1) xs w e → TriedWith J B o n (x ∷ xs) (accepted_line n (rule_name x) (length (J.state a.state).trail) (J.state a.state).level ++ (u ++ w)) e

-- .. as a listing has them
abbrev pub Tried : (J : Judge) → J.Over → (n : ℕ) → List Step → List ℕ → Reply J.Over → Type 0
Tried J = TriedWith J (nothing J)

-- What is printed of a file: the lines of its steps, B beneath them, and what comes after them, or its refusal. Nothing is tried of a bad file.
pub data Printed (J : Judge) (B : Beneath J) (after : Answer → List ℕ) (s : List ℕ) : List ℕ → Type 0 where
  bad_file : (number place : ℕ) → file s ≡ bad number place → Printed J B after s (bad_line number place)
  good_file : (F : File) (next : ℕ) {w : List ℕ} (e : Reply J.Over) → file s ≡ got F next → TriedWith J B (J.start (opened F)) 1 F.steps w e
      → Printed J B after s (w ++ after (stated J e))

-- The listing, by the rules over the whole numbers: the last line comes after the steps' lines.
abbrev pub Listing : (file text : List ℕ) → Type 0
Listing s w = Printed (plain whole) (nothing (plain whole)) last_line s w

-- How judging a file ends: the number and place of the answer to the last step tried, which are 0 where it was accepted; of a bad file those
-- of its refusal.
pub data Ends (J : Judge) (s : List ℕ) : (number place : ℕ) → Type 0 where
  with_file : (number place : ℕ) → file s ≡ bad number place → Ends J s number place
  with_step : (F : File) (next : ℕ) {w : List ℕ} (e : Reply J.Over) → file s ≡ got F next → Tried J (J.start (opened F)) 1 F.steps w e
      → Ends J s e.number e.place

-- No listing is longer than its steps' lines, each as long as a line can be, and the last line.
abbrev pub most_listing : ℕ
most_listing = most_steps * most_line + most_last
