-- Writing a run file: the bytes of a header, its clauses and its steps, in the order in which they are read.
use Rattle.std.specs.Prelude.{List, [], ◌∷◌, ◌++◌, cond, ℕ, zero, suc, ◌-◌, ◌/◌, ◌%◌, leb, ℤ, pos, negsuc, length, take}
use Rattle.basis.specs.declared.Atom.{Atom}
use Rattle.basis.specs.Versions.{form_of, version_number}
use Rattle.basis.specs.declared.Form.{Form}
use Rattle.basis.specs.declared.Literal.{Literal}
use Rattle.calculus.specs.Clauses.{arguments, Clause}
use Rattle.calculus.specs.Class.{arity_of}
use Rattle.calculus.specs.States.{Step, Propagate, Decide, Conflict, Resolve, Factorize, Skip, Backtrack, Grow, Unknown}
use Rattle.calculus.specs.Trails.{Source}
use Rattle.runfile.specs.File.{letters, File}

-- A number as n bytes, "little-endian"
abbrev pub bytes_of : ℕ → ℕ → List ℕ
bytes_of zero w = []
bytes_of (suc n) w = w % 256 ∷ bytes_of n (w / 256)

-- A signed 32-bit number as two's complement
abbrev pub unsigned : ℤ → ℕ
unsigned (pos n) = n
unsigned (negsuc n) = 4294967295 - n

-- What is written for each member of a list, one after the other
abbrev pub joined : {A : Type 0} → (A → List ℕ) → List A → List ℕ
joined w [] = []
joined w (x ∷ xs) = w x ++ joined w xs

abbrev pub written_atom : Atom → List ℕ
written_atom a = a.p ∷ a.q ∷ bytes_of 4 (unsigned a.c)

-- The kth of n arguments; nothing past the last
abbrev pub written_argument : ℕ → ℕ → ℕ → List ℕ
written_argument n k x = cond (leb k n) (x ∷ []) []

abbrev pub written_literal : List ℕ → Literal → List ℕ
written_literal arities l = cond l.positive 1 0 ∷ l.predicate ∷ take (arity_of arities l.predicate) (arguments l)

unfoldable pub written_clause : List ℕ → Clause → List ℕ
written_clause arities C = C.variables ∷ length C.atoms ∷ length C.literals ∷ joined written_atom C.atoms ++ joined (written_literal arities) C.literals

abbrev pub written_instance : List ℕ → List ℕ
written_instance τ = length τ ∷ τ

abbrev pub written_source : Source → List ℕ
written_source z = z.clause ∷ z.number ∷ z.sign ∷ written_instance z.instance

-- The atoms that a Decide brings, which no file of version 1 has
unfoldable pub written_sources : Form → List Source → List ℕ
written_sources f zs = cond f.brings (length zs ∷ joined written_source zs) []

unfoldable pub written_step : Form → Step → List ℕ
written_step f (Propagate c l τ) = 1 ∷ c ∷ l ∷ written_instance τ
written_step f (Decide c l sign τ zs) = 2 ∷ c ∷ l ∷ sign ∷ written_instance τ ++ written_sources f zs
written_step f (Conflict c τ) = 3 ∷ c ∷ written_instance τ
written_step f (Resolve l) = 4 ∷ l ∷ []
written_step f (Factorize l m) = 5 ∷ l ∷ m ∷ []
written_step f Skip = 6 ∷ []
written_step f (Backtrack l) = 7 ∷ l ∷ []
written_step f (Grow n) = 8 ∷ n ∷ []
written_step f (Unknown rule) = rule ∷ []

-- What stands before the first step of the file F, but with n input clauses whose bytes are w
unfoldable pub header_with : File → (n : ℕ) (w : List ℕ) → List ℕ
header_with F n w = letters ++ bytes_of 2 (version_number F.version) ++ (F.constants ∷ length F.arities ∷ F.arities ++ (n ∷ w ++ bytes_of 2 (length F.steps)))

abbrev pub written_with : File → (n : ℕ) (w : List ℕ) → List ℕ
written_with F n w = header_with F n w ++ joined (written_step (form_of F.version)) F.steps

abbrev pub written_header : File → List ℕ
written_header F = header_with F (length F.input) (joined (written_clause F.arities) F.input)

abbrev pub written : File → List ℕ
written F = written_with F (length F.input) (joined (written_clause F.arities) F.input)
