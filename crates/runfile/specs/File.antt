-- The run file, from its first byte to its last. The paper's section "The run file", with refusals 1 to 8 and 22 and their places.
use Rattle.std.specs.Prelude.{List, [], ◌∷◌, ◌&&◌, cond, ℕ, zero, ◌+◌, ◌*◌, ◌-◌, ℤ, pos, negsuc, neg_ℤ, eqb, leb, ltb, length}
use Rattle.std.specs.Int.Signed.{le_z}
use Rattle.basis.specs.declared.Atom.{Atom}
use Rattle.basis.specs.declared.Literal.{Literal}
use Rattle.basis.specs.Limits.{most_variables, most_atoms, most_brought, most_literals, most_input, most_predicates, most_arguments, most_constants, most_c}
use Rattle.basis.specs.Refusals.{wrong_mark, above_limit, out_of_range, occurs_nowhere, lacks_bound, unknown_rule, surplus, too_long}
use Rattle.basis.specs.Versions.{form_of}
use Rattle.basis.specs.declared.Form.{Form}
use Rattle.basis.specs.declared.Version.{Version}
use Rattle.basis.specs.declared.Version.TheVariants.{One, Two}
use Rattle.lists.specs.Lists.{up_from, all_of, same_list}
use Rattle.calculus.specs.Checks.{between, Check, ◌or◌}
use Rattle.calculus.specs.Clauses.{Clause}
use Rattle.calculus.specs.Merging.{occurs_in}
use Rattle.calculus.specs.Class.{arity_of, differences_bounded}
use Rattle.calculus.specs.Admission.{fresh}
use Rattle.calculus.specs.States.{State, Step, Propagate, Decide, Conflict, Resolve, Factorize, Skip, Backtrack, Grow}
use Rattle.calculus.specs.Trails.{Source}
use Rattle.runfile.specs.Readers.{Got, got, bad, Reader, ◌then◌, give, ◌judged◌, field, times}

-- ---- numbers

-- "Little-endian."
abbrev pub little_endian : List ℕ → ℕ
little_endian [] = zero
little_endian (b ∷ bs) = b + 256 * little_endian bs

-- The number of a field of n bytes
abbrev pub number : ℕ → Reader ℕ
number n = field n then λ b. give (little_endian b)

-- "Other numbers are one byte."
abbrev pub byte : Reader ℕ
byte = number 1

-- "3: a count or arity above its limit"
abbrev pub count : ℕ → Reader ℕ
count most = byte judged λ n. leb n most or above_limit ∷ []

-- "4: a clause number, sign or constant c out of its range": for a number of one byte
abbrev pub within : ℕ → ℕ → Reader ℕ
within least most = byte judged λ n. between least most n or out_of_range ∷ []

-- ---- clauses

-- "c is a signed 32-bit number": its four bytes as two's complement
abbrev pub signed_of : ℕ → ℤ
signed_of w = cond (ltb w 2147483648) (pos w) (negsuc (4294967295 - w))

-- ".. from −1,000,000 to 1,000,000"
abbrev pub constant : Reader ℤ
constant = (number 4 then λ w. give (signed_of w)) judged λ c. (le_z (neg_ℤ (pos most_c)) c && le_z c (pos most_c)) or out_of_range ∷ []

-- "For both places 0 the field is q."
abbrev pub second : ℕ → ℕ → Reader ℕ
second v p = byte judged λ q. (leb q v && leb 1 (p + q)) or out_of_range ∷ []

-- "The atoms (p, q one byte each, c four bytes)", of a clause with v variables
unfoldable pub atom : ℕ → Reader Atom
atom v =
    within 0 v then λ p.
    second v p then λ q.
    constant then λ c.
    give (record { p = p; q = q; c = c })

-- The kth argument of a literal with n of them; 0 past the last
abbrev pub argument : ℕ → ℕ → ℕ → Reader ℕ
argument v n k = cond (leb k n) (within 1 v) (give zero)

-- "The literals (sign 0 negative or 1 positive, predicate, arguments)"
unfoldable pub literal : List ℕ → ℕ → Reader Literal
literal arities v =
    within 0 1 then λ sign.
    within 1 (length arities) then λ r.
    argument v (arity_of arities r) 1 then λ x.
    argument v (arity_of arities r) 2 then λ y.
    argument v (arity_of arities r) 3 then λ z.
    give (record { positive = eqb sign 1; predicate = r; x = x; y = y; z = z })

-- "A clause's 5 then 6 at its end"
abbrev pub class_checks : Clause → List Check
class_checks C = all_of (occurs_in C.atoms C.literals) (up_from 1 C.variables) or occurs_nowhere ∷ differences_bounded C.atoms or lacks_bound ∷ []

-- "Input clauses, then each: variables, atoms, literals, the atoms .., the literals"
abbrev pub clause_fields : List ℕ → Reader Clause
clause_fields arities =
    count most_variables then λ v.
    count most_atoms then λ n.
    count most_literals then λ m.
    times n (atom v) then λ az.
    times m (literal arities v) then λ ls.
    give (record { variables = v; atoms = az; literals = ls })

unfoldable pub clause : List ℕ → Reader Clause
clause arities = clause_fields arities judged class_checks

-- ---- steps

-- "An instance as a count (at most 12) and constants"
abbrev pub instance : Reader (List ℕ)
instance = count most_variables then λ n. times n byte

-- "Each as clause, atom number, sign (1 as it stands, 0 denied), instance"
unfoldable pub source : Reader Source
source = byte then λ c. byte then λ n. within 0 1 then λ sign. instance then λ τ. give (record { clause = c; number = n; sign = sign; instance = τ })

-- "File version 2: a Decide step ends with a count (at most 24) of atoms." "Version 1 decisions bring none."
unfoldable pub sources : Form → Reader (List Source)
sources f = cond f.brings (count most_brought then λ n. times n source) (give [])

-- The arguments of a rule "in the order above", as the file's version has them
unfoldable pub ruled : Form → ℕ → Reader Step
ruled f r =
    cond (eqb r 1) (byte then λ c. byte then λ l. instance then λ τ. give (Propagate c l τ))
    (cond (eqb r 2) (byte then λ c. byte then λ l. within 0 1 then λ sign. instance then λ τ. sources f then λ zs. give (Decide c l sign τ zs))
    (cond (eqb r 3) (byte then λ c. instance then λ τ. give (Conflict c τ))
    (cond (eqb r 4) (byte then λ l. give (Resolve l))
    (cond (eqb r 5) (byte then λ l. byte then λ m. give (Factorize l m))
    (cond (eqb r 6) (give Skip)
    (cond (eqb r 7) (byte then λ l. give (Backtrack l))
    (byte then λ n. give (Grow n))))))))

-- "7: unknown rule"
abbrev pub rule : Reader ℕ
rule = byte judged λ n. between 1 8 n or unknown_rule ∷ []

-- "Each step: rule number and its arguments"
unfoldable pub step : Form → Reader Step
step f = rule then ruled f

-- ---- the file

-- "The three letters DRF"
abbrev pub letters : List ℕ
letters = 68 ∷ 82 ∷ 70 ∷ []

-- "2: mark or version wrong"
abbrev pub mark : Reader (List ℕ)
mark = field 3 judged λ b. same_list b letters or wrong_mark ∷ []

-- "Version 1 (16 bits)", "File version 2"
abbrev pub version_of : ℕ → Version
version_of n = cond (eqb n 2) Two One

abbrev pub version : Reader Version
version = (number 2 judged λ n. between 1 2 n or wrong_mark ∷ []) then λ n. give (version_of n)

-- "The number of steps (16 bits, at most 2,000)"
abbrev pub most_steps : ℕ
most_steps = 2000

abbrev pub step_count : Reader ℕ
step_count = number 2 judged λ n. leb n most_steps or above_limit ∷ []

-- What stands before the first step, the number of steps included
pub record Header : Type 0 where
  pub version : Version
  pub constants : ℕ
  pub arities : List ℕ
  pub input : List Clause
  pub count : ℕ

-- m input clauses, "Then the number of steps"
abbrev pub from_clauses : (version : Version) (constants : ℕ) (arities : List ℕ) (m : ℕ) → Reader Header
from_clauses version constants arities m =
    times m (clause arities) then λ cs.
    step_count then λ t.
    give (record { version = version; constants = constants; arities = arities; input = cs; count = t })

-- "The three letters DRF, version 1 (16 bits); constants; predicates and an arity each; input clauses .."
unfoldable pub header : Reader Header
header =
    mark then λ _.
    version then λ v.
    count most_constants then λ constants.
    count most_predicates then λ n.
    times n (count most_arguments) then λ arities.
    count most_input then λ m.
    from_clauses v constants arities m

-- "8: bytes after the last step"
abbrev pub end : Reader Unit
end s i = cond (leb (length s) i) (got tt i) (bad surplus i)

pub record File : Type 0 where
  pub version : Version
  pub constants : ℕ
  pub arities : List ℕ
  pub input : List Clause
  pub steps : List Step

-- The state that a file's header makes
abbrev pub opened : File → State
opened F = fresh F.version F.constants F.arities F.input

-- From the first byte to the last
unfoldable pub whole_file : Reader File
whole_file =
    header then λ h.
    times h.count (step (form_of h.version)) then λ xs.
    end then λ _.
    give (record { version = h.version; constants = h.constants; arities = h.arities; input = h.input; steps = xs })

-- "A valid file may have up to 65,536 bytes."
abbrev pub most_file : ℕ
most_file = 65536

-- What a file says, or the number and place of its refusal: "22, before all others, a file above 65,536 bytes, place 65,536".
unfoldable pub file : List ℕ → Got File
file s = let g = whole_file s zero in cond (leb (length s) most_file) g (bad too_long most_file)
