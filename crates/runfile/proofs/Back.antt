-- What is written is read back: each reading, where the bytes written for a value stand, gives that value.
use mathlib.Core.Path.{◌∙◌, ◌≡◌, ap, refl, sym}
use mathlib.Core.List.{List, Memᴰ, [], ◌++◌, ◌∷◌, append_assoc, append-nil}
use mathlib.Core.Bool.{Bool, ◌&&◌, cond, false, true}
use Prim.Native.Nat.{◌+◌, ◌-◌, ◌<◌, ◌≤◌, suc, zero, ℕ}
use native.Mathlib.Omega.{arith}
use lib.Dec.{T, eqb, eqb→eq, leb, leb→le, le→leb}
use lib.IntN.{negsuc, neg_ℤ, pos, ℤ}
use lib.ListN.{drop, length, length-append, length-drop, take}
use lib.Seq.{drop-append_seam, drop-drop, take-append_seam, take-nil}
use lib.Signed.{le_z}
use borrow.Author.Tests.{le-leb, le-ltb, lt-ltb}
use Rattle.basis.specs.Limits.{most_arguments, most_atoms, most_brought, most_c, most_constants, most_input, most_literals, most_predicates, most_variables}
use Rattle.basis.specs.Refusals.{above_limit, ends_inside, out_of_range, unknown_rule, wrong_mark}
use Rattle.basis.specs.Versions.{form_of, version_number}
use Rattle.basis.specs.declared.Atom.{Atom}
use Rattle.basis.specs.declared.Form.{Form}
use Rattle.basis.specs.declared.Literal.{Literal}
use Rattle.basis.specs.declared.Version.{Version}
use Rattle.basis.specs.declared.Version.TheVariants.{One, Two}
use Rattle.lists.proofs.Members.{all_of_out}
use Rattle.lists.proofs.Tests.{and_i, and_l, and_r}
use Rattle.lists.specs.Lists.{all_of, same_list}
use Rattle.runfile.specs.Claims.{BroughtHeld, ReadBack, Sayable, StepHeld}
use Rattle.runfile.specs.File.{File, argument, atom, byte, class_checks, clause, constant, count, file, header, instance, letters, literal, little_endian, most_file, most_steps, number, ruled, signed_of, source, sources, step, version, version_of, whole_file, within}
use Rattle.runfile.specs.Readers.{Reader, ◌judged◌, ◌then◌, bad, field, give, got, onward, times}
use Rattle.runfile.specs.Written.{bytes_of, header_with, joined, unsigned, written, written_argument, written_atom, written_clause, written_header, written_instance, written_literal, written_source, written_sources, written_step}
use Rattle.calculus.proofs.Admitting.{clause_accepted_exactly}
use Rattle.calculus.specs.Checks.{Check, ◌or◌, between}
use Rattle.calculus.specs.Class.{InClass, Limited, arity_of, proper_atom, proper_literal}
use Rattle.calculus.specs.Clauses.{Clause, arguments}
use Rattle.calculus.specs.States.{Backtrack, Conflict, Decide, Factorize, Grow, Propagate, Resolve, Skip, Step, Unknown}
use Rattle.calculus.specs.Trails.{Source}
use Rattle.runfile.proofs.Given.{Passes, all_checks, argument_fits, clean, in_range, passes_all}
use Rattle.runfile.proofs.Joined.{joined_last}

-- Wherever the bytes w stand, the reading f gives x.
pub record Back {A : Type 0} (f : Reader A) (w : List ℕ) (x : A) : Type 0 where
  pub back : (s : List ℕ) (i : ℕ) (rest : List ℕ) → drop i s ≡ w ++ rest → f s i ≡ got x (i + length w)

-- ---- the laws

module _ {A B : Type 0} where
  pub back_then : {f : Reader A} (g : A → Reader B) {w v : List ℕ} {x : A} {y : B} → Back f w x → Back (g x) v y → Back (f then g) (w ++ v) y
  back_then {f} g {w} {v} {x} {y} b c = record { back = λ s i rest e. on s i rest (e ∙ append_assoc w v rest) }
    where
      on : (s : List ℕ) (i : ℕ) (rest : List ℕ) → drop i s ≡ w ++ (v ++ rest) → onward (f s i) (λ z j. g z s j) ≡ got y (i + length (w ++ v))
      on s i rest e =
          let past : drop (i + length w) s ≡ v ++ rest = sym (drop-drop (length w) i s) ∙ ap (drop (length w)) e ∙ drop-append_seam w (v ++ rest) in
          rw (b.back s i (v ++ rest) e) (c.back s (i + length w) rest past ∙ ap (got y) (omega (arith, length-append w v)))

  pub back_last : {f : Reader A} (y : A → B) {w : List ℕ} {x : A} → Back f w x → Back (f then λ z. give (y z)) w (y x)
  back_last y b = record { back = λ s i rest e. rw (b.back s i rest e) }

pub back_none : {A : Type 0} (x : A) → Back (give x) [] x
back_none x = record { back = λ s i rest e. ap (got x) (omega arith) }

pub back_judged : {A : Type 0} {f : Reader A} (checks : A → List Check) {w : List ℕ} {x : A} → Back f w x → Passes (checks x) → Back (f judged checks) w x
back_judged checks {w} {x} b p = record { back = λ s i rest e. rw (b.back s i rest e, passes_all (checks x) p) }

module _ {A : Type 0} (f : Reader A) (w : A → List ℕ) where
  one_more : (done : List A) (x : A) → Back (times (length done) f) (joined w done) done → Back f (w x) x
      → Back (times (length (done ++ (x ∷ []))) f) (joined w (done ++ (x ∷ []))) (done ++ (x ∷ []))
  unfolding times
  one_more done x b c =
      let n : length (done ++ (x ∷ [])) ≡ suc (length done) = length-append done (x ∷ []) ∙ omega arith in
      rw (n, joined_last w done x) (back_then (λ xs. f then λ y. give (xs ++ (y ∷ []))) b (back_last (λ y. done ++ (y ∷ [])) c))

  all_more : (done xs : List A) → Back (times (length done) f) (joined w done) done → ((x : A) → Memᴰ x xs → Back f (w x) x)
      → Back (times (length (done ++ xs)) f) (joined w (done ++ xs)) (done ++ xs)
  all_more done [] b h = rw (append-nil done) b
  all_more done (x ∷ xs) b h =
      rw (append_assoc done (x ∷ []) xs) at (all_more (done ++ (x ∷ [])) xs (one_more done x b (h x (Memᴰ.head refl))) (λ y m. h y (Memᴰ.tail m)))

  pub back_times : (xs : List A) → ((x : A) → Memᴰ x xs → Back f (w x) x) → Back (times (length xs) f) (joined w xs) xs
  unfolding times
  back_times xs h = all_more [] xs (back_none []) h

-- ---- fields

pub back_field : (b : List ℕ) → 1 ≤ length b → Back (field (length b)) b b
unfolding field
back_field b h = record { back = λ s i rest e. on s i rest e }
  where
    on : (s : List ℕ) (i : ℕ) (rest : List ℕ) → drop i s ≡ b ++ rest
        → cond (leb (i + length b) (length s)) (got (take (length b) (drop i s)) (i + length b)) (bad ends_inside i) ≡ got b (i + length b)
    on s i rest e =
        let n : length s - i ≡ length b + length rest = sym (length-drop i s) ∙ ap length e ∙ length-append b rest in
        rw (le-leb (i + length b) (length s) (omega arith), e, take-append_seam b rest)

pub back_number : (b : List ℕ) (v : ℕ) → 1 ≤ length b → little_endian b ≡ v → Back (number (length b)) b v
back_number b v h e = rw e at (back_last little_endian (back_field b h))

pub back_byte : (v : ℕ) → Back byte (v ∷ []) v
back_byte v = back_number (v ∷ []) v (omega arith) (omega arith)

pub back_count : (most v : ℕ) → v ≤ most → Back (count most) (v ∷ []) v
back_count most v h = back_judged (λ n. leb n most or above_limit ∷ []) (back_byte v) (le→leb v most h, tt)

pub back_within : (least most v : ℕ) → T (between least most v) → Back (within least most) (v ∷ []) v
back_within least most v h = back_judged (λ n. between least most n or out_of_range ∷ []) (back_byte v) (h, tt)

-- ---- clauses

back_4 : (w : ℕ) → w < 4294967296 → little_endian (bytes_of 4 w) ≡ w
back_4 w h = omega arith

back_2 : (w : ℕ) → w < 65536 → little_endian (bytes_of 2 w) ≡ w
back_2 w h = omega arith

signed_back : (c : ℤ) → T (in_range c) → (signed_of (unsigned c) ≡ c) × (unsigned c < 4294967296)
signed_back (pos n) h =
    let k = leb→le n most_c h in
    (rw (lt-ltb n 2147483648 (omega arith)), omega arith)
signed_back (negsuc n) h =
    let k = leb→le n 999999 (and_l (le_z (neg_ℤ (pos most_c)) (negsuc n)) (le_z (negsuc n) (pos most_c)) h) in
    let z : 4294967295 - (4294967295 - n) ≡ n = omega arith in
    (rw (le-ltb (4294967295 - n) 2147483648 (omega arith), z), omega arith)

back_constant : (c : ℤ) → T (in_range c) → Back constant (bytes_of 4 (unsigned c)) c
back_constant c h =
    let k = signed_back c h in
    back_judged (λ z. in_range z or out_of_range ∷ [])
    (rw k.0 at (back_last signed_of (back_number (bytes_of 4 (unsigned c)) (unsigned c) (omega arith) (back_4 (unsigned c) k.1)))) (h, tt)

back_atom : (v : ℕ) (a : Atom) → T (proper_atom v a) → Back (atom v) (written_atom a) a
unfolding atom
back_atom v a h =
    let hp = and_l (leb a.p v) (leb a.q v && (leb 1 (a.p + a.q) && in_range a.c)) h in
    let h' = and_r (leb a.p v) (leb a.q v && (leb 1 (a.p + a.q) && in_range a.c)) h in
    let hq = and_l (leb a.q v) (leb 1 (a.p + a.q) && in_range a.c) h' in
    let h'' = and_r (leb a.q v) (leb 1 (a.p + a.q) && in_range a.c) h' in
    back_then _ (back_within 0 v a.p (and_i (leb 0 a.p) (leb a.p v) (le→leb 0 a.p (omega arith)) hp))
    (back_then _ (back_judged (λ q. (leb q v && leb 1 (a.p + q)) or out_of_range ∷ []) (back_byte a.q)
    (and_i (leb a.q v) (leb 1 (a.p + a.q)) hq (and_l (leb 1 (a.p + a.q)) (in_range a.c) h''), tt))
    (back_last (λ c. record { p = a.p; q = a.q; c = c }) (back_constant a.c (and_r (leb 1 (a.p + a.q)) (in_range a.c) h''))))

back_argument : (v n k x : ℕ) → T (argument_fits v n k x) → Back (argument v n k) (written_argument n k x) x
back_argument v n k x = by (leb k n)
  where
    by : (b : Bool) → T (cond b (between 1 v x) (eqb zero x)) → Back (cond b (within 1 v) (give zero)) (cond b (x ∷ []) []) x
    by true h = back_within 1 v x h
    by false h = rw (sym (eqb→eq zero x h)) (back_none zero)

-- The arguments of a proper literal, one by one
pub slots : (v n x y z : ℕ) → T (all_of (between 1 v) (take n (x ∷ y ∷ z ∷ []))) → T (all_of (eqb zero) (drop n (x ∷ y ∷ z ∷ [])))
    → T (argument_fits v n 1 x) × T (argument_fits v n 2 y) × T (argument_fits v n 3 z)
slots v zero x y z a b =
    let b' = and_r (eqb zero x) (eqb zero y && (eqb zero z && true)) b in
    (and_l (eqb zero x) (eqb zero y && (eqb zero z && true)) b, and_l (eqb zero y) (eqb zero z && true) b', and_l (eqb zero z) true (and_r (eqb zero y) (eqb zero z && true) b'))
slots v (suc zero) x y z a b =
    (and_l (between 1 v x) true a, and_l (eqb zero y) (eqb zero z && true) b, and_l (eqb zero z) true (and_r (eqb zero y) (eqb zero z && true) b))
slots v (suc (suc zero)) x y z a b =
    (and_l (between 1 v x) (between 1 v y && true) a, and_l (between 1 v y) true (and_r (between 1 v x) (between 1 v y && true) a), and_l (eqb zero z) true b)
slots v (suc (suc (suc n))) x y z a b =
    let a₀ : T (between 1 v x && (between 1 v y && (between 1 v z && true))) = rw (take-nil n) at a in
    let a₁ = and_r (between 1 v x) (between 1 v y && (between 1 v z && true)) a₀ in (
      rw (le-leb 1 (suc (suc (suc n))) (omega arith)) (and_l (between 1 v x) (between 1 v y && (between 1 v z && true)) a₀),
      rw (le-leb 2 (suc (suc (suc n))) (omega arith)) (and_l (between 1 v y) (between 1 v z && true) a₁),
      rw (le-leb 3 (suc (suc (suc n))) (omega arith)) (and_l (between 1 v z) true (and_r (between 1 v y) (between 1 v z && true) a₁)),
    )

-- What is written for them, one by one, is the first n.
pub slots_taken : (n x y z : ℕ) → written_argument n 1 x ++ (written_argument n 2 y ++ written_argument n 3 z) ≡ take n (x ∷ y ∷ z ∷ [])
slots_taken zero x y z = refl
slots_taken (suc zero) x y z = refl
slots_taken (suc (suc zero)) x y z = refl
slots_taken (suc (suc (suc n))) x y z =
    rw (le-leb 1 (suc (suc (suc n))) (omega arith), le-leb 2 (suc (suc (suc n))) (omega arith), le-leb 3 (suc (suc (suc n))) (omega arith), take-nil n)

back_literal : (arities : List ℕ) (v : ℕ) (l : Literal) → T (proper_literal arities v l) → Back (literal arities v) (written_literal arities l) l
unfolding literal
back_literal arities v l h =
    let n = arity_of arities l.predicate in
    let fit = all_of (between 1 v) (take n (arguments l)) in
    let none = all_of (eqb zero) (drop n (arguments l)) in
    let hr = and_l (between 1 (length arities) l.predicate) (fit && none) h in
    let h' = and_r (between 1 (length arities) l.predicate) (fit && none) h in
    let k = slots v n l.x l.y l.z (and_l fit none h') (and_r fit none h') in
    let sign = by l.positive in
    let whole : Back (literal arities v) (cond l.positive 1 0 ∷ l.predicate ∷ written_argument n 1 l.x ++ (written_argument n 2 l.y ++ written_argument n 3 l.z))
    (record { positive = eqb (cond l.positive 1 0) 1; predicate = l.predicate; x = l.x; y = l.y; z = l.z }) =
    back_then _ (back_within 0 1 (cond l.positive 1 0) sign.0)
    (back_then _ (back_within 1 (length arities) l.predicate hr)
    (back_then _ (back_argument v n 1 l.x k.0)
    (back_then _ (back_argument v n 2 l.y k.1)
    (back_last (λ z. record { positive = eqb (cond l.positive 1 0) 1; predicate = l.predicate; x = l.x; y = l.y; z = z }) (back_argument v n 3 l.z k.2))))) in
    rw (slots_taken n l.x l.y l.z, sign.1) at whole
  where
    by : (b : Bool) → T (between 0 1 (cond b 1 0)) × (eqb (cond b 1 0) 1 ≡ b)
    by true = (tt, refl)
    by false = (tt, refl)

back_clause : (arities : List ℕ) (C : Clause) → InClass arities C → Limited C → Back (clause arities) (written_clause arities C) C
unfolding clause written_clause
back_clause arities C hc hl =
    let k = clean (all_checks arities C) tt ((clause_accepted_exactly arities C).1 (hc, hl)) in
    let proper = k.1.0 in
    let az = all_of (proper_atom C.variables) C.atoms in
    let ls = all_of (proper_literal arities C.variables) C.literals in
    back_judged class_checks
    (back_then _ (back_count most_variables C.variables hl.few_variables)
    (back_then _ (back_count most_atoms (length C.atoms) hl.few_atoms)
    (back_then _ (back_count most_literals (length C.literals) hl.few_literals)
    (back_then _ (back_times (atom C.variables) written_atom C.atoms (λ a m. back_atom C.variables a (all_of_out (proper_atom C.variables) C.atoms (and_l az ls proper) m)))
    (back_last (λ ls. record { variables = C.variables; atoms = C.atoms; literals = ls })
    (back_times (literal arities C.variables) (written_literal arities) C.literals
    (λ l m. back_literal arities C.variables l (all_of_out (proper_literal arities C.variables) C.literals (and_r az ls proper) m))))))))
    k.1.1

-- ---- steps

joined_bytes : (τ : List ℕ) → joined (λ v. v ∷ []) τ ≡ τ
joined_bytes [] = refl
joined_bytes (v ∷ τ) = ap (λ (l : List ℕ). v ∷ l) (joined_bytes τ)

back_instance : (τ : List ℕ) → length τ ≤ most_variables → Back instance (written_instance τ) τ
back_instance τ h =
    rw (joined_bytes τ) at
    (back_then (λ n. times n byte) (back_count most_variables (length τ) h) (back_times byte (λ v. v ∷ []) τ (λ v m. back_byte v)))

back_rule : (r : ℕ) → T (between 1 8 r) → Back (byte judged (λ rule. between 1 8 rule or unknown_rule ∷ [])) (r ∷ []) r
back_rule r h = back_judged (λ rule. between 1 8 rule or unknown_rule ∷ []) (back_byte r) (h, tt)

back_sign : (g : ℕ) → g ≤ 1 → Back (within 0 1) (g ∷ []) g
back_sign g h = back_within 0 1 g (and_i (leb 0 g) (leb g 1) (le→leb 0 g (omega arith)) (le→leb g 1 h))

back_source : (z : Source) → z.sign ≤ 1 → length z.instance ≤ most_variables → Back source (written_source z) z
unfolding source
back_source z h k =
    back_then _ (back_byte z.clause) (back_then _ (back_byte z.number) (back_then _ (back_sign z.sign h)
    (back_last (λ τ. record { clause = z.clause; number = z.number; sign = z.sign; instance = τ }) (back_instance z.instance k))))

back_sources : (f : Form) (zs : List Source) → BroughtHeld f.brings zs → Back (sources f) (written_sources f zs) zs
unfolding sources written_sources
back_sources f zs = by f.brings
  where
    by : (b : Bool) → BroughtHeld b zs → Back (cond b (count most_brought then λ n. times n source) (give [])) (cond b (length zs ∷ joined written_source zs) []) zs
    by true h =
        back_then (λ n. times n source) (back_count most_brought (length zs) h.few)
        (back_times source written_source zs (λ z m. back_source z (h.signs z m) (h.instances z m)))
    by false h = rw h (back_none [])

back_step : (f : Form) (x : Step) → StepHeld f.brings x → Back (step f) (written_step f x) x
unfolding step ruled written_step
back_step f (Propagate c l τ) h = back_then (ruled f) (back_rule 1 tt) (back_then _ (back_byte c) (back_then _ (back_byte l) (back_last (Propagate c l) (back_instance τ h))))
back_step f (Decide c l g τ zs) h =
    back_then (ruled f) (back_rule 2 tt) (back_then _ (back_byte c) (back_then _ (back_byte l)
    (back_then _ (back_sign g h.0) (back_then _ (back_instance τ h.1) (back_last (Decide c l g τ) (back_sources f zs h.2))))))
back_step f (Conflict c τ) h = back_then (ruled f) (back_rule 3 tt) (back_then _ (back_byte c) (back_last (Conflict c) (back_instance τ h)))
back_step f (Resolve l) h = back_then (ruled f) (back_rule 4 tt) (back_last Resolve (back_byte l))
back_step f (Factorize l m) h = back_then (ruled f) (back_rule 5 tt) (back_then _ (back_byte l) (back_last (Factorize l) (back_byte m)))
back_step f Skip h = back_then (ruled f) (back_rule 6 tt) (back_none Skip)
back_step f (Backtrack l) h = back_then (ruled f) (back_rule 7 tt) (back_last Backtrack (back_byte l))
back_step f (Grow n) h = back_then (ruled f) (back_rule 8 tt) (back_last Grow (back_byte n))
back_step f (Unknown r) h = absurd h

-- ---- the file

version_of_lem : (n : ℕ) → little_endian (bytes_of 2 n) ≡ n → T (between 1 2 n) → Back version (bytes_of 2 n) (version_of n)
version_of_lem n e h = back_last version_of (back_judged (λ n. between 1 2 n or wrong_mark ∷ []) (back_number (bytes_of 2 n) n (omega arith) e) (h, tt))

back_version : (v : Version) → Back version (bytes_of 2 (version_number v)) v
back_version One = version_of_lem 1 refl tt
back_version Two = version_of_lem 2 refl tt

back_header : (F : File) → Sayable F
    → Back header (written_header F) (record { version = F.version; constants = F.constants; arities = F.arities; input = F.input; count = length F.steps })
unfolding header header_with
back_header F h =
    let a = h.admitted in
    back_then _ (back_judged (λ b. same_list b letters or wrong_mark ∷ []) (back_field letters (omega arith)) (tt, tt))
    (back_then _ (back_version F.version)
    (back_then _ (back_count most_constants F.constants a.few_constants)
    (back_then _ (back_count most_predicates (length F.arities) a.few_predicates)
    (back_then _ (rw (joined_bytes F.arities) at (back_times (count most_arguments) (λ v. v ∷ []) F.arities (λ n m. back_count most_arguments n (a.small_arities n m))))
    (back_then _ (back_count most_input (length F.input) a.few_clauses)
    (back_then _ (back_times (clause F.arities) (written_clause F.arities) F.input (λ C m. back_clause F.arities C (a.in_class C m) (a.limited C m)))
    (back_last (λ t. record { version = F.version; constants = F.constants; arities = F.arities; input = F.input; count = t })
    (back_judged (λ n. leb n most_steps or above_limit ∷ [])
    (back_number (bytes_of 2 (length F.steps)) (length F.steps) (omega arith) (back_2 (length F.steps) (omega (arith, h.few_steps))))
    (le→leb (length F.steps) most_steps h.few_steps, tt)))))))))

whole_back : (F : File) → Sayable F → whole_file (written F) 0 ≡ got F (length (written F))
unfolding whole_file
whole_back F h =
    let f = form_of F.version in
    let n = length (written_header F) in
    let xs = joined (written_step f) F.steps in
    let from_zero : 0 + n ≡ n = omega arith in
    let head = (back_header F h).back (written F) 0 xs refl in
    let past : drop (0 + n) (written F) ≡ xs ++ [] = ap (λ (k : ℕ). drop k (written F)) from_zero ∙ drop-append_seam (written_header F) xs ∙ sym (append-nil xs) in
    let steps = (back_times (step f) (written_step f) F.steps (λ x m. back_step f x (h.steps_held x m))).back (written F) (0 + n) [] past in
    let all : length (written F) ≡ n + length xs = length-append (written_header F) xs in
    let last : 0 + n + length xs ≡ length (written F) = omega arith in
    rw (head, steps, last, le-leb (length (written F)) (length (written F)) (omega arith))

pub read_back : ReadBack
unfolding file
read_back F h short = rw (le-leb (length (written F)) most_file short) (whole_back F h)
