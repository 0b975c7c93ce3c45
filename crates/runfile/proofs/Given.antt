-- What each reading gives: a value of which something is known and a place in the file, or a refusal. From the fields up to the file.
use mathlib.Core.Path.{◌∙◌, ◌≡◌, ap, refl}
use mathlib.Core.Logic.{inl, inr}
use mathlib.Core.List.Memᴰ
use mathlib.Core.List.{List, Memᴰ, [], ◌++◌, ◌∷◌}
use mathlib.Core.Bool.{Bool, ◌&&◌, cond, false, true}
use Prim.Native.Nat.{◌+◌, ◌<◌, ◌≤◌, suc, zero, ℕ}
use native.Mathlib.Omega.{arith}
use lib.Dec.{T, eqb, eqb-suc-zero, leb, leb→le, le→leb}
use lib.IntN.{neg_ℤ, pos, ℤ}
use lib.ListN.{drop, length, length-append, length-drop, length-take, take}
use lib.Seq.{drop-nil, take-nil}
use lib.Signed.{le_z}
use borrow.Author.Tests.{le-leb, leb-false, leb-true, lt-leb}
use Rattle.basis.specs.Limits.{most_arguments, most_atoms, most_brought, most_c, most_constants, most_input, most_literals, most_predicates, most_variables}
use Rattle.basis.specs.Refusals.{above_limit, accepted, ends_inside, out_of_range, surplus, too_long, unknown_rule, wrong_mark}
use Rattle.basis.specs.Versions.{form_of}
use Rattle.basis.specs.declared.Form.{Form}
use Rattle.lists.proofs.Members.{all_of_in}
use Rattle.lists.proofs.Tests.{T→eq, and_i, and_l, and_r}
use Rattle.lists.specs.Lists.{all_of, same_list}
use Rattle.runfile.specs.Claims.{BroughtHeld, EveryFile, Outcome, Refusal, Sayable, StepHeld}
use Rattle.runfile.specs.File.{count, File, Header, argument, atom, byte, class_checks, clause, clause_fields, constant, end, file, header, instance, letters, literal, little_endian, most_file, most_steps, number, ruled, second, signed_of, source, sources, step, version, version_of, whole_file, within}
use Rattle.runfile.specs.Readers.{Got, Reader, ◌judged◌, ◌then◌, bad, field, give, got, onward, times}
use Rattle.calculus.proofs.Admitting.{clause_accepted_exactly}
use Rattle.calculus.specs.Admission.{Admitted, fresh}
use Rattle.calculus.specs.Checks.{Check, ◌or◌, between, first_refusal}
use Rattle.calculus.specs.Class.{InClass, Limited, arity_of, proper_atom, proper_literal, within_limits}
use Rattle.calculus.specs.Clauses.{Clause}
use Rattle.calculus.specs.States.{Backtrack, Conflict, Decide, Factorize, Grow, Propagate, Resolve, Skip, Step}
use Rattle.calculus.specs.Trails.{Source}

-- From a place in the file: a value with P and a place in the file, or a refusal
abbrev pub Gives : {A : Type 0} → (A → Type 0) → List ℕ → Got A → Type 0
Gives P s (got x j) = P x × (j ≤ length s)
Gives P s (bad n p) = Refusal s n p

pub record Reads {A : Type 0} (P : A → Type 0) (f : Reader A) : Type 0 where
  pub gives : (s : List ℕ) (i : ℕ) → i ≤ length s → Gives P s (f s i)

-- Every check holds.
abbrev pub Passes : List Check → Type 0
Passes [] = Unit {0}
Passes (c ∷ cs) = T c.ok × Passes cs

-- The refusals of the checks are a file's.
abbrev pub of_file : List Check → Bool
of_file cs = all_of (λ c. between ends_inside surplus c.refusal) cs

pub clean : (cs : List Check) → T (of_file cs) → first_refusal cs ≡ accepted → Passes cs
clean [] k e = tt
clean (c ∷ cs) k e = by c.ok refl (λ q. clean cs (and_r (between ends_inside surplus c.refusal) (of_file cs) k) q)
  where
    by : (b : Bool) → c.ok ≡ b → (first_refusal cs ≡ accepted → Passes cs) → Passes (c ∷ cs)
    by true q r = (rw q tt, r (rw q at e))
    by false q r =
        let z : c.refusal ≡ 0 = rw q at e in
        let h = leb→le 1 c.refusal (and_l (leb 1 c.refusal) (leb c.refusal surplus) (and_l (between ends_inside surplus c.refusal) (of_file cs) k)) in
        absurd (omega arith)

pub passes_all : (cs : List Check) → Passes cs → first_refusal cs ≡ accepted
passes_all [] k = refl
passes_all (c ∷ cs) k = rw (T→eq c.ok k.0) (passes_all cs k.1)

of_table : (cs : List Check) → T (of_file cs) → first_refusal cs ≤ surplus
of_table [] k = omega arith
of_table (c ∷ cs) k = by c.ok (of_table cs (and_r (between ends_inside surplus c.refusal) (of_file cs) k))
  where
    by : (b : Bool) → first_refusal cs ≤ surplus → cond b (first_refusal cs) c.refusal ≤ surplus
    by true r = r
    by false r = leb→le c.refusal surplus (and_r (leb 1 c.refusal) (leb c.refusal surplus) (and_l (between ends_inside surplus c.refusal) (of_file cs) k))

-- ---- the laws

pub reads_none : {A : Type 0} {P : A → Type 0} (x : A) → P x → Reads P (give x)
reads_none x p = record { gives = λ s i h. (p, h) }

module _ {A : Type 0} where
  pub reads_weaker : {P Q : A → Type 0} {f : Reader A} → Reads P f → ((x : A) → P x → Q x) → Reads Q f
  reads_weaker {P} {Q} {f} r w = record { gives = λ s i h. by s (f s i) (r.gives s i h) }
    where
      by : (s : List ℕ) (g : Got A) → Gives P s g → Gives Q s g
      by s (got x j) q = (w x q.0, q.1)
      by s (bad n p) q = q

  pub reads_then : {B : Type 0} {P : A → Type 0} {Q : B → Type 0} {f : Reader A} (g : A → Reader B) → Reads P f → ((x : A) → P x → Reads Q (g x)) → Reads Q (f then g)
  reads_then {B} {P} {Q} {f} g r k = record { gives = λ s i h. by s (f s i) (r.gives s i h) }
    where
      by : (s : List ℕ) (y : Got A) → Gives P s y → Gives Q s (onward y (λ x j. g x s j))
      by s (got x j) q = (k x q.0).gives s j q.1
      by s (bad n p) q = q

  pub reads_give : {B : Type 0} {P : A → Type 0} {Q : B → Type 0} {f : Reader A} (y : A → B) → Reads P f → ((x : A) → P x → Q (y x)) → Reads Q (f then λ x. give (y x))
  reads_give y r k = reads_then (λ x. give (y x)) r (λ x p. reads_none (y x) (k x p))

  pub reads_judged : {P : A → Type 0} {f : Reader A} (checks : A → List Check) → ((x : A) → T (of_file (checks x))) → Reads P f
      → Reads (λ x. P x × Passes (checks x)) (f judged checks)
  reads_judged {P} {f} checks k r = record { gives = λ s i h. by s i h (f s i) (r.gives s i h) }
    where
      on : (s : List ℕ) (i : ℕ) → i ≤ length s → (x : A) (j : ℕ) → P x × (j ≤ length s) → (n : ℕ) → first_refusal (checks x) ≡ n
          → Gives (λ x. P x × Passes (checks x)) s (cond (eqb n accepted) (got x j) (bad n i))
      on s i h x j q zero e = ((q.0, clean (checks x) (k x) e), q.1)
      on s i h x j q (suc n) e = rw (eqb-suc-zero n) (record { in_table = inl (omega arith, omega (arith, of_table (checks x) (k x), e)); in_file = h })

      by : (s : List ℕ) (i : ℕ) → i ≤ length s → (y : Got A) → Gives P s y
          → Gives (λ x. P x × Passes (checks x)) s (onward y (λ x j. cond (eqb (first_refusal (checks x)) accepted) (got x j) (bad (first_refusal (checks x)) i)))
      by s i h (got x j) q = on s i h x j q (first_refusal (checks x)) refl
      by s i h (bad n p) q = q

pub reads_times : {A : Type 0} {P : A → Type 0} {f : Reader A} (n : ℕ) → Reads P f → Reads (λ xs. (length xs ≡ n) × ((x : A) → Memᴰ x xs → P x)) (times n f)
unfolding times
reads_times zero r = record { gives = λ s i h. ((refl, λ x m. absurd (Memᴰ.not-nil m)), h) }
reads_times {A} {P} {f} (suc n) r =
    reads_then _ (reads_times n r) (λ xs k. reads_give (λ x. xs ++ (x ∷ [])) r (λ x p. (length-append xs (x ∷ []) ∙ omega (arith, k.0), λ y m. last xs x p k.1 y m)))
  where
    last : (xs : List A) (x : A) → P x → ((y : A) → Memᴰ y xs → P y) → (y : A) → Memᴰ y (xs ++ (x ∷ [])) → P y
    last [] x p h y (Memᴰ.head e) = rw e p
    last [] x p h y (Memᴰ.tail m) = absurd (Memᴰ.not-nil m)
    last (z ∷ xs) x p h y (Memᴰ.head e) = h y (Memᴰ.head e)
    last (z ∷ xs) x p h y (Memᴰ.tail m) = last xs x p (λ w n. h w (Memᴰ.tail n)) y m

pub reads_either : {A : Type 0} {P : A → Type 0} {f g : Reader A} (b : Bool) → Reads P f → Reads P g → Reads P (cond b f g)
reads_either true r q = r
reads_either false r q = q

-- ---- fields

pub field_reads : (n : ℕ) → Reads (λ b. length b ≡ n) (field n)
unfolding field
field_reads n = record { gives = λ s i h. by s i h (leb (i + n) (length s)) refl }
  where
    by : (s : List ℕ) (i : ℕ) → i ≤ length s → (b : Bool) → leb (i + n) (length s) ≡ b
        → Gives (λ l. length l ≡ n) s (cond b (got (take n (drop i s)) (i + n)) (bad ends_inside i))
    by s i h true e = let k = leb-true (i + n) (length s) e in (simp (length-take, length-drop) (omega arith), k)
    by s i h false e = record { in_table = inl (omega arith, omega arith); in_file = h }

-- any number of bytes
pub number_reads : (n : ℕ) → Reads (λ v. Unit {0}) (number n)
number_reads n = reads_give little_endian (field_reads n) (λ b e. tt)

pub count_reads : (most : ℕ) → Reads (λ n. n ≤ most) (count most)
count_reads most = reads_weaker (reads_judged (λ n. leb n most or above_limit ∷ []) (λ n. tt) (number_reads 1)) (λ n p. leb→le n most p.1.0)

pub within_reads : (least most : ℕ) → Reads (λ n. T (between least most n)) (within least most)
within_reads least most = reads_weaker (reads_judged (λ n. between least most n or out_of_range ∷ []) (λ n. tt) (number_reads 1)) (λ n p. p.1.0)

-- ---- clauses

second_reads : (v p : ℕ) → Reads (λ q. T (leb q v && leb 1 (p + q))) (second v p)
second_reads v p = reads_weaker (reads_judged (λ q. (leb q v && leb 1 (p + q)) or out_of_range ∷ []) (λ q. tt) (number_reads 1)) (λ q h. h.1.0)

abbrev pub in_range : ℤ → Bool
in_range c = le_z (neg_ℤ (pos most_c)) c && le_z c (pos most_c)

constant_reads : Reads (λ c. T (in_range c)) constant
constant_reads = reads_weaker (reads_judged (λ c. in_range c or out_of_range ∷ []) (λ c. tt) (reads_give {Q = λ c. Unit {0}} signed_of (number_reads 4) (λ w h. tt))) (λ c h. h.1.0)

atom_reads : (v : ℕ) → Reads (λ a. T (proper_atom v a)) (atom v)
unfolding atom
atom_reads v =
    reads_then _ (within_reads 0 v) (λ p hp.
    reads_then _ (second_reads v p) (λ q hq.
    reads_give (λ c. record { p = p; q = q; c = c }) constant_reads (λ c hc.
    and_i (leb p v) (leb q v && (leb 1 (p + q) && in_range c)) (and_r (leb 0 p) (leb p v) hp)
    (and_i (leb q v) (leb 1 (p + q) && in_range c) (and_l (leb q v) (leb 1 (p + q)) hq) (and_i (leb 1 (p + q)) (in_range c) (and_r (leb q v) (leb 1 (p + q)) hq) hc)))))

-- The kth of n arguments is a variable, and 0 past the last.
abbrev pub argument_fits : ℕ → ℕ → ℕ → ℕ → Bool
argument_fits v n k x = cond (leb k n) (between 1 v x) (eqb zero x)

argument_reads : (v n k : ℕ) → Reads (λ x. T (argument_fits v n k x)) (argument v n k)
argument_reads v n k = by (leb k n)
  where
    by : (b : Bool) → Reads (λ x. T (cond b (between 1 v x) (eqb zero x))) (cond b (within 1 v) (give zero))
    by true = within_reads 1 v
    by false = reads_none zero tt

arguments_fit : (v n x y z : ℕ) → T (argument_fits v n 1 x) → T (argument_fits v n 2 y) → T (argument_fits v n 3 z)
    → T (all_of (between 1 v) (take n (x ∷ y ∷ z ∷ [])) && all_of (eqb zero) (drop n (x ∷ y ∷ z ∷ [])))
arguments_fit v zero x y z a b c = and_i (eqb zero x) (eqb zero y && (eqb zero z && true)) a (and_i (eqb zero y) (eqb zero z && true) b (and_i (eqb zero z) true c tt))
arguments_fit v (suc zero) x y z a b c =
    and_i (between 1 v x && true) (eqb zero y && (eqb zero z && true)) (and_i (between 1 v x) true a tt) (and_i (eqb zero y) (eqb zero z && true) b (and_i (eqb zero z) true c tt))
arguments_fit v (suc (suc zero)) x y z a b c =
    and_i (between 1 v x && (between 1 v y && true)) (eqb zero z && true) (and_i (between 1 v x) (between 1 v y && true) a (and_i (between 1 v y) true b tt)) (and_i (eqb zero z) true c tt)
arguments_fit v (suc (suc (suc n))) x y z a b c =
    rw (take-nil n, drop-nil n) (and_i (between 1 v x && (between 1 v y && (between 1 v z && true))) true
    (and_i (between 1 v x) (between 1 v y && (between 1 v z && true)) (rw (le-leb 1 (suc (suc (suc n))) (omega arith)) at a)
    (and_i (between 1 v y) (between 1 v z && true) (rw (le-leb 2 (suc (suc (suc n))) (omega arith)) at b)
    (and_i (between 1 v z) true (rw (le-leb 3 (suc (suc (suc n))) (omega arith)) at c) tt))) tt)

literal_reads : (arities : List ℕ) (v : ℕ) → Reads (λ l. T (proper_literal arities v l)) (literal arities v)
unfolding literal
literal_reads arities v =
    reads_then _ (within_reads 0 1) (λ sign hs.
    reads_then _ (within_reads 1 (length arities)) (λ r hr.
    reads_then _ (argument_reads v (arity_of arities r) 1) (λ x hx.
    reads_then _ (argument_reads v (arity_of arities r) 2) (λ y hy.
    reads_give (λ z. record { positive = eqb sign 1; predicate = r; x = x; y = y; z = z }) (argument_reads v (arity_of arities r) 3) (λ z hz.
    and_i (between 1 (length arities) r) _ hr (arguments_fit v (arity_of arities r) x y z hx hy hz))))))

-- What admission asks of a clause
abbrev pub all_checks : List ℕ → Clause → List Check
all_checks arities C =
    within_limits C or above_limit ∷
    (all_of (proper_atom C.variables) C.atoms && all_of (proper_literal arities C.variables) C.literals) or out_of_range ∷ class_checks C

-- What the fields of a clause give: its counts and its numbers are in range.
abbrev pub FieldsFit : List ℕ → Clause → Type 0
FieldsFit arities C = T (within_limits C) × T (all_of (proper_atom C.variables) C.atoms && all_of (proper_literal arities C.variables) C.literals)

clause_fields_read : (arities : List ℕ) → Reads (FieldsFit arities) (clause_fields arities)
clause_fields_read arities =
    reads_then _ (count_reads most_variables) (λ v hv.
    reads_then _ (count_reads most_atoms) (λ n hn.
    reads_then _ (count_reads most_literals) (λ m hm.
    reads_then _ (reads_times n (atom_reads v)) (λ az ha.
    reads_give (λ ls. record { variables = v; atoms = az; literals = ls }) (reads_times m (literal_reads arities v)) (λ ls hl. (
      and_i (leb v most_variables) _ (le→leb v most_variables hv)
          (and_i (leb (length az) most_atoms) _ (le→leb (length az) most_atoms (omega (arith, ha.0))) (le→leb (length ls) most_literals (omega (arith, hl.0)))),
      and_i (all_of (proper_atom v) az) _ (all_of_in (proper_atom v) az ha.1) (all_of_in (proper_literal arities v) ls hl.1),
    ))))))

-- A refusal is no value.
pub no_value : {A P : Type 0} {x : A} {j n p : ℕ} → bad n p ≡ got x j → P
no_value {A} e = let z : ◌≡◌ {A = ℕ} 1 0 = ap kind e in absurd (omega arith)
  where
    kind : Got A → ℕ
    kind (got x j) = 0
    kind (bad n p) = 1

past_end_lem : (s : List ℕ) (i : ℕ) → length s < i → byte s i ≡ bad ends_inside i
unfolding field
past_end_lem s i h = rw (lt-leb (i + 1) (length s) (omega arith))

-- The same from any place: past the end nothing is read.
pub clause_fields_fit : (arities s : List ℕ) (i : ℕ) {C : Clause} {j : ℕ} → clause_fields arities s i ≡ got C j → FieldsFit arities C
clause_fields_fit arities s i {C} {j} e = by (leb i (length s)) refl
  where
    on : (g : Got Clause) → g ≡ got C j → Gives (FieldsFit arities) s g → FieldsFit arities C
    on g e h = (rw e at h).0

    by : (b : Bool) → leb i (length s) ≡ b → FieldsFit arities C
    by true h = on (clause_fields arities s i) e ((clause_fields_read arities).gives s i (leb-true i (length s) h))
    by false h = no_value (rw (past_end_lem s i (leb-false i (length s) h)) at e)

pub clause_reads : (arities : List ℕ) → Reads (λ C. InClass arities C × Limited C) (clause arities)
unfolding clause
clause_reads arities =
    reads_weaker (reads_judged class_checks (λ C. tt) (clause_fields_read arities))
    (λ C h. (clause_accepted_exactly arities C).0 (passes_all (all_checks arities C) (h.0.0, (h.0.1, h.1))))

-- ---- steps

instance_reads : Reads (λ τ. length τ ≤ most_variables) instance
instance_reads = reads_then _ (count_reads most_variables) (λ n hn. reads_weaker (reads_times n (number_reads 1)) (λ τ h. omega (arith, h.0)))

-- What the file holds one atom of a Decide to
abbrev SourceHeld : Source → Type 0
SourceHeld z = (z.sign ≤ 1) × (length z.instance ≤ most_variables)

sign_held : (g : ℕ) → T (between 0 1 g) → g ≤ 1
sign_held g h = leb→le g 1 (and_r (leb 0 g) (leb g 1) h)

source_reads : Reads SourceHeld source
unfolding source
source_reads =
    reads_then _ (number_reads 1) (λ c _.
    reads_then _ (number_reads 1) (λ n _.
    reads_then _ (within_reads 0 1) (λ g hg.
    reads_give (λ τ. record { clause = c; number = n; sign = g; instance = τ }) instance_reads (λ τ h. (sign_held g hg, h)))))

sources_read : (f : Form) → Reads (BroughtHeld f.brings) (sources f)
unfolding sources
sources_read f = by f.brings
  where
    by : (b : Bool) → Reads (BroughtHeld b) (cond b (count most_brought then λ n. times n source) (give []))
    by true = reads_then _ (count_reads most_brought) (λ n hn.
        reads_weaker (reads_times n source_reads) (λ zs h. record { few = omega (arith, h.0); signs = λ z m. (h.1 z m).0; instances = λ z m. (h.1 z m).1 }))
    by false = reads_none [] refl

ruled_reads : (f : Form) (r : ℕ) → Reads (StepHeld f.brings) (ruled f r)
unfolding ruled
ruled_reads f r =
    reads_either (eqb r 1) (reads_then _ (number_reads 1) (λ c _. reads_then _ (number_reads 1) (λ l _. reads_give (Propagate c l) instance_reads (λ τ h. h))))
    (reads_either (eqb r 2) (reads_then _ (number_reads 1) (λ c _. reads_then _ (number_reads 1) (λ l _. reads_then _ (within_reads 0 1) (λ g hg.
    reads_then _ instance_reads (λ τ h. reads_give (Decide c l g τ) (sources_read f) (λ zs k. (sign_held g hg, h, k)))))))
    (reads_either (eqb r 3) (reads_then _ (number_reads 1) (λ c _. reads_give (Conflict c) instance_reads (λ τ h. h)))
    (reads_either (eqb r 4) (reads_give Resolve (number_reads 1) (λ l h. tt))
    (reads_either (eqb r 5) (reads_then _ (number_reads 1) (λ l _. reads_give (Factorize l) (number_reads 1) (λ m h. tt)))
    (reads_either (eqb r 6) (reads_none Skip tt)
    (reads_either (eqb r 7) (reads_give Backtrack (number_reads 1) (λ l h. tt)) (reads_give Grow (number_reads 1) (λ l h. tt))))))))

pub step_reads : (f : Form) → Reads (StepHeld f.brings) (step f)
unfolding step
step_reads f = reads_then (ruled f) (reads_judged (λ r. between 1 8 r or unknown_rule ∷ []) (λ r. tt) (number_reads 1)) (λ r h. ruled_reads f r)

-- ---- the file

-- What is known of a header that is read
abbrev HeaderHeld : Header → Type 0
HeaderHeld h = Admitted (fresh h.version h.constants h.arities h.input) × (h.count ≤ most_steps)

version_reads : Reads (λ v. Unit {0}) version
version_reads = reads_give version_of (reads_judged (λ n. between 1 2 n or wrong_mark ∷ []) (λ n. tt) (number_reads 2)) (λ n h. tt)

pub header_reads : Reads HeaderHeld header
unfolding header
header_reads =
    reads_then _ (reads_judged (λ b. same_list b letters or wrong_mark ∷ []) (λ b. tt) (field_reads 3)) (λ mark _.
    reads_then _ version_reads (λ version _.
    reads_then _ (count_reads most_constants) (λ constants hk.
    reads_then _ (count_reads most_predicates) (λ n hn.
    reads_then _ (reads_times n (count_reads most_arguments)) (λ arities ha.
    reads_then _ (count_reads most_input) (λ m hm.
    reads_then _ (reads_times m (clause_reads arities)) (λ cs hc.
    reads_give (λ t. record { version = version; constants = constants; arities = arities; input = cs; count = t }) (reads_judged (λ n. leb n most_steps or above_limit ∷ []) (λ n. tt) (number_reads 2)) (λ t ht. (
      record {
        few_constants = hk;
        few_predicates = omega (arith, ha.0);
        small_arities = ha.1;
        few_clauses = omega (arith, hc.0);
        in_class = λ C h. (hc.1 C h).0;
        limited = λ C h. (hc.1 C h).1;
        new = refl;
      },
      leb→le t most_steps ht.1.0,
    )))))))))

-- The end of the file is met at its length.
end_at : (s : List ℕ) (F : File) (i : ℕ) → Sayable F → i ≤ length s → Outcome s (onward (end s i) (λ _ j. got F j))
end_at s F i h k = by (leb (length s) i) refl
  where
    by : (b : Bool) → leb (length s) i ≡ b → Outcome s (onward (cond b (got (tt {0}) i) (bad surplus i)) (λ _ j. got F j))
    by true e = let z = leb-true (length s) i e in (h, omega arith)
    by false e = record { in_table = inl (omega arith, omega arith); in_file = k }

abbrev saying : Header → List Step → File
saying h xs = record { version = h.version; constants = h.constants; arities = h.arities; input = h.input; steps = xs }

whole_given : (s : List ℕ) → Outcome s (whole_file s zero)
unfolding whole_file
whole_given s = from (header s zero) (header_reads.gives s zero (omega arith))
  where
    last : (h : Header) → HeaderHeld h → (g : Got (List Step))
        → Gives (λ xs. (length xs ≡ h.count) × ((x : Step) → Memᴰ x xs → StepHeld (form_of h.version).brings x)) s g
        → Outcome s (onward g (λ xs j. onward (end s j) (λ _ k. got (saying h xs) k)))
    last h a (got xs j) q = end_at s _ j (record { admitted = a.0; few_steps = omega (arith, q.0.0, a.1); steps_held = q.0.1 }) q.1
    last h a (bad n p) q = q

    from : (g : Got Header) → Gives HeaderHeld s g
        → Outcome s (onward g (λ h i. onward (times h.count (step (form_of h.version)) s i) (λ xs j. onward (end s j) (λ _ k. got (saying h xs) k))))
    from (got h i) q = last h q.0 (times h.count (step (form_of h.version)) s i) ((reads_times h.count (step_reads (form_of h.version))).gives s i q.1)
    from (bad n p) q = q

pub every_file : EveryFile
unfolding file
every_file s = by (leb (length s) most_file) refl
  where
    by : (b : Bool) → leb (length s) most_file ≡ b → Outcome s (cond b (whole_file s zero) (bad too_long most_file))
    by true e = whole_given s
    by false e = let z = leb-false (length s) most_file e in record { in_table = inr refl; in_file = omega arith }
