-- The instances of a reason, a resolvent and a factored conflict.
use mathlib.Core.Path.{◌∙◌, ◌≡◌, ap, ap₂, refl, subst, sym}
use mathlib.Core.Logic.{◌⊎◌, inl, inr}
use mathlib.Core.List.Memᴰ
use mathlib.Core.List.{List, Memᴰ, [], ◌++◌, ◌∷◌, map, map-append, map-map}
use mathlib.Core.Bool.{Bool, cond, false, not, true}
use Prim.Native.Nat.{◌+◌, ◌<◌, ◌≤◌, max, min, suc, zero, ℕ}
use native.Mathlib.Omega.{arith}
use lib.Dec.{T, eqb-suc-zero}
use lib.ListN.{get_or-append, get_or-map, get_or, length, length-append}
use lib.Seq.{get_or-append-add}
use Rattle.basis.specs.declared.Atom.{Atom}
use Rattle.basis.specs.declared.Literal.{Literal}
use Rattle.lists.proofs.Members.{get_d_mem, keep_if_out, keep_if_sat, map_same, pair_up_back, pair_up_mem, without_out}
use Rattle.lists.specs.Lists.{keep_if, pair_up, without}
use Rattle.calculus.specs.Checks.{between}
use Rattle.calculus.specs.Clauses.{Clause, Instanced, arguments, complement, ground, ground_atoms, no_literal, rename_atom, rename_literal, same_literal, under}
use Rattle.calculus.specs.Merging.{apart, factored, merge, own_index, own_pairs, reason, reason_literals, resolvent}
use Rattle.calculus.proofs.Instances.{Fits, Inside, Sized, merge_atoms, merge_literals, merge_sized, merge_within}
use Rattle.calculus.proofs.Merged.{rename_literal_same, same_literal→eq}

pub own_pairs_out : (τ : List ℕ) (g l : Literal) (ls : List Literal) {p : ℕ × ℕ} → Memᴰ p (own_pairs τ g l ls) → (m : Literal) × Memᴰ m ls × T (same_literal (ground τ m) g) × Memᴰ p (pair_up (arguments l) (arguments m))
own_pairs_out τ g l [] h = absurd (Memᴰ.not-nil h)
own_pairs_out τ g l (x ∷ xs) {p} h = go (λ k. own_pairs_out τ g l xs k) (same_literal (ground τ x) g) refl h
  where
    W : List Literal → Type 0
    W ys = (m : Literal) × Memᴰ m ys × T (same_literal (ground τ m) g) × Memᴰ p (pair_up (arguments l) (arguments m))

    up : W xs → W (x ∷ xs)
    up (m, a, b, c) = (m, Memᴰ.tail a, b, c)

    go : (Memᴰ p (own_pairs τ g l xs) → W xs) → (b : Bool) → same_literal (ground τ x) g ≡ b → Memᴰ p (cond b (pair_up (arguments l) (arguments x) ++ own_pairs τ g l xs) (own_pairs τ g l xs)) → W (x ∷ xs)
    go ih true e h = split (Memᴰ.append_cases (pair_up (arguments l) (arguments x)) h)
      where
        split : Memᴰ p (pair_up (arguments l) (arguments x)) ⊎ Memᴰ p (own_pairs τ g l xs) → W (x ∷ xs)
        split (inl q) = (x, Memᴰ.head refl, subst T (sym e) tt, q)
        split (inr q) = up (ih q)
    go ih false e h = up (ih h)

pub reason_literals_out : (τ : List ℕ) (g : Literal) (i : ℕ) (ls : List Literal) {m : Literal} → Memᴰ m (reason_literals τ g i ls) → Memᴰ m ls
reason_literals_out τ g i [] h = h
reason_literals_out τ g zero (x ∷ xs) {m} h = go (Memᴰ.cases_cons h)
  where
    go : (m ≡ x) ⊎ Memᴰ m (keep_if (λ m. not (same_literal (ground τ m) g)) xs) → Memᴰ m (x ∷ xs)
    go (inl e) = Memᴰ.head e
    go (inr q) = Memᴰ.tail (keep_if_out (λ m. not (same_literal (ground τ m) g)) xs q)
reason_literals_out τ g (suc i) (x ∷ xs) {m} h = go (λ k. reason_literals_out τ g i xs k) (same_literal (ground τ x) g) h
  where
    sub : (Memᴰ m (reason_literals τ g i xs) → Memᴰ m xs) → (m ≡ x) ⊎ Memᴰ m (reason_literals τ g i xs) → Memᴰ m (x ∷ xs)
    sub ih (inl e) = Memᴰ.head e
    sub ih (inr q) = Memᴰ.tail (ih q)

    go : (Memᴰ m (reason_literals τ g i xs) → Memᴰ m xs) → (b : Bool) → Memᴰ m (cond b (reason_literals τ g i xs) (x ∷ reason_literals τ g i xs)) → Memᴰ m (x ∷ xs)
    go ih true h = Memᴰ.tail (ih h)
    go ih false h = sub ih (Memᴰ.cases_cons h)

-- The literal itself, at its new place
reason_literals_get : (τ : List ℕ) (g : Literal) (i : ℕ) (ls : List Literal) → get_or (reason_literals τ g i ls) (own_index τ g i ls) no_literal ≡ get_or ls i no_literal
reason_literals_get τ g i [] = refl
reason_literals_get τ g zero (x ∷ xs) = refl
reason_literals_get τ g (suc i) (x ∷ xs) = go (same_literal (ground τ x) g) (reason_literals_get τ g i xs)
  where
    go : (b : Bool) → get_or (reason_literals τ g i xs) (own_index τ g i xs) no_literal ≡ get_or xs i no_literal → get_or (cond b (reason_literals τ g i xs) (x ∷ reason_literals τ g i xs)) (cond b (own_index τ g i xs) (suc (own_index τ g i xs))) no_literal ≡ get_or xs i no_literal
    go true h = h
    go false h = h

reason_literals_rest : (τ : List ℕ) (g : Literal) (i : ℕ) (ls : List Literal) {m : Literal} → Memᴰ m (without (own_index τ g i ls) (reason_literals τ g i ls)) → i < length ls → Memᴰ m ls × T (not (same_literal (ground τ m) g))
reason_literals_rest τ g i [] h lt = absurd (omega arith)
reason_literals_rest τ g zero (x ∷ xs) h lt = (Memᴰ.tail (keep_if_out (λ m. not (same_literal (ground τ m) g)) xs h), keep_if_sat (λ m. not (same_literal (ground τ m) g)) xs h)
reason_literals_rest τ g (suc i) (x ∷ xs) {m} h lt = go (λ k. reason_literals_rest τ g i xs k (omega arith)) (same_literal (ground τ x) g) refl h
  where
    W : List Literal → Type 0
    W ys = Memᴰ m ys × T (not (same_literal (ground τ m) g))

    up : W xs → W (x ∷ xs)
    up r = (Memᴰ.tail r.0, r.1)

    hd : same_literal (ground τ x) g ≡ false → (m ≡ x) ⊎ Memᴰ m (without (own_index τ g i xs) (reason_literals τ g i xs)) → (Memᴰ m (without (own_index τ g i xs) (reason_literals τ g i xs)) → W xs) → W (x ∷ xs)
    hd e (inl q) ih = (Memᴰ.head q, subst (λ b. T (not b)) (sym (ap (λ k. same_literal (ground τ k) g) q ∙ e)) tt)
    hd e (inr q) ih = up (ih q)

    go : (Memᴰ m (without (own_index τ g i xs) (reason_literals τ g i xs)) → W xs) → (b : Bool) → same_literal (ground τ x) g ≡ b → Memᴰ m (without (cond b (own_index τ g i xs) (suc (own_index τ g i xs))) (cond b (reason_literals τ g i xs) (x ∷ reason_literals τ g i xs))) → W (x ∷ xs)
    go ih true e h = up (ih h)
    go ih false e h = hd e (Memᴰ.cases_cons h) ih

map_without : {A B : Type 0} (f : A → B) (i : ℕ) (l : List A) → map f (without i l) ≡ without i (map f l)
map_without f i [] = refl
map_without f zero (x ∷ xs) = refl
map_without {B} f (suc i) (x ∷ xs) = ap {B = List B} (λ r. f x ∷ r) (map_without f i xs)

module _ (C : Clause) (i : ℕ) (τ : List ℕ) (n : ℕ) (lt : i < length C.literals) (wf : Inside C.variables C.atoms C.literals) (sz : Sized n C.variables τ) where
  L : Literal
  L = get_or C.literals i no_literal

  g : Literal
  unfolding L
  g = ground τ L

  fit : Fits C.variables τ (own_pairs τ g L C.literals)
  unfolding g
  fit x y m = let (k, a, b, c) = own_pairs_out τ g L C.literals m in
      let z = pair_up_mem (arguments L) (arguments k) x y c in
      (wf.arguments_in L (get_d_mem C.literals i no_literal lt) x z.0, wf.arguments_in k a y z.1, pair_up_back (under τ) (arguments L) (arguments k) (sym (ap (λ (q : Literal). arguments q) (same_literal→eq (ground τ k) g b))) x y c)

  wf' : Inside C.variables C.atoms (reason_literals τ g i C.literals)
  wf' = record { p_in = wf.p_in; q_in = wf.q_in; arguments_in = λ l m. wf.arguments_in l (reason_literals_out τ g i C.literals m) }

  pub reason_within : Inside (reason C i τ).of.clause.variables (reason C i τ).of.clause.atoms (reason C i τ).of.clause.literals
  unfolding g reason merge
  reason_within = merge_within (own_pairs τ g L C.literals) C.variables C.atoms (reason_literals τ g i C.literals) τ fit wf'

  pub reason_sized : Sized n (reason C i τ).of.clause.variables (reason C i τ).of.instance
  unfolding g reason merge
  reason_sized = merge_sized (own_pairs τ g L C.literals) C.variables C.atoms (reason_literals τ g i C.literals) τ fit wf' n sz

  pub reason_atoms : {a : Atom} → Memᴰ a (ground_atoms (reason C i τ).of.instance (reason C i τ).of.clause.atoms) → Memᴰ a (ground_atoms τ C.atoms)
  unfolding g reason merge
  reason_atoms = merge_atoms (own_pairs τ g L C.literals) C.variables C.atoms (reason_literals τ g i C.literals) τ fit wf'

  pub reason_literals_lem : map (ground (reason C i τ).of.instance) (reason C i τ).of.clause.literals ≡ map (ground τ) (reason_literals τ (ground τ (get_or C.literals i no_literal)) i C.literals)
  unfolding g reason merge
  reason_literals_lem = merge_literals (own_pairs τ g L C.literals) C.variables C.atoms (reason_literals τ g i C.literals) τ fit wf'

  pub reason_own : ground (reason C i τ).of.instance (get_or (reason C i τ).of.clause.literals (reason C i τ).own no_literal) ≡ ground τ (get_or C.literals i no_literal)
  unfolding reason_literals_lem g
  reason_own =
      sym (get_or-map (ground (reason C i τ).of.instance) (reason C i τ).of.clause.literals (reason C i τ).own no_literal)
      ∙ ap (λ l. get_or l (reason C i τ).own no_literal) reason_literals_lem
      ∙ get_or-map (ground τ) (reason_literals τ g i C.literals) (reason C i τ).own no_literal
      ∙ ap (ground τ) (reason_literals_get τ g i C.literals)

  -- Each other literal of the reason has the instance of a literal of the clause, another than L's
  pub reason_rest : {k : Literal} → Memᴰ k (map (ground (reason C i τ).of.instance) (without (reason C i τ).own (reason C i τ).of.clause.literals)) → (m : Literal) × Memᴰ m C.literals × T (not (same_literal (ground τ m) (ground τ (get_or C.literals i no_literal)))) × (ground τ m ≡ k)
  unfolding reason_literals_lem g
  reason_rest {k} h = go (Memᴰ.of_map (ground τ) (without (reason C i τ).own (reason_literals τ g i C.literals)) (subst (Memᴰ k) e h))
    where
      e : map (ground (reason C i τ).of.instance) (without (reason C i τ).own (reason C i τ).of.clause.literals) ≡ map (ground τ) (without (reason C i τ).own (reason_literals τ g i C.literals))
      e = map_without (ground (reason C i τ).of.instance) (reason C i τ).own (reason C i τ).of.clause.literals ∙ ap (without (reason C i τ).own) reason_literals_lem ∙ sym (map_without (ground τ) (reason C i τ).own (reason_literals τ g i C.literals))

      go : (m : Literal) × Memᴰ m (without (reason C i τ).own (reason_literals τ g i C.literals)) × (ground τ m ≡ k) → (m : Literal) × Memᴰ m C.literals × T (not (same_literal (ground τ m) (ground τ (get_or C.literals i no_literal)))) × (ground τ m ≡ k)
      go (m, a, b) = let r = reason_literals_rest τ g i C.literals a lt in (m, r.0, r.1, b)

-- ---- resolvent and factor
-- The blank literal's arguments are 0.
no_argument : (x : ℕ) → Memᴰ x (arguments no_literal) → x ≡ zero
no_argument x m = first (Memᴰ.cases_cons m)
  where
    third : (x ≡ zero) ⊎ Memᴰ x [] → x ≡ zero
    third (inl e) = e
    third (inr n) = absurd (Memᴰ.not-nil n)

    second : (x ≡ zero) ⊎ Memᴰ x (zero ∷ []) → x ≡ zero
    second (inl e) = e
    second (inr n) = third (Memᴰ.cases_cons n)

    first : (x ≡ zero) ⊎ Memᴰ x (zero ∷ zero ∷ []) → x ≡ zero
    first (inl e) = e
    first (inr n) = second (Memᴰ.cases_cons n)

arguments_at : (v : ℕ) (ls : List Literal) → ((l : Literal) → Memᴰ l ls → (x : ℕ) → Memᴰ x (arguments l) → x ≤ v) → (i x : ℕ) → Memᴰ x (arguments (get_or ls i no_literal)) → x ≤ v
arguments_at v [] h i x m = omega (arith, no_argument x m)
arguments_at v (l ∷ ls) h zero x m = h l (Memᴰ.head refl) x m
arguments_at v (l ∷ ls) h (suc i) x m = arguments_at v ls (λ k n. h k (Memᴰ.tail n)) i x m

pub under_left : (A B : List ℕ) (x : ℕ) → x ≤ length A → under (A ++ B) x ≡ under A x
under_left A B zero h = refl
under_left A B (suc x) h = get_or-append A B zero x (omega arith)

pub under_right : (A B : List ℕ) (x : ℕ) → under (A ++ B) (apart (length A) x) ≡ under B x
under_right A B zero = refl
under_right A B (suc x) = rw (eqb-suc-zero x) (ap (under (A ++ B)) q ∙ get_or-append-add A B x zero)
  where
    q : suc x + length A ≡ suc (length A + x)
    q = omega arith

apart_le : (v w x : ℕ) → x ≤ w → apart v x ≤ v + w
apart_le v w zero h = omega arith
apart_le v w (suc x) h = rw (eqb-suc-zero x) (omega arith)

pub sized_append : (n v w : ℕ) (A B : List ℕ) → Sized n v A → Sized n w B → Sized n (v + w) (A ++ B)
sized_append n v w A B a b = record { size = omega (arith, length-append A B, a.size, b.size); range = λ c m. go c (Memᴰ.append_cases A m) }
  where
    go : (c : ℕ) → Memᴰ c A ⊎ Memᴰ c B → T (between 1 n c)
    go c (inl m) = a.range c m
    go c (inr m) = b.range c m

module _ (N : Instanced) (j : ℕ) (R : Instanced) (i n : ℕ)
    (wN : Inside N.clause.variables N.clause.atoms N.clause.literals) (sN : Sized n N.clause.variables N.instance)
    (w_r : Inside R.clause.variables R.clause.atoms R.clause.literals) (s_r : Sized n R.clause.variables R.instance)
    (meet : ground N.instance (get_or N.clause.literals j no_literal) ≡ complement (ground R.instance (get_or R.clause.literals i no_literal))) where
  v : ℕ
  v = N.clause.variables

  w : ℕ
  w = R.clause.variables

  τ' : List ℕ
  τ' = N.instance ++ R.instance

  K : Literal
  K = get_or N.clause.literals j no_literal

  M : Literal
  M = get_or R.clause.literals i no_literal

  es : List (ℕ × ℕ)
  unfolding K M v
  es = pair_up (arguments K) (map (apart v) (arguments M))

  az : List Atom
  unfolding v
  az = N.clause.atoms ++ map (rename_atom (apart v)) R.clause.atoms

  ls : List Literal
  unfolding v
  ls = without j N.clause.literals ++ map (rename_literal (apart v)) (without i R.clause.literals)

  left : (x : ℕ) → x ≤ v → under τ' x ≡ under N.instance x
  unfolding τ' v
  left x h = under_left N.instance R.instance x (omega (arith, sN.size))

  right : (x : ℕ) → under τ' (apart v x) ≡ under R.instance x
  unfolding τ' v
  right x = subst (λ k. under (N.instance ++ R.instance) (apart k x) ≡ under R.instance x) sN.size (under_right N.instance R.instance x)

  together_fits : Fits (v + w) τ' es
  unfolding es w
  together_fits x y m =
      let z = pair_up_mem (arguments K) (map (apart v) (arguments M)) x y m in
      let a : x ≤ v = arguments_at v N.clause.literals wN.arguments_in j x z.0 in
      (omega arith, inr-le y z.1, pair_up_back (under τ') (arguments K) (map (apart v) (arguments M)) agree x y m)
    where
      inr-le : (y : ℕ) → Memᴰ y (map (apart v) (arguments M)) → y ≤ v + w
      inr-le y m = let (x, a, b) = Memᴰ.of_map (apart v) (arguments M) m in subst (λ k. k ≤ v + w) b (apart_le v w x (arguments_at w R.clause.literals w_r.arguments_in i x a))

      agree : map (under τ') (arguments K) ≡ map (under τ') (map (apart v) (arguments M))
      agree = map_same (under τ') (under N.instance) (arguments K) (λ x m. left x (arguments_at v N.clause.literals wN.arguments_in j x m))
          ∙ ap (λ (l : Literal). arguments l) meet
          ∙ sym (map-map (under τ') (apart v) (arguments M) ∙ map_same (λ x. under τ' (apart v x)) (under R.instance) (arguments M) (λ x m. right x))

  wf'' : Inside (v + w) az ls
  unfolding az ls w
  wf'' = record {
    p_in = λ a m. p-go a (Memᴰ.append_cases N.clause.atoms m);
    q_in = λ a m. q-go a (Memᴰ.append_cases N.clause.atoms m);
    arguments_in = λ l m x k. l-go l x k (Memᴰ.append_cases (without j N.clause.literals) m);
  }
    where
      p-go : (a : Atom) → Memᴰ a N.clause.atoms ⊎ Memᴰ a (map (rename_atom (apart v)) R.clause.atoms) → a.p ≤ v + w
      p-go a (inl m) = omega (arith, wN.p_in a m)
      p-go a (inr m) = let (b, c, e) = Memᴰ.of_map (rename_atom (apart v)) R.clause.atoms m in subst (λ (k : Atom). k.p ≤ v + w) e (apart_le v w b.p (w_r.p_in b c))

      q-go : (a : Atom) → Memᴰ a N.clause.atoms ⊎ Memᴰ a (map (rename_atom (apart v)) R.clause.atoms) → a.q ≤ v + w
      q-go a (inl m) = omega (arith, wN.q_in a m)
      q-go a (inr m) = let (b, c, e) = Memᴰ.of_map (rename_atom (apart v)) R.clause.atoms m in subst (λ (k : Atom). k.q ≤ v + w) e (apart_le v w b.q (w_r.q_in b c))

      l-go : (l : Literal) (x : ℕ) → Memᴰ x (arguments l) → Memᴰ l (without j N.clause.literals) ⊎ Memᴰ l (map (rename_literal (apart v)) (without i R.clause.literals)) → x ≤ v + w
      l-go l x k (inl m) = omega (arith, wN.arguments_in l (without_out j N.clause.literals m) x k)
      l-go l x k (inr m) =
          let (b, c, e) = Memᴰ.of_map (rename_literal (apart v)) (without i R.clause.literals) m in
          let (y, d, f) = Memᴰ.of_map (apart v) (arguments b) (subst (λ (q : Literal). Memᴰ x (arguments q)) (sym e) k) in
          subst (λ q. q ≤ v + w) f (apart_le v w y (w_r.arguments_in b (without_out i R.clause.literals c) y d))

  pub resolvent_sized : Sized n (resolvent N j R i).clause.variables (resolvent N j R i).instance
  unfolding es az ls w τ' resolvent merge
  resolvent_sized = merge_sized es (v + w) az ls τ' together_fits wf'' n (sized_append n v w N.instance R.instance sN s_r)

  pub resolvent_atoms : {a : Atom} → Memᴰ a (ground_atoms (resolvent N j R i).instance (resolvent N j R i).clause.atoms) → Memᴰ a (ground_atoms N.instance N.clause.atoms) ⊎ Memᴰ a (ground_atoms R.instance R.clause.atoms)
  unfolding es az ls w τ' merge resolvent
  resolvent_atoms {a} m = let (b, c, e) = Memᴰ.of_map (rename_atom (under τ')) az (merge_atoms es (v + w) az ls τ' together_fits wf'' m) in go b e (Memᴰ.append_cases N.clause.atoms c)
    where
      go : (b : Atom) → rename_atom (under τ') b ≡ a → Memᴰ b N.clause.atoms ⊎ Memᴰ b (map (rename_atom (apart v)) R.clause.atoms) → Memᴰ a (ground_atoms N.instance N.clause.atoms) ⊎ Memᴰ a (ground_atoms R.instance R.clause.atoms)
      go b e (inl m) = let e₁ = left b.p (wN.p_in b m) in let e₂ = left b.q (wN.q_in b m) in
          inl (Memᴰ.cast (sym e ∙ (λ k. record { p = e₁ k; q = e₂ k; c = b.c })) (Memᴰ.map (rename_atom (under N.instance)) m))
      go b e (inr m) = let (d, o, f) = Memᴰ.of_map (rename_atom (apart v)) R.clause.atoms m in
          inr (Memᴰ.cast (sym e ∙ sym (ap (rename_atom (under τ')) f) ∙ (λ k. record { p = right d.p k; q = right d.q k; c = d.c })) (Memᴰ.map (rename_atom (under R.instance)) o))

  pub resolvent_literals : map (ground (resolvent N j R i).instance) (resolvent N j R i).clause.literals ≡ map (ground N.instance) (without j N.clause.literals) ++ map (ground R.instance) (without i R.clause.literals)
  unfolding es az ls w τ' resolvent merge
  resolvent_literals = merge_literals es (v + w) az ls τ' together_fits wf''
      ∙ map-append (ground τ') (without j N.clause.literals) (map (rename_literal (apart v)) (without i R.clause.literals))
      ∙ ap₂ (λ a b. a ++ b)
      (map_same (ground τ') (ground N.instance) (without j N.clause.literals) one)
      (map-map (ground τ') (rename_literal (apart v)) (without i R.clause.literals) ∙ map_same (λ l. ground τ' (rename_literal (apart v) l)) (ground R.instance) (without i R.clause.literals) two)
    where
      one : (l : Literal) → Memᴰ l (without j N.clause.literals) → ground τ' l ≡ ground N.instance l
      one l m = rename_literal_same (under τ') (under N.instance) l (λ x k. left x (wN.arguments_in l (without_out j N.clause.literals m) x k))

      two : (l : Literal) → Memᴰ l (without i R.clause.literals) → ground τ' (rename_literal (apart v) l) ≡ ground R.instance l
      two l m = rename_literal_same (λ x. under τ' (apart v x)) (under R.instance) l (λ x k. right x)

module _ (N : Instanced) (i j n : ℕ)
    (wN : Inside N.clause.variables N.clause.atoms N.clause.literals) (sN : Sized n N.clause.variables N.instance)
    (meet : ground N.instance (get_or N.clause.literals (min i j) no_literal) ≡ ground N.instance (get_or N.clause.literals (max i j) no_literal)) where
  met : List (ℕ × ℕ)
  met = pair_up (arguments (get_or N.clause.literals (min i j) no_literal)) (arguments (get_or N.clause.literals (max i j) no_literal))

  met_fits : Fits N.clause.variables N.instance met
  unfolding met
  met_fits x y m =
      let A = arguments (get_or N.clause.literals (min i j) no_literal) in
      let B = arguments (get_or N.clause.literals (max i j) no_literal) in
      let z = pair_up_mem A B x y m in
      (arguments_at N.clause.variables N.clause.literals wN.arguments_in (min i j) x z.0, arguments_at N.clause.variables N.clause.literals wN.arguments_in (max i j) y z.1, pair_up_back (under N.instance) A B (ap (λ (l : Literal). arguments l) meet) x y m)

  fewer_placed : Inside N.clause.variables N.clause.atoms (without (max i j) N.clause.literals)
  fewer_placed = record { p_in = wN.p_in; q_in = wN.q_in; arguments_in = λ l m. wN.arguments_in l (without_out (max i j) N.clause.literals m) }

  pub factored_sized : Sized n (factored N i j).clause.variables (factored N i j).instance
  unfolding met factored merge
  factored_sized = merge_sized met N.clause.variables N.clause.atoms (without (max i j) N.clause.literals) N.instance met_fits fewer_placed n sN

  pub factored_atoms : {a : Atom} → Memᴰ a (ground_atoms (factored N i j).instance (factored N i j).clause.atoms) → Memᴰ a (ground_atoms N.instance N.clause.atoms)
  unfolding met factored merge
  factored_atoms = merge_atoms met N.clause.variables N.clause.atoms (without (max i j) N.clause.literals) N.instance met_fits fewer_placed

  pub factored_literals : map (ground (factored N i j).instance) (factored N i j).clause.literals ≡ map (ground N.instance) (without (max i j) N.clause.literals)
  unfolding met factored merge
  factored_literals = merge_literals met N.clause.variables N.clause.atoms (without (max i j) N.clause.literals) N.instance met_fits fewer_placed
