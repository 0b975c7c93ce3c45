-- Merging keeps the instances of literals and atoms, and the places within the variables.
use mathlib.Core.Path.{◌∙◌, ◌≡◌, ap, refl, subst, sym}
use mathlib.Core.Logic.{◌⊎◌, inl, inr}
use mathlib.Core.List.Memᴰ
use mathlib.Core.List.{List, Memᴰ, [], ◌∷◌, map, map-map}
use mathlib.Core.Bool.{◌||◌}
use Prim.Native.Nat.{◌≤◌, max, suc, zero, ℕ}
use native.Mathlib.Omega.{arith}
use lib.Dec.{T, eqb, eqb_refl, eqb-suc-zero, eqb→eq, leb}
use lib.ListN.{get_or, length, length-map}
use Rattle.basis.specs.declared.Atom.{Atom}
use Rattle.basis.specs.declared.Literal.{Literal}
use Rattle.lists.proofs.Counting.{index_of_get, index_of_lt, up_from_get, up_from_mem, up_from_out}
use Rattle.lists.proofs.Members.{any_of_in, get_d_mem, keep_if_in, keep_if_out, map_same}
use Rattle.lists.proofs.Tests.{F→eq, Said, T→eq, fails, holds, or_l, or_r, said}
use Rattle.lists.specs.Lists.{any_of, index_of, keep_if, up_from}
use Rattle.calculus.specs.Checks.{between}
use Rattle.calculus.specs.Clauses.{Instanced, arguments, ground, rename_atom, rename_literal, under}
use Rattle.calculus.specs.Merging.{close_up, distinct, join, joins, merge, occurs_in}
use Rattle.calculus.proofs.Merged.{distinct_in, distinct_out, rename_literal_same, swap, under_join}

pub swap_fix : {A : Type 0} (f : ℕ → A) (a b w : ℕ) → f a ≡ f b → f (swap a b w) ≡ f w
swap_fix {A} f a b w e = go (said (eqb w (max a b))) (said (leb a b))
  where
    go : Said (eqb w (max a b)) → Said (leb a b) → f (swap a b w) ≡ f w
    go (fails t) s = rw (F→eq (eqb w (max a b)) t) refl
    go (holds t) (holds s) =
        let q : w ≡ max a b = eqb→eq w (max a b) t in
        rw (T→eq (eqb w (max a b)) t) (ap f (omega (arith, lib.Dec.leb→le a b s)) ∙ e ∙ ap f (omega (arith, lib.Dec.leb→le a b s)))
    go (holds t) (fails s) =
        let q : w ≡ max a b = eqb→eq w (max a b) t in
        rw (T→eq (eqb w (max a b)) t) (ap f (omega (arith, lib.Dec.nleb→lt a b s)) ∙ sym e ∙ ap f (omega (arith, lib.Dec.nleb→lt a b s)))

swap_le : (a b w : ℕ) → swap a b w ≤ w
swap_le a b w = go (said (eqb w (max a b)))
  where
    go : Said (eqb w (max a b)) → swap a b w ≤ w
    go (holds t) = let q : w ≡ max a b = eqb→eq w (max a b) t in rw (T→eq (eqb w (max a b)) t) (omega arith)
    go (fails t) = rw (F→eq (eqb w (max a b)) t) (omega arith)

pub joins_le : (es : List (ℕ × ℕ)) (σ : List ℕ) (x : ℕ) → under (joins es σ) x ≤ under σ x
joins_le [] σ x = omega arith
joins_le (p ∷ es) σ x =
    let h = joins_le es (join p.0 p.1 σ) x in
    let k = swap_le (under σ p.0) (under σ p.1) (under σ x) in
    let e = under_join p.0 p.1 σ x in
    omega arith

pub up_from_under : (v x : ℕ) → x ≤ v → under (up_from 1 v) x ≡ x
up_from_under v zero h = refl
up_from_under v (suc x) h = let k = up_from_get 1 v x (omega arith) in omega arith

pub close_get : (τ ks : List ℕ) (y : ℕ) → (y ≡ zero) ⊎ Memᴰ y ks → under (map (under τ) ks) (index_of y (zero ∷ ks)) ≡ under τ y
close_get τ ks zero c = refl
close_get τ ks (suc y) (inl e) = absurd (omega arith)
close_get τ ks (suc y) (inr m) = rw (eqb-suc-zero y) (index_of_get (under τ) (suc y) ks m)

module _ (v : ℕ) (τ : List ℕ) where
  -- The pairs are of variables up to v that τ sends to one constant
  abbrev pub Fits : List (ℕ × ℕ) → Type 0
  Fits es = (x y : ℕ) → Memᴰ (x, y) es → (x ≤ v) × (y ≤ v) × (under τ x ≡ under τ y)

  joins_fix : (es : List (ℕ × ℕ)) (σ : List ℕ) → Fits es → ((x : ℕ) → x ≤ v → under τ (under σ x) ≡ under τ x) → (x : ℕ) → x ≤ v → under τ (under (joins es σ) x) ≡ under τ x
  joins_fix [] σ f h x k = h x k
  joins_fix (p ∷ es) σ f h x k = joins_fix es (join p.0 p.1 σ) (λ a b m. f a b (Memᴰ.tail m))
      (λ y l. ap (under τ) (under_join p.0 p.1 σ y) ∙ swap_fix (under τ) (under σ p.0) (under σ p.1) (under σ y) same ∙ h y l) x k
    where
      q : (p.0 ≤ v) × (p.1 ≤ v) × (under τ p.0 ≡ under τ p.1)
      q = f p.0 p.1 (Memᴰ.head refl)

      same : under τ (under σ p.0) ≡ under τ (under σ p.1)
      same = h p.0 q.0 ∙ q.2 ∙ sym (h p.1 q.1)

-- The places of the atoms and the literals are at most v
pub record Inside (v : ℕ) (az : List Atom) (ls : List Literal) : Type 0 where
  pub p_in : (a : Atom) → Memᴰ a az → a.p ≤ v
  pub q_in : (a : Atom) → Memᴰ a az → a.q ≤ v
  pub arguments_in : (l : Literal) → Memᴰ l ls → (x : ℕ) → Memᴰ x (arguments l) → x ≤ v

-- The constants of an instance
pub record Sized (n v : ℕ) (τ : List ℕ) : Type 0 where
  pub size : length τ ≡ v
  pub range : (c : ℕ) → Memᴰ c τ → T (between 1 n c)

under_range : (n v : ℕ) (τ : List ℕ) → Sized n v τ → (x : ℕ) → 1 ≤ x → x ≤ v → T (between 1 n (under τ x))
under_range n v τ z zero h k = absurd (omega arith)
under_range n v τ z (suc x) h k = z.range (get_or τ x zero) (get_d_mem τ x zero (omega (arith, z.size)))

module _ (es : List (ℕ × ℕ)) (v : ℕ) (az : List Atom) (ls : List Literal) (τ : List ℕ) (fit : Fits v τ es) (wf : Inside v az ls) where
  σ : List ℕ
  σ = joins es (up_from 1 v)

  az₁ : List Atom
  unfolding σ
  az₁ = distinct (map (rename_atom (under σ)) az)

  ls₁ : List Literal
  unfolding σ
  ls₁ = map (rename_literal (under σ)) ls

  ks : List ℕ
  unfolding az₁ ls₁
  ks = keep_if (occurs_in az₁ ls₁) (up_from 1 v)

  M : Instanced
  M = merge es v az ls τ

  small : (x : ℕ) → x ≤ v → under σ x ≤ v
  unfolding σ
  small x h = let k = joins_le es (up_from 1 v) x in let e = up_from_under v x h in omega arith

  kept : (y : ℕ) → y ≤ v → T (occurs_in az₁ ls₁ y) → (y ≡ zero) ⊎ Memᴰ y ks
  unfolding ks
  kept zero h t = inl refl
  kept (suc y) h t = inr (keep_if_in (occurs_in az₁ ls₁) (up_from 1 v) (up_from_mem 1 v (suc y) (omega arith) (omega arith)) t)

  -- A variable that stays in use has its constant
  back_under : (x : ℕ) → x ≤ v → T (occurs_in az₁ ls₁ (under σ x)) → under M.instance (index_of (under σ x) (zero ∷ ks)) ≡ under τ x
  unfolding ks M merge close_up
  back_under x h t = close_get τ ks (under σ x) (kept (under σ x) (small x h) t) ∙ joins_fix v τ es (up_from 1 v) fit (λ y k. ap (under τ) (up_from_under v y k)) x h

  used_p : (a : Atom) → Memᴰ a az → T (occurs_in az₁ ls₁ (under σ a.p))
  unfolding az₁
  used_p a m = or_l (any_of (λ b. eqb (under σ a.p) b.p || eqb (under σ a.p) b.q) az₁) (any_of (λ l. any_of (eqb (under σ a.p)) (arguments l)) ls₁)
      (any_of_in (λ b. eqb (under σ a.p) b.p || eqb (under σ a.p) b.q) az₁ (distinct_in (map (rename_atom (under σ)) az) (Memᴰ.map (rename_atom (under σ)) m)) (or_l (eqb (under σ a.p) (under σ a.p)) (eqb (under σ a.p) (under σ a.q)) (eqb_refl (under σ a.p))))

  used_q : (a : Atom) → Memᴰ a az → T (occurs_in az₁ ls₁ (under σ a.q))
  unfolding az₁
  used_q a m = or_l (any_of (λ b. eqb (under σ a.q) b.p || eqb (under σ a.q) b.q) az₁) (any_of (λ l. any_of (eqb (under σ a.q)) (arguments l)) ls₁)
      (any_of_in (λ b. eqb (under σ a.q) b.p || eqb (under σ a.q) b.q) az₁ (distinct_in (map (rename_atom (under σ)) az) (Memᴰ.map (rename_atom (under σ)) m)) (or_r (eqb (under σ a.q) (under σ a.p)) (eqb (under σ a.q) (under σ a.q)) (eqb_refl (under σ a.q))))

  used_argument : (l : Literal) → Memᴰ l ls → (x : ℕ) → Memᴰ x (arguments l) → T (occurs_in az₁ ls₁ (under σ x))
  unfolding ls₁
  used_argument l m x n = or_r (any_of (λ b. eqb (under σ x) b.p || eqb (under σ x) b.q) az₁) (any_of (λ l. any_of (eqb (under σ x)) (arguments l)) ls₁)
      (any_of_in (λ l. any_of (eqb (under σ x)) (arguments l)) ls₁ (Memᴰ.map (rename_literal (under σ)) m) (any_of_in (eqb (under σ x)) (map (under σ) (arguments l)) (Memᴰ.map (under σ) n) (eqb_refl (under σ x))))

  pub merge_literals : map (ground (merge es v az ls τ).instance) (merge es v az ls τ).clause.literals ≡ map (ground τ) ls
  unfolding M ks merge close_up
  merge_literals = map-map (ground M.instance) (rename_literal r) ls₁ ∙ map-map (λ l. ground M.instance (rename_literal r l)) (rename_literal (under σ)) ls ∙ map_same (λ l. ground M.instance (rename_literal r (rename_literal (under σ) l))) (ground τ) ls one
    where
      r : ℕ → ℕ
      r x = index_of x (zero ∷ ks)

      one : (l : Literal) → Memᴰ l ls → ground M.instance (rename_literal r (rename_literal (under σ) l)) ≡ ground τ l
      one l m = rename_literal_same (λ x. under M.instance (r (under σ x))) (under τ) l (λ x n. back_under x (wf.arguments_in l m x n) (used_argument l m x n))

  pub merge_atoms : {a : Atom} → Memᴰ a (map (rename_atom (under (merge es v az ls τ).instance)) (merge es v az ls τ).clause.atoms) → Memᴰ a (map (rename_atom (under τ)) az)
  unfolding M ks merge close_up
  merge_atoms {a} m = go (Memᴰ.of_map (rename_atom (under M.instance)) (map (rename_atom r) az₁) m)
    where
      r : ℕ → ℕ
      r x = index_of x (zero ∷ ks)

      last : (b : Atom) → Memᴰ b az → rename_atom (under M.instance) (rename_atom r (rename_atom (under σ) b)) ≡ a → Memᴰ a (map (rename_atom (under τ)) az)
      last b n e =
          let e₁ = back_under b.p (wf.p_in b n) (used_p b n) in
          let e₂ = back_under b.q (wf.q_in b n) (used_q b n) in
          Memᴰ.cast (sym e ∙ (λ i. record { p = e₁ i; q = e₂ i; c = b.c })) (Memᴰ.map (rename_atom (under τ)) n)

      go₂ : (c : Atom) → rename_atom (under M.instance) (rename_atom r c) ≡ a → ((b : Atom) × Memᴰ b az × (rename_atom (under σ) b ≡ c)) → Memᴰ a (map (rename_atom (under τ)) az)
      go₂ c e (b, n, q) = last b n (ap (λ k. rename_atom (under M.instance) (rename_atom r k)) q ∙ e)

      go₁ : (b : Atom) → rename_atom (under M.instance) b ≡ a → ((c : Atom) × Memᴰ c az₁ × (rename_atom r c ≡ b)) → Memᴰ a (map (rename_atom (under τ)) az)
      go₁ b e (c, n, q) = go₂ c (ap (rename_atom (under M.instance)) q ∙ e) (Memᴰ.of_map (rename_atom (under σ)) az (distinct_out (map (rename_atom (under σ)) az) n))

      go : ((b : Atom) × Memᴰ b (map (rename_atom r) az₁) × (rename_atom (under M.instance) b ≡ a)) → Memᴰ a (map (rename_atom (under τ)) az)
      go (b, n, e) = go₁ b e (Memᴰ.of_map (rename_atom r) az₁ n)

  pub merge_sized : (n : ℕ) → Sized n v τ → Sized n (merge es v az ls τ).clause.variables (merge es v az ls τ).instance
  unfolding M ks merge close_up
  merge_sized n z = record { size = length-map ks (under τ); range = λ c m. go c (Memᴰ.of_map (under τ) ks m) }
    where
      go : (c : ℕ) → (k : ℕ) × Memᴰ k ks × (under τ k ≡ c) → T (between 1 n c)
      go c (k, m, e) =
          let b = up_from_out 1 v k (keep_if_out (occurs_in az₁ ls₁) (up_from 1 v) m) in
          subst (λ x. T (between 1 n x)) e (under_range n v τ z k b.0 (omega (arith, b.1)))

  -- A variable in use has its number among the new ones
  renamed : (y : ℕ) → (y ≡ zero) ⊎ Memᴰ y ks → index_of y (zero ∷ ks) ≤ length ks
  unfolding ks
  renamed zero c = omega arith
  renamed (suc y) (inl e) = absurd (omega arith)
  renamed (suc y) (inr m) = rw (eqb-suc-zero y) (omega (arith, index_of_lt (suc y) ks m))

  pub merge_within : Inside (merge es v az ls τ).clause.variables (merge es v az ls τ).clause.atoms (merge es v az ls τ).clause.literals
  unfolding M ks merge close_up
  merge_within = record { p_in = λ a m. p-go a (Memᴰ.of_map (rename_atom r) az₁ m); q_in = λ a m. q-go a (Memᴰ.of_map (rename_atom r) az₁ m); arguments_in = λ l m x n. l-go l x n (Memᴰ.of_map (rename_literal r) ls₁ m) }
    where
      r : ℕ → ℕ
      r x = index_of x (zero ∷ ks)

      in_place : (x : ℕ) → x ≤ v → T (occurs_in az₁ ls₁ (under σ x)) → r (under σ x) ≤ length ks
      in_place x h t = renamed (under σ x) (kept (under σ x) (small x h) t)

      from : {c : Atom} → Memᴰ c az₁ → (b : Atom) × Memᴰ b az × (rename_atom (under σ) b ≡ c)
      from m = Memᴰ.of_map (rename_atom (under σ)) az (distinct_out (map (rename_atom (under σ)) az) m)

      p-go : (a : Atom) → (c : Atom) × Memᴰ c az₁ × (rename_atom r c ≡ a) → a.p ≤ length ks
      p-go a (c, m, e) = let (b, n, q) = from m in
          subst (λ (k : Atom). k.p ≤ length ks) (ap (rename_atom r) q ∙ e) (in_place b.p (wf.p_in b n) (used_p b n))

      q-go : (a : Atom) → (c : Atom) × Memᴰ c az₁ × (rename_atom r c ≡ a) → a.q ≤ length ks
      q-go a (c, m, e) = let (b, n, q) = from m in
          subst (λ (k : Atom). k.q ≤ length ks) (ap (rename_atom r) q ∙ e) (in_place b.q (wf.q_in b n) (used_q b n))

      arg : (k : Literal) → Memᴰ k ls → (x : ℕ) → (y : ℕ) × Memᴰ y (map (under σ) (arguments k)) × (r y ≡ x) → x ≤ length ks
      arg k m x (y, n, e) = let (w, o, q) = Memᴰ.of_map (under σ) (arguments k) n in
          subst (λ u. u ≤ length ks) (ap r q ∙ e) (in_place w (wf.arguments_in k m w o) (used_argument k m w o))

      l-go : (l : Literal) (x : ℕ) → Memᴰ x (arguments l) → (c : Literal) × Memᴰ c ls₁ × (rename_literal r c ≡ l) → x ≤ length ks
      l-go l x n (c, m, e) = let (k, o, q) = Memᴰ.of_map (rename_literal (under σ)) ls m in
          arg k o x (Memᴰ.of_map r (map (under σ) (arguments k)) (subst (λ (u : Literal). Memᴰ x (arguments u)) (sym (ap (rename_literal r) q ∙ e)) n))
