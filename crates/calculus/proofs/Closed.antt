-- Closing up is what the paper says of it, and nothing else is.
use mathlib.Core.Path.{◌∙◌, ◌≡◌, ap, refl, sym}
use mathlib.Core.Logic.{inl, inr}
use mathlib.Core.List.{List, Memᴰ, ◌∷◌}
use Prim.Native.Nat.{◌<◌, ◌≤◌, suc, zero, ℕ}
use native.Mathlib.Omega.{arith}
use lib.Dec.{eqb-suc-zero, leb, leb→le, ltb, ltb→lt, nleb→lt, nltb→le}
use lib.ListN.{length, length-map}
use lib.Seq.{ext_get_or}
use Rattle.basis.specs.declared.Atom.{Atom}
use Rattle.lists.proofs.Counting.{index_of_rises, up_from_mem, up_from_out}
use Rattle.lists.proofs.Members.{keep_if_in, keep_if_out, keep_if_sat, map_same}
use Rattle.lists.proofs.Tests.{Said, fails, holds, said}
use Rattle.lists.specs.Lists.{index_of, keep_if, up_from}
use Rattle.calculus.specs.Class.{Occurs, in_atom, in_literal}
use Rattle.calculus.specs.Clauses.{Clause, Instanced, rename_atom, rename_literal, under}
use Rattle.calculus.specs.Merges.{ClosedUp, ClosedUpOnce, NumbersCloseUp, Remains}
use Rattle.calculus.specs.Merging.{close_up, occurs_in}
use Rattle.calculus.proofs.Admitting.{occurs_says}
use Rattle.calculus.proofs.Class.{closed_from, closed_renames}
use Rattle.calculus.proofs.Instances.{close_get}
use Rattle.calculus.proofs.Merged.{rename_literal_same}

pub numbers_close_up : NumbersCloseUp
unfolding close_up
numbers_close_up K = record {
  number = λ x. index_of x (zero ∷ ks);
  zero_stays = refl;
  numbered = λ x (a, b, o). (closed_renames C.variables C.atoms C.literals).stays_in x ((occurs_says C x).1 o) a b;
  no_others = from;
  in_order = λ x y r s. rising x y r.0 (kept x r) (kept y s);
  same_atoms = refl;
  same_literals = refl;
  one_each = length-map ks (under K.instance);
  same_constant = λ x r. close_get K.instance ks x (inr (kept x r));
}
  where
    C : Clause
    C = K.clause

    ks : List ℕ
    ks = keep_if (occurs_in C.atoms C.literals) (up_from 1 C.variables)

    kept : (x : ℕ) → Remains K x → Memᴰ x ks
    kept x (a, b, o) = keep_if_in (occurs_in C.atoms C.literals) (up_from 1 C.variables) (up_from_mem 1 C.variables x a (omega arith)) ((occurs_says C x).1 o)

    from : (k : ℕ) → 1 ≤ k → k ≤ length ks → (x : ℕ) × Remains K x × (index_of x (zero ∷ ks) ≡ k)
    from zero a b = absurd (omega arith)
    from (suc j) a b =
        let (y, m, e) = closed_from C.variables C.atoms C.literals j b in
        let (l, u) = up_from_out 1 C.variables y (keep_if_out (occurs_in C.atoms C.literals) (up_from 1 C.variables) m) in
        (y, (l, omega arith, (occurs_says C y).0 (keep_if_sat (occurs_in C.atoms C.literals) (up_from 1 C.variables) m)), e)

    rising : (x y : ℕ) → 1 ≤ x → Memᴰ x ks → Memᴰ y ks → x < y → index_of x (zero ∷ ks) < index_of y (zero ∷ ks)
    rising zero y a m n h = absurd (omega arith)
    rising (suc x) zero a m n h = absurd (omega arith)
    rising (suc x) (suc y) a m n h = rw (eqb-suc-zero x) (rw (eqb-suc-zero y) (omega (arith, index_of_rises (occurs_in C.atoms C.literals) 1 C.variables (suc x) (suc y) m n h)))

-- ---- uniqueness

-- What has the same numbers below x has no smaller one for x.
at_most : {K A B : Instanced} (a : ClosedUp K A) (b : ClosedUp K B) (x : ℕ) → Remains K x → ((y : ℕ) → y < x → Remains K y → a.number y ≡ b.number y) → a.number x ≤ b.number x
at_most {K} a b x r h = go (said (leb (a.number x) (b.number x)))
  where
    pick : (y : ℕ) → Remains K y → a.number y ≡ b.number x → b.number x < a.number x → Said (ltb y x) → Said (ltb x y) → a.number x ≤ b.number x
    pick y s e l (holds t) u = let k = ltb→lt y x t in omega (arith, h y k s, b.in_order y x s r k)
    pick y s e l (fails t) (holds u) = omega (arith, a.in_order x y r s (ltb→lt x y u))
    pick y s e l (fails t) (fails u) = let q : y ≡ x = omega (arith, nltb→le y x t, nltb→le x y u) in omega (arith, ap a.number q)

    go : Said (leb (a.number x) (b.number x)) → a.number x ≤ b.number x
    go (holds t) = leb→le (a.number x) (b.number x) t
    go (fails t) =
        let l = nleb→lt (a.number x) (b.number x) t in
        let (y, s, e) = a.no_others (b.number x) (b.numbered x r).0 (omega (arith, (a.numbered x r).1)) in
        pick y s e l (said (ltb y x)) (said (ltb x y))

same_number : {K A B : Instanced} (a : ClosedUp K A) (b : ClosedUp K B) (n x : ℕ) → x < n → Remains K x → a.number x ≡ b.number x
same_number a b zero x h r = absurd (omega arith)
same_number a b (suc n) x h r =
    omega (arith, at_most a b x r (λ y l s. same_number a b n y (omega arith) s), at_most b a x r (λ y l s. sym (same_number a b n y (omega arith) s)))

no_more : {K A B : Instanced} → ClosedUp K A → ClosedUp K B → A.clause.variables ≤ B.clause.variables
no_more {K} {A} {B} a b = go (said (leb 1 A.clause.variables))
  where
    go : Said (leb 1 A.clause.variables) → A.clause.variables ≤ B.clause.variables
    go (holds t) =
        let (x, r, e) = a.no_others A.clause.variables (leb→le 1 A.clause.variables t) (omega arith) in
        omega (arith, same_number a b (suc x) x (omega arith) r, (b.numbered x r).1)
    go (fails t) = omega (arith, nleb→lt 1 A.clause.variables t)

pub closed_up_once : ClosedUpOnce
closed_up_once K A B inside a b = λ i. record { clause = record { variables = count i; atoms = atoms i; literals = literals i }; instance = instance i }
  where
    place : (x : ℕ) → Occurs K.clause x → a.number x ≡ b.number x
    place zero o = a.zero_stays ∙ sym b.zero_stays
    place (suc x) o = same_number a b (suc (suc x)) (suc x) (omega arith) (omega arith, inside (suc x) o, o)

    count : A.clause.variables ≡ B.clause.variables
    count = omega (arith, no_more a b, no_more b a)

    atom : (c : Atom) → Memᴰ c K.clause.atoms → rename_atom a.number c ≡ rename_atom b.number c
    atom c m = let e = place c.p (in_atom c m (inl refl)) in let f = place c.q (in_atom c m (inr refl)) in λ i. record { p = e i; q = f i; c = c.c }

    atoms : A.clause.atoms ≡ B.clause.atoms
    atoms = a.same_atoms ∙ map_same (rename_atom a.number) (rename_atom b.number) K.clause.atoms atom ∙ sym b.same_atoms

    literals : A.clause.literals ≡ B.clause.literals
    literals = a.same_literals
        ∙ map_same (rename_literal a.number) (rename_literal b.number) K.clause.literals (λ l m. rename_literal_same a.number b.number l (λ x n. place x (in_literal l m n)))
        ∙ sym b.same_literals

    constant : (k : ℕ) → k < length A.instance → under A.instance (suc k) ≡ under B.instance (suc k)
    constant k h =
        let (x, r, e) = a.no_others (suc k) (omega arith) (omega (arith, a.one_each)) in
        ap (under A.instance) (sym e) ∙ a.same_constant x r ∙ sym (b.same_constant x r) ∙ ap (under B.instance) (sym (same_number a b (suc x) x (omega arith) r) ∙ e)

    instance : A.instance ≡ B.instance
    instance = ext_get_or zero A.instance B.instance (a.one_each ∙ count ∙ sym b.one_each) constant
