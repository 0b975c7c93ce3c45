-- The clauses of an accepted table are of the class and within the limits, and a run file with their bytes is read back as them.
use mathlib.Core.Path.{◌≡◌, refl, sym, ap, ◌∙◌, subst}
use mathlib.Core.List.Memᴰ
use mathlib.Core.List.{List, [], ◌∷◌, ◌++◌, Memᴰ}
use mathlib.Core.Logic.{⊎_elim}
use mathlib.Core.Option.{Option, none, some}
use Prim.Native.Nat.{ℕ, zero, suc, ◌+◌, ◌≤◌}
use native.Mathlib.Omega.{arith}
use lib.IntN.{ℤ}
use lib.ListN.{length, length-append, take, drop}
use lib.Seq.{take-append_seam}
use Rattle.basis.specs.Limits.{most_input}
use Rattle.basis.specs.declared.Atom.{Atom}
use Rattle.basis.specs.declared.Literal.{Literal}
use Rattle.basis.specs.Atoms.{InRange, Proper}
use Rattle.calculus.specs.Clauses.{Clause}
use Rattle.calculus.specs.Class.{InClass, Limited, Occurs, ProperLiteral, arity_of, in_literal}
use Rattle.runfile.specs.Readers.{got}
use Rattle.runfile.specs.File.{File, file, most_file}
use Rattle.runfile.specs.Written.{header_with, joined, written, written_clause}
use Rattle.runfile.specs.Claims.{Sayable}
use Rattle.runfile.proofs.Back.{read_back}
use Rattle.runfile.proofs.Joined.{joined_append}
use Rattle.lists.proofs.Members.{first_or_later}
use Rattle.lookup.specs.declared.Match.{Match}
use Rattle.lookup.specs.Tables.{Row, rows_of}
use Rattle.lookup.specs.TableClauses.{at_least, at_most, end_of, gets, gets_arities, row_clause, table_bytes, table_clauses}
use Rattle.lookup.specs.Making.{bytes_for}
use Rattle.lookup.specs.Claims.{TableAccepted, TableInClass, TableReadBack, WrittenExactly, with_input, written_among}
use Rattle.lookup.proofs.Rows.{AtEnd, EndRanged, Ranged, accepted_ranged, accepted_rise, each_atom, each_clause, negated_range, row_limited}
use Rattle.lookup.proofs.Lengths.{one_for_each}
use Rattle.lookup.proofs.Meaning.{gets_exactly}

-- ---- the class

one_known : (l : List ℕ) → arity_of l 1 ≡ 2 → 1 ≤ length l
one_known [] e = absurd (omega arith)
one_known (n ∷ l) e = omega arith

lower_proper : (v : ℕ) {k : ℤ} → 1 ≤ v → v ≤ 2 → InRange k → Proper InRange 2 (at_least v k)
lower_proper v h g r = record { p_place = omega arith; q_place = g; some_place = omega arith; c_range = negated_range r }

upper_proper : (v : ℕ) {k : ℤ} → 1 ≤ v → v ≤ 2 → InRange k → Proper InRange 2 (at_most v k)
upper_proper v h g r = record { p_place = g; q_place = omega arith; some_place = omega arith; c_range = r }

-- One place of each atom is 0: there are no differences.
abbrev OnePlace : Atom → Type 0
OnePlace a = ¬ (a.p ≡ zero) → ¬ (a.q ≡ zero) → ⊥

module _ (arities : List ℕ) (two : arity_of arities 1 ≡ 2) where
  gets_proper : ProperLiteral arities 2 gets
  gets_proper = record {
    from_one = omega arith;
    known = one_known arities two;
    its_arguments = rw two its;
    no_others = rw two others;
  }
    where
      its : (x : ℕ) → Memᴰ x (1 ∷ 2 ∷ []) → (1 ≤ x) × (x ≤ 2)
      its x (Memᴰ.head e) = (omega arith, omega arith)
      its x (Memᴰ.tail (Memᴰ.head e)) = (omega arith, omega arith)
      its x (Memᴰ.tail (Memᴰ.tail m)) = absurd (Memᴰ.not-nil m)

      others : (x : ℕ) → Memᴰ x (0 ∷ []) → x ≡ zero
      others x (Memᴰ.head e) = e
      others x (Memᴰ.tail m) = absurd (Memᴰ.not-nil m)

  row_in_class : (r : Row) (n : Option ℤ) → Ranged r → EndRanged n → InClass arities (row_clause r n)
  row_in_class r n h e = record {
    atoms_proper = each_atom (Proper InRange 2) r n (lower_proper 1 (omega arith) (omega arith) h.key_range) (upper n e) (lower_proper 2 (omega arith) (omega arith) h.result_range) (upper_proper 2 (omega arith) (omega arith) h.result_range);
    literals_proper = only;
    each_occurs = occurs;
    differences_bounded = λ a m p q. absurd (each_atom OnePlace r n (λ b c. b refl) (single n) (λ b c. b refl) (λ b c. c refl) a m p q);
  }
    where
      upper : (n : Option ℤ) → EndRanged n → AtEnd (Proper InRange 2) n
      upper none e = tt
      upper (some n) e = upper_proper 1 (omega arith) (omega arith) e

      single : (n : Option ℤ) → AtEnd OnePlace n
      single none = tt
      single (some n) = λ b c. c refl

      only : (l : Literal) → Memᴰ l (gets ∷ []) → ProperLiteral arities 2 l
      only l m = first_or_later m (λ q. subst (ProperLiteral arities 2) (sym q) gets_proper) (λ k. absurd (Memᴰ.not-nil k))

      occurs : (x : ℕ) → 1 ≤ x → x ≤ 2 → Occurs (row_clause r n) x
      occurs zero a b = absurd (omega arith)
      occurs (suc zero) a b = in_literal gets (Memᴰ.head refl) (Memᴰ.head refl)
      occurs (suc (suc zero)) a b = in_literal gets (Memᴰ.head refl) (Memᴰ.tail (Memᴰ.head refl))
      occurs (suc (suc (suc x))) a b = absurd (omega arith)

pub table_in_class : TableInClass
table_in_class keys results A m arities two =
    each_clause (λ C. InClass arities C × Limited C) m (rows_of keys results) (accepted_rise A) (accepted_ranged A) (λ r n h e. (row_in_class arities two r n h e, row_limited r n))

-- ---- the file

-- The bytes of a row's clause are the same wherever Gets has two arguments.
row_bytes : (arities : List ℕ) → arity_of arities 1 ≡ 2 → (r : Row) (n : Option ℤ) → written_clause arities (row_clause r n) ≡ written_clause gets_arities (row_clause r n)
unfolding written_clause
row_bytes arities two r n = rw two

same_bytes : (arities : List ℕ) → arity_of arities 1 ≡ 2 → (m : Match) (rows : List Row) → joined (written_clause arities) (table_clauses m rows) ≡ table_bytes m rows
same_bytes arities two m [] = refl
same_bytes arities two m (r ∷ later) = rw (row_bytes arities two r (end_of m r later), same_bytes arities two m later)

-- The file F with the table's clauses among its own
module _ {keys results : List ℤ} (A : TableAccepted keys results) (m : Match) (F : File) (h : Sayable F) (two : arity_of F.arities 1 ≡ 2)
    (before after : List Clause) (parted : F.input ≡ before ++ after) (room : length F.input + length keys ≤ most_input) where
  abbrev cs : List Clause
  cs = table_clauses m (rows_of keys results)

  abbrev G : File
  G = with_input F (before ++ cs ++ after)

  clauses_held : (C : Clause) → Memᴰ C (before ++ cs ++ after) → InClass F.arities C × Limited C
  clauses_held C k =
      ⊎_elim
      (λ q. ⊎_elim (λ q. own (Memᴰ.append_left after q)) (table_in_class keys results A m F.arities two C) (Memᴰ.append_cases before q))
      (λ q. own (Memᴰ.append_right before q))
      (Memᴰ.append_cases (before ++ cs) k)
    where
      own : Memᴰ C (before ++ after) → InClass F.arities C × Limited C
      own q = let n = subst (Memᴰ C) (sym parted) q in (h.admitted.in_class C n, h.admitted.limited C n)

  counted_with : length (before ++ cs ++ after) ≡ length F.input + length keys
  counted_with =
      omega (arith, length-append (before ++ cs) after, length-append before cs, one_for_each m A.in_order, ap length parted, length-append before after)

  sayable_with : Sayable G
  sayable_with = record {
    admitted = record {
      few_constants = h.admitted.few_constants;
      few_predicates = h.admitted.few_predicates;
      small_arities = h.admitted.small_arities;
      few_clauses = omega (arith, counted_with);
      in_class = λ C k. (clauses_held C k).0;
      limited = λ C k. (clauses_held C k).1;
      new = refl;
    };
    few_steps = h.few_steps;
    steps_held = h.steps_held;
  }

  written_is : written G ≡ written_among F before (length keys) (bytes_for keys results m) after
  unfolding header_with
  written_is =
      let w = written_clause F.arities in
      rw (counted_with, joined_append w (before ++ cs) after, joined_append w before cs, same_bytes F.arities two m (rows_of keys results))

pub table_read_back : TableReadBack
table_read_back keys results A m F h two before after parted room =
    subst (λ (s : List ℕ). length s ≤ most_file → file s ≡ got (G A m F h two before after parted room) (length s)) (written_is A m F h two before after parted room) (read_back (G A m F h two before after parted room) (sayable_with A m F h two before after parted room))

-- ---- from the buffer to the meaning

pub written_exactly : WrittenExactly
written_exactly keys results m d d' n (e, c, l) F h two before after parted room short =
    let A : TableAccepted keys results = record { few_rows = e.0; in_order = e.1.0 } in
    let w = bytes_for keys results m in
    let taken : take n d' ≡ w = ap (take n) l ∙ ap (λ (k : ℕ). take k (w ++ drop n d)) c ∙ take-append_seam w (drop n d) in (
      table_clauses m (rows_of keys results),
      rw taken (table_read_back keys results A m F h two before after parted room (rw taken at short)),
      gets_exactly keys results A m F.arities two,
    )
