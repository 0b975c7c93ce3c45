-- What the owner of a clause table finds of the atoms that a step names: after each turn of its loop, the record of those passed.
use mathlib.Core.Path.{◌∙◌, ◌≡◌, ap, refl, sym}
use mathlib.Core.List.{List, Memᴰ, [], map}
use mathlib.Core.Bool.{Bool, ◌&&◌, cond, false, true}
use Prim.Native.Nat.{◌+◌, ◌<◌, ◌≤◌, min, suc, zero, ℕ}
use native.Mathlib.Decide.{dec_lt, ℕ_discrete}
use native.Mathlib.Omega.{arith}
use lib.Dec.{eqb, leb}
use lib.ListN.{get_or-eq_default, get_or, length, replicate, set, take}
use lib.Seq.{get_or-take, take_all}
use borrow.Author.Tests.{ne_eqb}
use Rattle.basis.specs.Atoms.{no_atom}
use Rattle.basis.specs.Limits.{most_brought, most_variables}
use Rattle.basis.specs.declared.Atom.{Atom}
use Rattle.basis.specs.declared.Version.{Version}
use Rattle.lists.proofs.Arrays.{exactly_length, exactly_none, get_d_any, mapped_turn}
use Rattle.lists.proofs.Members.{get_d_mem}
use Rattle.lists.proofs.Walks.{all_of_more, take_more}
use Rattle.lists.specs.Arrays.{exactly}
use Rattle.lists.specs.Lists.{all_of}
use Rattle.calculus.specs.Checks.{between}
use Rattle.calculus.specs.Class.{Limited}
use Rattle.calculus.specs.Clauses as calculus
use Rattle.calculus.specs.Rules.{brought_at, source_in}
use Rattle.calculus.specs.States.{Backtrack, Conflict, Factorize, Grow, Propagate, Resolve, Skip, State, Unknown, clauses}
use Rattle.calculus.specs.Tests.{fits_in}
use Rattle.calculus.specs.Trails as trails
use Rattle.clauses.proofs.Records.{packed_holds, packed_says, past_table}
use Rattle.clauses.specs.Records.{clause_of, packed}
use Rattle.clauses.specs.declared.Clause.{Clause}
use Rattle.asking.specs.Looking.{atoms_looked, count_brought, count_looked, held_at, looked_in, named_at, named_of, named_rightly, right_in, slot_of}
use Rattle.asking.specs.Steps.{decide_of, instance_of, no_source, source_of, sources_in, step_of}
use Rattle.asking.specs.declared.Looked.{Looked}
use Rattle.asking.specs.declared.Named.{Named}
use Rattle.asking.specs.declared.Source.{Source}
use Rattle.asking.specs.declared.Step.{Step}
use Rattle.asking.proofs.Brought.{brought_at_lem, looked_count}
use Rattle.asking.proofs.Sources.{past_source}

-- ---- how many are looked at

-- For a step that is no Decide, none
pub none_counted : (v : Version) (x : Step) → ¬ (x.rule ≡ 2) → count_looked v x ≡ 0
none_counted v x h = ap (λ (b : Bool). cond b (min most_brought (count_brought v x)) 0) (ne_eqb x.rule 2 h)

few_counted : (v : Version) (x : Step) → count_looked v x ≤ most_brought
few_counted v x = go (eqb x.rule 2)
  where
    go : (b : Bool) → cond b (min most_brought (count_brought v x)) 0 ≤ most_brought
    go true = omega arith
    go false = omega arith

module _ (s : State) (x : Step) where
  looked_by : atoms_looked s (step_of x) ≡ cond (eqb x.rule 2) (atoms_looked s (decide_of x)) []
  looked_by = elim (ℕ_discrete x.rule 2) [
    | yes e ↦ rw e
    | no n ↦ rw (ne_eqb x.rule 2 n)
        (other (eqb x.rule 1) (eqb x.rule 3) (eqb x.rule 4) (eqb x.rule 5) (eqb x.rule 6) (eqb x.rule 7) (eqb x.rule 8))
  ]
    where
      other : (b1 b3 b4 b5 b6 b7 b8 : Bool) → atoms_looked s
          (cond b1 (Propagate x.clause x.literal (instance_of x))
          (cond b3 (Conflict x.clause (instance_of x))
          (cond b4 (Resolve x.literal)
          (cond b5 (Factorize x.literal x.other)
          (cond b6 Skip
          (cond b7 (Backtrack x.literal)
          (cond b8 (Grow x.amount) (Unknown x.rule)))))))) ≡ []
      other true b3 b4 b5 b6 b7 b8 = refl
      other false true b4 b5 b6 b7 b8 = refl
      other false false true b5 b6 b7 b8 = refl
      other false false false true b6 b7 b8 = refl
      other false false false false true b7 b8 = refl
      other false false false false false true b8 = refl
      other false false false false false false true = refl
      other false false false false false false false = refl

  pub looked_length : length (atoms_looked s (step_of x)) ≡ count_looked s.version x
  looked_length = ap length looked_by ∙ go (eqb x.rule 2)
    where
      go : (b : Bool) → length (cond b (atoms_looked s (decide_of x)) []) ≡ cond b (min most_brought (count_brought s.version x)) 0
      go true = looked_count s x
      go false = refl

  -- The one that a turn reads
  looked_source : (j : ℕ) → j < count_looked s.version x → j < length x.atoms → get_or (atoms_looked s (step_of x)) j (source_of no_source) ≡ source_of (get_or x.atoms j past_source)
  looked_source j h k = ap (λ (l : List trails.Source). get_or l j (source_of no_source)) looked_by ∙ go (eqb x.rule 2) h
    where
      go : (b : Bool) → j < cond b (min most_brought (count_brought s.version x)) 0 → get_or (cond b (atoms_looked s (decide_of x)) []) j (source_of no_source) ≡ source_of (get_or x.atoms j past_source)
      go true h = get_or-take most_brought (brought_at s (sources_in x.brought x)) j (source_of no_source) (omega arith) ∙ brought_at_lem s x j (omega arith) ∙ ap source_of (get_d_any x.atoms j no_source past_source k)
      go false h = absurd (omega arith)

-- ---- the record of those passed

-- After j turns
abbrev pub named_upto : State → Step → ℕ → Named
named_upto s x j = named_of s (take j (atoms_looked s (step_of x)))

-- Before the first turn none is passed ..
pub named_first : (s : State) (x : Step) {blank : Atom} → blank ≡ no_atom → record { right = true; at = replicate most_brought blank } ≡ named_upto s x 0
named_first s x e = λ i. record { right = true; at = (ap (replicate most_brought) e ∙ sym (exactly_none no_atom most_brought)) i }

-- .. and after the last one all are.
pub named_last : (s : State) (x : Step) {n j : ℕ} → n ≡ count_looked s.version x → n ≤ j → named_upto s x j ≡ named_at s (step_of x)
named_last s x {j = j} e h = ap (named_of s) (take_all j (atoms_looked s (step_of x)) (omega (arith, e, looked_length s x)))

-- ---- one turn

-- A clause of the table is what its record says, the blank one too.
pub held_says : (cs : List calculus.Clause) → ((C : calculus.Clause) → Memᴰ C cs → Limited C) → (c : ℕ) → clause_of (packed (held_at cs c)) ≡ held_at cs c
held_says cs limited zero = packed_holds calculus.no_clause (omega arith) (omega arith)
held_says cs limited (suc c) = elim (dec_lt c (length cs)) [
  | yes h ↦ packed_says (get_or cs c calculus.no_clause) (limited (get_or cs c calculus.no_clause) (get_d_mem cs c calculus.no_clause h))
  | no h ↦
      let past = get_or-eq_default cs calculus.no_clause {n = c} (omega arith) in
      ap (λ (C : calculus.Clause). clause_of (packed C)) past ∙ packed_holds calculus.no_clause (omega arith) (omega arith) ∙ sym past
]

-- What is asked of a source is what it has to be, where k is its clause.
right_is : (s : State) (k : Clause) (z : Source) → clause_of k ≡ held_at (clauses s) z.clause → right_in s.constants (length (clauses s)) k z ≡ named_rightly s (source_of z)
right_is s k z says =
    λ i. leb (sym (exactly_length 0 z.count z.instance) i) most_variables && (between 1 (length (clauses s)) z.clause && fits_in s.constants (says i) (source_of z))

-- The table's owner reads the source in slot j, the clause that it names, and asks and finds what it is.
module _ (s : State) (limited : (C : calculus.Clause) → Memᴰ C (clauses s) → Limited C) (table : List Clause)
    (found : (c : ℕ) → looked_in c (get_or table (slot_of c) past_table) ≡ record { clause = packed (held_at (clauses s) c) }) (x : Step) where
  pub named_turn : (j : ℕ) {constants held k : ℕ} {q : Looked} {right b right' : Bool} {at : List Atom} {a : Atom}
      → constants ≡ s.constants → held ≡ length (clauses s) → j < count_looked s.version x → length x.atoms ≡ most_brought
      → k ≡ slot_of (get_or x.atoms j past_source).clause → q ≡ looked_in (get_or x.atoms j past_source).clause (get_or table k past_table)
      → b ≡ right_in constants held q.clause (get_or x.atoms j past_source) → right' ≡ (right && b) → a ≡ source_in (clause_of q.clause) (source_of (get_or x.atoms j past_source))
      → record { right = right; at = at } ≡ named_upto s x j → record { right = right'; at = set at j a } ≡ named_upto s x (j + 1)
  named_turn j {constants} {held} {k} {q} {right} {b} {right'} {at} {a} constants_is held-is within long k-is q-is b-is right_so a-is before =
      λ i. record { right = rightly i; at = atoms i }
    where
      z : Source
      z = get_or x.atoms j past_source

      zs : List trails.Source
      zs = atoms_looked s (step_of x)

      room : j < most_brought
      room = omega (arith, within, few_counted s.version x)

      read : get_or zs j (source_of no_source) ≡ source_of z
      read = looked_source s x j within (omega (arith, room, long))

      inside : j < length zs
      inside = omega (arith, within, looked_length s x)

      says : clause_of q.clause ≡ held_at (clauses s) z.clause
      says = ap (λ (l : Looked). clause_of l.clause) (q-is ∙ ap (λ (m : ℕ). looked_in z.clause (get_or table m past_table)) k-is ∙ found z.clause) ∙ held_says (clauses s) limited z.clause

      rightly : right' ≡ all_of (named_rightly s) (take (j + 1) zs)
      rightly = right_so ∙ (λ i. (before i).right && (b-is ∙ (λ i. right_in (constants_is i) (held-is i) q.clause z) ∙ right_is s q.clause z says ∙ ap (named_rightly s) (sym read)) i)
          ∙ sym (ap (all_of (named_rightly s)) (take_more zs j (source_of no_source) inside) ∙ all_of_more (named_rightly s) (take j zs) (get_or zs j (source_of no_source)))

      named : trails.Source → Atom
      named w = source_in (held_at (clauses s) w.clause) w

      atoms : set at j a ≡ exactly most_brought no_atom (map named (take (j + 1) zs))
      atoms = (λ i. set (before i).at j ((a-is ∙ ap (λ (C : calculus.Clause). source_in C (source_of z)) says ∙ ap named (sym read)) i))
          ∙ mapped_turn named most_brought no_atom (source_of no_source) zs j inside room
