-- What the tests and calls of a turn are handed is the atom's and the square's; so each turn puts its atom in, and the answer is the right one.
use Rattle.std.proofs.Common.{◌≡◌, ◌∙◌, sym, ap, ap₂, subst, ℕ, ◌<◌, List, [], get_or, length, ℤ, pos, ◌+ℤ◌, to_z, of_z, w32, w64, lit<, arith, rules, Some}
use Rattle.std.specs.Int.Signed.{lt_z}
use mir.Val.{SFits}
use Rattle.basis.specs.declared.Atom.{Atom}
use Rattle.lists.proofs.Walk.{upto_none, upto_set}
use Rattle.integers.specs.Sides.{Within}
use Rattle.integers.proofs.Order.{lt_z_false, within_sum}
use Rattle.integers.proofs.Machine.{back, sum_fits, sum_back}
use Rattle.bounds.specs.Whole.{whole_bounds}
use Rattle.bounds.specs.Squares.{Square, lower, put}
use Rattle.bounds.proofs.Put.{put_had}
use Rattle.constraint.specs.Test.{Accepted, atom_at}
use Rattle.constraint.specs.Square.{places, most_bound, far, most_chain, at, entry, Keeping, Sound, Stands, Posed}
use Rattle.constraint.proofs.Stands.{row_stays}
use Rattle.constraint.proofs.Steps.{atoms_none, atoms_more, place_p, place_q, within_c}
use Rattle.constraint.proofs.Answers.{answer_yes, answer_no}
use Rattle.constraint.proofs.kept.Goals as goal
use Rattle.constraint.proofs.kept.Goals.{then-start-row, else-start-row, then-c-t+else-loop-row-test, else-c-t}

-- A turn: its atom, whose places and bound the machine reads as p, q and z.
module _ {constants : ℕ} {atoms : List Atom} (A : Accepted constants atoms) (k : ℕ) (hk : k < length atoms) {p q : ℕ} {z : ℤ}
    (is_p : p ≡ (atom_at atoms k).p) (is_q : q ≡ (atom_at atoms k).q) (widened : z ≡ to_z w32 (of_z w32 (atom_at atoms k).c)) where
  abbrev atom : Atom
  atom = atom_at atoms k

  p_fits : p < places
  p_fits = omega (arith, place_p constants atoms A k hk)

  q_fits : q < places
  q_fits = omega (arith, place_q constants atoms A k hk)

  z_is : z ≡ atom.c
  z_is = widened ∙ back w32 (within_c constants atoms A k hk) (lit< tt)

  z_small : Within most_bound z
  z_small = subst (Within most_bound) (sym z_is) (within_c constants atoms A k hk)

  abbrev read : ℤ
  read = to_z w64 (of_z w64 z)

  read_is : read ≡ atom.c
  read_is = back w64 z_small (lit< tt) ∙ z_is

  put_is : (d : Square whole_bounds) (i j : ℕ) → put whole_bounds d p q read i j ≡ put whole_bounds d atom.p atom.q atom.c i j
  put_is d i j = ap₂ (λ (m n : ℕ). put whole_bounds d m n read i j) is_p is_q ∙ ap (λ (x : ℤ). put whole_bounds d atom.p atom.q x i j) read_is

  module _ {t : List (List ℤ)} (S : Sound t) where
    -- The chain that the atom closes, ..
    chain_is : to_z w64 (of_z w64 (read +ℤ to_z w64 (of_z w64 (entry t q p)))) ≡ atom.c +ℤ entry t atom.q atom.p
    chain_is = sum_back w64 z_small (S.small q p q_fits p_fits) (lit< tt) ∙ ap₂ (λ (x y : ℤ). x +ℤ y) z_is (ap₂ (λ (m n : ℕ). entry t m n) is_q is_p)

    -- .. and the bound that stands where it is put in.
    had_is : to_z w64 (of_z w64 (entry t p q)) ≡ entry t p q
    had_is = back w64 (S.small p q p_fits q_fits) (lit< tt)

    -- Within the loop over the rows the row at i is still the old one, so its bounds are small, and what the machine reads of them are the old
    -- ones and their sums.
    module _ (u : List (List ℤ)) (i : ℕ) (hi : i < places) (row_is : get_or u i [] ≡ get_or t i []) where
      small : (j : ℕ) → j < places → Within far (entry u i j)
      small j h = subst (λ (row : List ℤ). Within far (at row j)) (sym row_is) (S.small i j hi h)

      start_fits : SFits w64 (to_z w64 (of_z w64 (entry u i p)) +ℤ read)
      start_fits = sum_fits w64 (small p p_fits) z_small (lit< tt)

      start_is : to_z w64 (of_z w64 (to_z w64 (of_z w64 (entry u i p)) +ℤ read)) ≡ entry t i p +ℤ read
      start_is = sum_back w64 (small p p_fits) z_small (lit< tt) ∙ ap₂ (λ (row : List ℤ) (x : ℤ). at row p +ℤ x) row_is (sym (back w64 z_small (lit< tt)))

      start_within : Within most_chain (to_z w64 (of_z w64 (to_z w64 (of_z w64 (entry u i p)) +ℤ read)))
      start_within = subst (Within most_chain) (sym (sum_back w64 (small p p_fits) z_small (lit< tt))) (within_sum (small p p_fits) z_small)

      old_is : to_z w64 (of_z w64 (entry u i q)) ≡ entry t i q
      old_is = back w64 (small q q_fits) (lit< tt) ∙ ap (λ (row : List ℤ). at row q) row_is

pub loop-a-init : goal.loop-a-init
loop-a-init c = (atoms_none c.args.constants c.args.atoms.now _ c.ordered-t.ensures, search rules)

pub returns-then-c-back-lt0 : goal.returns-then-c-back-lt0
returns-then-c-back-lt0 c =
    let s = c.loop-a.invariant in
    answer_no _ _ c.requires c.loop-a.a-index c.loop-a-test.true c.loop-a.t s.0
    (ap (λ (x : ℤ). lt_z x (pos 0)) (sym (chain_is c.requires c.loop-a.a-index c.loop-a-test.true c.from-p.ensures c.from-q.ensures c.from-c.ensures s.0.sound)) ∙ c.if-c-back-lt0.true)

pub bounds-t-q-then-c-t : goal.bounds-t-q-then-c-t
bounds-t-q-then-c-t c = q_fits c.requires c.loop-a.a-index c.loop-a-test.true c.from-p.ensures c.from-q.ensures c.from-c.ensures

pub loop-row-init : goal.loop-row-init
loop-row-init c = (p_fits c.requires c.loop-a.a-index c.loop-a-test.true c.from-p.ensures c.from-q.ensures c.from-c.ensures, q_fits c.requires c.loop-a.a-index c.loop-a-test.true c.from-p.ensures c.from-q.ensures c.from-c.ensures, upto_none [] _ _)

pub overflow_add-start : goal.overflow_add-start
overflow_add-start c =
    start_fits c.requires c.loop-a.a-index c.loop-a-test.true c.from-p.ensures c.from-q.ensures c.from-c.ensures c.loop-a.invariant.0.sound
    c.loop-row.row-items c.loop-row.row-index (search rules) (c.loop-row.invariant.2.rest c.loop-row.row-index (omega arith))

pub lower_row-requires : goal.lower_row-requires
lower_row-requires c = (
  λ j h. c.loop-a.invariant.0.sound.small _ j (q_fits c.requires c.loop-a.a-index c.loop-a-test.true c.from-p.ensures c.from-q.ensures c.from-c.ensures) h,
  start_within c.requires c.loop-a.a-index c.loop-a-test.true c.from-p.ensures c.from-q.ensures c.from-c.ensures c.loop-a.invariant.0.sound
      c.loop-row.row-items c.loop-row.row-index (search rules) (c.loop-row.invariant.2.rest c.loop-row.row-index (omega arith)),
)

pub loop-row-preserved : goal.loop-row-preserved
loop-row-preserved c =
    let sound = c.loop-a.invariant.0.sound in
    let hi : c.loop-row.row-index < places = search rules in
    let row_is = c.loop-row.invariant.2.rest c.loop-row.row-index (omega arith) in
    let start = start_is c.requires c.loop-a.a-index c.loop-a-test.true c.from-p.ensures c.from-q.ensures c.from-c.ensures sound c.loop-row.row-items c.loop-row.row-index hi row_is in
    let had = old_is c.requires c.loop-a.a-index c.loop-a-test.true c.from-p.ensures c.from-q.ensures c.from-c.ensures sound c.loop-row.row-items c.loop-row.row-index hi row_is in (
      c.loop-row.invariant.0,
      c.loop-row.invariant.1,
      elim c.if-start-row.branch [
        | then-start-row w ↦ rw w.row-items-is (upto_set [] _ c.loop-row.invariant.2 (omega arith)
            (λ j hj. w.lower_row.ensures j hj ∙ ap₂ (λ (x : ℤ) (row : List ℤ). lower whole_bounds (x +ℤ entry c.loop-a.t c.from-q.result j) (at row j)) start row_is))
        | else-start-row w ↦ rw w.row-items-is (upto_set [] _ c.loop-row.invariant.2 (omega arith)
            (λ j hj. ap (λ (row : List ℤ). at row j) row_is
            ∙ row_stays sound c.loop-row.row-index c.from-q.result _ hi (q_fits c.requires c.loop-a.a-index c.loop-a-test.true c.from-p.ensures c.from-q.ensures c.from-c.ensures)
            (lt_z_false (sym (ap₂ lt_z start had) ∙ w.if-start-row.false)) j hj))
      ],
    )

pub loop-a-preserved : goal.loop-a-preserved
loop-a-preserved c =
    let s = c.loop-a.invariant in
    let sound = s.0.sound in
    let put = put_is c.requires c.loop-a.a-index c.loop-a-test.true c.from-p.ensures c.from-q.ensures c.from-c.ensures (entry c.loop-a.t) in
    let chain = sym (ap (λ (x : ℤ). lt_z x (pos 0)) (chain_is c.requires c.loop-a.a-index c.loop-a-test.true c.from-p.ensures c.from-q.ensures c.from-c.ensures sound)) ∙ c.if-c-back-lt0.false in
    elim c.if-c-t.branch [
      | then-c-t+else-loop-row-test w ↦ rw w.t-is (
        atoms_more _ _ c.requires c.loop-a.a-index c.loop-a-test.true c.loop-a.t w.loop-row.row-items s.0
            (λ i j hi hj. w.loop-row.invariant.2.done i (omega (arith, w.loop-row-test.false)) j hj ∙ put i j) chain,
        w.loop-row.invariant.2.long ∙ s.1,
      )
      | else-c-t w ↦ rw w.t-is (
        atoms_more _ _ c.requires c.loop-a.a-index c.loop-a-test.true c.loop-a.t c.loop-a.t s.0
            (λ i j hi hj. sym (put_had whole_bounds places (entry c.loop-a.t) sound.closed c.from-p.result c.from-q.result _
            (p_fits c.requires c.loop-a.a-index c.loop-a-test.true c.from-p.ensures c.from-q.ensures c.from-c.ensures) (q_fits c.requires c.loop-a.a-index c.loop-a-test.true c.from-p.ensures c.from-q.ensures c.from-c.ensures)
            (lt_z_false (sym (ap (lt_z _) (had_is c.requires c.loop-a.a-index c.loop-a-test.true c.from-p.ensures c.from-q.ensures c.from-c.ensures sound)) ∙ w.if-c-t.false)) i j hi hj) ∙ put i j) chain,
        s.1,
      )
    ]

pub returns : goal.returns
returns c =
    let e : c.loop-a.a-index ≡ length c.args.atoms.now = omega arith in
    let all_in = subst (λ (k : ℕ). Stands (Posed c.args.constants c.args.atoms.now k) c.loop-a.t) e c.loop-a.invariant.0 in
    subst (λ (l : List ℤ). Keeping c.args.constants c.args.atoms.now (Some l)) (sym c.numbers_of.ensures) (answer_yes _ _ c.requires c.loop-a.t all_in)
