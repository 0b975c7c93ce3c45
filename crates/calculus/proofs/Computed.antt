-- The rules as checks that compute, where a Boolean tells what is possible. What they say is what specs/Conditions.antt says in the paper's
-- words: Asks.antt and Answers.antt prove it.
use mathlib.Core.List.{List, [], ◌∷◌}
use mathlib.Core.Bool.{Bool, false, not, ◌&&◌, ◌||◌, cond}
use Prim.Native.Nat.{ℕ, zero, suc, ◌+◌, ◌-◌}
use lib.Dec.{eqb, leb, ltb}
use lib.ListN.{length, get_or}
use Rattle.basis.specs.Limits.{most_variables, most_learned, most_constants, most_entries}
use Rattle.basis.specs.Refusals.{accepted, above_limit, out_of_range, unknown_rule, wrong_moment, no_such, already_defined, not_false, not_possible, no_entry, wrong_literal, not_above, kept_not_possible, no_room}
use Rattle.lists.specs.Lists.{all_of, any_of}
use Rattle.calculus.specs.Checks.{Check, ◌or◌, first_refusal}
use Rattle.calculus.specs.Class.{within_limits}
use Rattle.calculus.specs.Clauses.{no_literal, same_literal, ground, complement}
use Rattle.calculus.specs.Rules.{Answer, back_level, brought_at, decided_literal, is_one, last_literal, literal_instance, next, other_instances, source_atoms}
use Rattle.calculus.specs.States.{State, Step, Propagate, Decide, Conflict, Resolve, Factorize, Skip, Backtrack, Grow, Unknown, clauses, clause_at, stands, conflict_of}
use Rattle.calculus.specs.Tests.{all_false, atoms_undefined, clause_exists, complement_in_conflict, counts_few, first_failing, instance_fits, last_is_propagated, literal_exists, nonempty, others_false, signs_fit, source_fits}
use Rattle.calculus.specs.Trails.{atoms_of, undefined, is_false, level_of}

-- What a step asks; `possible` tells whether its question's atoms are.
abbrev pub asks : Bool → State → Step → List Check
asks possible s (Propagate c l τ) =
    let C = clause_at (clauses s) c in
    let g = ground τ (get_or C.literals (l - 1) no_literal) in
    leb (length τ) most_variables or above_limit ∷
    not (stands s.conflict) or wrong_moment ∷
    (clause_exists (clauses s) c && (literal_exists C l && instance_fits s.constants C τ)) or no_such ∷
    undefined s.trail g or already_defined ∷
    others_false s.trail τ g C.literals or not_false ∷
    possible or not_possible ∷
    leb (length (next s (Propagate c l τ)).trail) most_entries or no_room ∷ []
asks possible s (Decide c l g τ offered) =
    let C = clause_at (clauses s) c in
    let zs = brought_at s offered in
    (leb (length τ) most_variables && counts_few zs) or above_limit ∷
    (leb g 1 && signs_fit zs) or out_of_range ∷
    not (stands s.conflict) or wrong_moment ∷
    ((clause_exists (clauses s) c && (literal_exists C l && instance_fits s.constants C τ)) && all_of (source_fits (clauses s) s.constants) zs) or no_such ∷
    (undefined s.trail (decided_literal C (l - 1) (is_one g) τ) && atoms_undefined (atoms_of s.trail) (source_atoms (clauses s) zs)) or already_defined ∷
    possible or not_possible ∷
    leb (length (next s (Decide c l g τ offered)).trail) most_entries or no_room ∷ []
asks possible s (Conflict c τ) =
    let C = clause_at (clauses s) c in
    leb (length τ) most_variables or above_limit ∷
    not (stands s.conflict) or wrong_moment ∷
    (clause_exists (clauses s) c && instance_fits s.constants C τ) or no_such ∷
    all_false s.trail τ C.literals or not_false ∷
    possible or not_possible ∷ []
asks possible s (Resolve l) =
    let N = conflict_of s.conflict in
    stands s.conflict or wrong_moment ∷
    literal_exists N.clause l or no_such ∷
    last_is_propagated s.trail or no_entry ∷
    same_literal (complement (last_literal s.trail)) (literal_instance N l) or wrong_literal ∷
    within_limits (conflict_of (next s (Resolve l)).conflict).clause or no_room ∷ []
asks possible s (Factorize i j) =
    let N = conflict_of s.conflict in
    stands s.conflict or wrong_moment ∷
    (literal_exists N.clause i && (literal_exists N.clause j && not (eqb i j))) or no_such ∷
    same_literal (literal_instance N i) (literal_instance N j) or wrong_literal ∷ []
asks possible s Skip =
    stands s.conflict or wrong_moment ∷
    nonempty s.trail or no_entry ∷
    not (complement_in_conflict (conflict_of s.conflict) s.trail) or wrong_literal ∷ []
asks possible s (Backtrack l) =
    let N = conflict_of s.conflict in
    stands s.conflict or wrong_moment ∷
    literal_exists N.clause l or no_such ∷
    not (any_of (same_literal (literal_instance N l)) (other_instances N l)) or wrong_literal ∷
    ltb (back_level N l s.trail) (level_of (literal_instance N l) s.trail) or not_above ∷
    possible or kept_not_possible ∷
    (leb (length (next s (Backtrack l)).trail) most_entries && leb (suc (length s.learned)) most_learned) or no_room ∷ []
asks possible s (Grow n) =
    not (stands s.conflict) or wrong_moment ∷
    leb 1 n or no_such ∷
    leb (s.constants + n) most_constants or no_room ∷ []
asks possible s (Unknown r) = false or unknown_rule ∷ []

-- "Refusal 12 names the first literal from the left whose instance is not false, of those that must be."
abbrev pub not_false_place : State → Step → ℕ
not_false_place s (Propagate c l τ) =
    let C = clause_at (clauses s) c in
    let g = ground τ (get_or C.literals (l - 1) no_literal) in
    first_failing (λ m. same_literal (ground τ m) g || is_false s.trail (ground τ m)) C.literals
not_false_place s (Decide c l g τ zs) = zero
not_false_place s (Conflict c τ) = first_failing (λ m. is_false s.trail (ground τ m)) (clause_at (clauses s) c).literals
not_false_place s (Resolve l) = zero
not_false_place s (Factorize i j) = zero
not_false_place s Skip = zero
not_false_place s (Backtrack l) = zero
not_false_place s (Grow n) = zero
not_false_place s (Unknown r) = zero

-- ---- the answer

-- The answer, where `possible` tells whether the question's atoms are
abbrev pub answer : Bool → State → Step → Answer
answer possible s x =
    let n = first_refusal (asks possible s x) in
    let p = not_false_place s x in
    let s' = next s x in
    record { number = n; place = cond (eqb n not_false) p zero; state = cond (eqb n accepted) s' s }
