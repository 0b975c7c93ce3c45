-- What an outline says of the step that was read, and the whole of it where it is a Decide.
use mathlib.Core.Path.{◌≡◌, ap, refl, sym}
use mathlib.Core.List.{List}
use mathlib.Core.Bool.{Bool, cond, false, true}
use Prim.Native.Nat.{ℕ}
use native.Mathlib.Decide.{ℕ_discrete}
use native.Mathlib.Omega.{arith}
use lib.Dec.{eqb}
use borrow.Author.Tests.{ne_eqb}
use Rattle.basis.specs.declared.Form.{Form}
use Rattle.calculus.specs.States as calculus
use Rattle.runfile.specs.File.{byte, instance, rule, ruled, step}
use Rattle.runfile.specs.Readers.{Got, Reader, bad, got, onward}
use Rattle.runfile.proofs.Given.{no_value}
use Rattle.asking.specs.declared.Step.{Step}
use Rattle.steps.specs.Records.{DecisionWhole, OutlineReadOnce, decision, outline, packed_step, record_of, step_there, without_atoms}
use Rattle.steps.specs.declared.Outline.{Outline}
use Rattle.fields.proofs.Laws.{read_as_once, rule_again, rule_back}

module _ (s : List ℕ) (f : Form) (i : ℕ) where
  -- It is that of the record of the step there.
  pub outline_told : (o : Outline) {n : ℕ} → got (record_of o) n ≡ outline f s i → record_of o ≡ without_atoms (step_there (step f s i))
  outline_told o {n} e = by (step f s i) e
    where
      by : (g : Got calculus.Step) → got (record_of o) n ≡ onward g (λ x k. got (without_atoms (packed_step x)) k) → record_of o ≡ without_atoms (step_there g)
      by (got x k) e = cc
      by (bad m p) e = no_value (sym e)

-- An outline is told by its record.
outline_back : Step → Outline
outline_back x = record { rule = rule_back x.rule; clause = x.clause; literal = x.literal; other = x.other; sign = x.sign; amount = x.amount; count = x.count; brought = x.brought; instance = x.instance }

pub outline_read_once : OutlineReadOnce
unfolding outline_back
outline_read_once = read_as_once record_of outline_back (λ o i. record { rule = rule_again o.rule i; clause = o.clause; literal = o.literal; other = o.other; sign = o.sign; amount = o.amount; count = o.count; brought = o.brought; instance = o.instance })

-- ---- the whole of a Decide

module _ (s : List ℕ) (f : Form) where
  -- What is read is no Decide.
  abbrev Other : Got calculus.Step → Type 0
  Other g = ¬ ((step_there g).rule ≡ 2)

  other_then : {A : Type 0} (z : Got A) (k : A → ℕ → Got calculus.Step) → ((x : A) (j : ℕ) → Other (k x j)) → Other (onward z k)
  other_then (got x j) k h = h x j
  other_then (bad n p) k h = λ e. absurd (omega arith)

  other_cond : (b : Bool) (i : ℕ) (x y : Reader calculus.Step) → Other (x s i) → Other (y s i) → Other (cond b x y s i)
  other_cond true i x y h k = h
  other_cond false i x y h k = k

  -- Only the second rule is that of a Decide.
  no_decide : (r i : ℕ) → ¬ (r ≡ 2) → Other (ruled f r s i)
  unfolding ruled
  no_decide r i h = rw (ne_eqb r 2 h) (
      other_cond (eqb r 1) i _ _ (other_then (byte s i) _ (λ c j. other_then (byte s j) _ (λ l k. other_then (instance s k) _ (λ τ m e. absurd (omega arith)))))
      (other_cond (eqb r 3) i _ _ (other_then (byte s i) _ (λ c j. other_then (instance s j) _ (λ τ m e. absurd (omega arith))))
      (other_cond (eqb r 4) i _ _ (other_then (byte s i) _ (λ l j e. absurd (omega arith)))
      (other_cond (eqb r 5) i _ _ (other_then (byte s i) _ (λ l j. other_then (byte s j) _ (λ m k e. absurd (omega arith))))
      (other_cond (eqb r 6) i _ _ (λ e. absurd (omega arith))
      (other_cond (eqb r 7) i _ _ (other_then (byte s i) _ (λ l j e. absurd (omega arith)))
      (other_then (byte s i) _ (λ n j e. absurd (omega arith)))))))))

  -- Where a Decide stands, it is read whole.
  decision_read : (i : ℕ) → (step_there (step f s i)).rule ≡ 2 → decision f s i ≡ step f s i
  unfolding step
  decision_read i h = by (rule s i) h
    where
      by : (g : Got ℕ) → (step_there (onward g (λ m j. ruled f m s j))).rule ≡ 2 → onward g (λ _ j. ruled f 2 s j) ≡ onward g (λ m j. ruled f m s j)
      by (got m j) h = elim (ℕ_discrete m 2) [
        | yes w ↦ rw w refl
        | no w ↦ absurd (no_decide m j w h)
      ]
      by (bad m p) h = absurd (omega arith)

pub decision_whole : DecisionWhole
decision_whole f s i h = ap step_there (decision_read s f i h)
