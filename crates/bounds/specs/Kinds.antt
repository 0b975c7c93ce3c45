-- What is asked of a kind of bound, operations and laws in one. The whole numbers are one: Whole.
use Rattle.std.specs.Prelude.{◌≡◌, Bool, true, false}

-- A sum that is commutative, a total order with its test, and a sum that keeps the order and cancels.
pub record Kind : Type 1 where
  pub Bound : Type 0
  pub plus : Bound → Bound → Bound
  pub nought : Bound
  pub less : Bound → Bound → Bool
  pub AtMost : Bound → Bound → Type 0
  pub plus_nought : (a : Bound) → plus nought a ≡ a
  pub plus_assoc : (a b c : Bound) → plus (plus a b) c ≡ plus a (plus b c)
  pub plus_comm : (a b : Bound) → plus a b ≡ plus b a
  pub refl_most : (a : Bound) → AtMost a a
  pub trans : {a b c : Bound} → AtMost a b → AtMost b c → AtMost a c
  pub antisym : {a b : Bound} → AtMost a b → AtMost b a → a ≡ b
  pub add : {a b c d : Bound} → AtMost a b → AtMost c d → AtMost (plus a c) (plus b d)
  pub cancel : {a b : Bound} (c : Bound) → AtMost (plus a c) (plus b c) → AtMost a b
  pub less_yes : {a b : Bound} → less a b ≡ true → AtMost a b
  pub less_no : {a b : Bound} → less a b ≡ false → AtMost b a
  pub less_not : {a b : Bound} → less a b ≡ true → ¬ AtMost b a
