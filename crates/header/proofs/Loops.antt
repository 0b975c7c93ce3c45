-- What a reading gives beside the record of its value, and a loop that reads so many values and stores each.
use Rattle.std.proofs.Common.{Bool, ◌≡◌, refl, sym, ◌∙◌, ap, ap₂, subst, List, [], ◌∷◌, ◌++◌, true, false, ℕ, zero, suc, ◌+◌, ◌-◌, ◌<◌, Result, Ok, Err, is_err, arith, length, replicate, set, add-one}
use Rattle.std.proofs.lemmas.List.{append-nil, append_assoc, length-append}
use Rattle.std.proofs.lemmas.List.Edits.{sets}
use Rattle.runfile.specs.Readers.{Got, Reader, bad, got, onward, times}
use Rattle.runfile.proofs.Given.{no_value}
use Rattle.runfile.proofs.Times.{times_length}
use mathlib.Core.List.{map, map-append}
use lib.ListN.{length-map}
use Rattle.basis.specs.Limits.{most_clauses}
use Rattle.lists.specs.Arrays.{exactly}
use Rattle.lists.proofs.Arrays.{exactly_none}
use Rattle.calculus.specs.Clauses.{Clause, no_clause}
use Rattle.clauses.specs.Records.{packed}
use Rattle.clauses.specs.declared.Clause as records
use Rattle.basis.specs.declared.Refused.{Refused}
use Rattle.fields.specs.Views.{read}
use Rattle.runfile.specs.File as runfile
use Rattle.header.specs.declared.Header.{Header}
use Rattle.header.specs.Records.{input_of, kept, kept_beside, laid, packed_table, read_beside, seen}

-- A value whose record was seen, and a refusal
pub record Was {A B : Type 0} (view : A → B) (g : Got A) (y : B) (k : ℕ) : Type 0 where
  pub value : A
  pub is : g ≡ got value k
  pub view_is : y ≡ view value

module _ {A B : Type 0} (view : A → B) where
  pub seen_got : (g : Got A) (y : B) (k : ℕ) → got y k ≡ seen view g → Was view g y k
  seen_got (got x n) y k e = record { value = x; is = let z : k ≡ n = cc in rw z refl; view_is = cc }
  seen_got (bad n p) y k e = no_value (sym e)

  pub seen_bad : (g : Got A) (n p : ℕ) → bad n p ≡ seen view g → g ≡ bad n p
  seen_bad (got x k) n p e = no_value e
  seen_bad (bad m q) n p e = let a : n ≡ m = cc in let b : p ≡ q = cc in rw (a, b) refl

module _ {A : Type 0} (f : Reader A) (s : List ℕ) (i : ℕ) where
  -- A refusal ends the reading, however many were to follow.
  pub stays : (j n p k c : ℕ) → c ≡ suc (j + k) → times (suc j) f s i ≡ bad n p → times c f s i ≡ bad n p
  unfolding times
  stays j n p zero c e h = let z : c ≡ suc j = omega arith in rw z h
  stays j n p (suc k) zero e h = absurd (omega arith)
  stays j n p (suc k) (suc c) e h = ap (λ (g : Got (List A)). onward g (λ xs l. onward (f s l) (λ x l. got (xs ++ (x ∷ [])) l))) (stays j n p k c (omega arith) h)

module _ {A B : Type 0} (f : Reader A) (view : A → B) (fill : List A → List B) (m : ℕ)
    (more : (xs : List A) (x : A) → length xs < m → set (fill xs) (length xs) (view x) ≡ fill (xs ++ (x ∷ []))) (s : List ℕ) (i j : ℕ) (l : List B) (e : ℕ)
    (t : got l e ≡ seen fill (times j f s i)) where
  -- One more
  pub turn : (x : B) (k : ℕ) → j < m → got x k ≡ seen view (f s e) → got (set l j x) k ≡ seen fill (times (j + 1) f s i)
  unfolding times
  turn x k h r =
      let w = seen_got fill (times j f s i) l e t in
      let v = seen_got view (f s e) x k r in
      let z = times_length f s j i w.value e w.is in
      let all : times (suc j) f s i ≡ got (w.value ++ (v.value ∷ [])) k =
      ap (λ (g : Got (List A)). onward g (λ xs l. onward (f s l) (λ x l. got (xs ++ (x ∷ [])) l))) w.is ∙ ap (λ (g : Got A). onward g (λ x l. got (w.value ++ (x ∷ [])) l)) v.is in
      let stored : set l j x ≡ fill (w.value ++ (v.value ∷ [])) = ap₂ (λ a b. set a j b) w.view_is v.view_is ∙ subst (λ n. set (fill w.value) n (view v.value) ≡ fill (w.value ++ (v.value ∷ []))) z (more w.value v.value (omega (arith, z))) in
      ap (λ r. got r k) stored ∙ sym (ap (λ n. seen fill (times n f s i)) (add-one j) ∙ ap (seen fill) all)

  pub fail : (n p c : ℕ) → j < c → bad n p ≡ seen view (f s e) → bad n p ≡ seen fill (times c f s i)
  unfolding times
  fail n p c h r =
      let w = seen_got fill (times j f s i) l e t in
      let here : times (suc j) f s i ≡ bad n p =
      ap (λ (g : Got (List A)). onward g (λ xs l. onward (f s l) (λ x l. got (xs ++ (x ∷ [])) l))) w.is
      ∙ ap (λ (g : Got A). onward g (λ x l. got (w.value ++ (x ∷ [])) l)) (seen_bad view (f s e) n p r) in
      let k : c ≡ suc (j + (c - suc j)) = omega arith in
      sym (ap (seen fill) (stays f s i j n p (c - suc j) c k here))

-- ---- a table into which clauses are laid

laid_more : {A : Type 0} (t : List A) (i : ℕ) (xs : List A) (x : A) → set (sets t i xs) (i + length xs) x ≡ sets t i (xs ++ (x ∷ []))
laid_more t i [] x = ap (λ k. set t k x) (omega arith)
laid_more t i (y ∷ xs) x = ap (λ k. set (sets (set t i y) (suc i) xs) k x) (omega arith) ∙ laid_more (set t i y) (suc i) xs x

-- One clause more is stored in the slot after the others, if there is one.
pub stored_clause : (t : List records.Clause) (cs : List Clause) (c : Clause) → set (laid t cs) (length cs) (packed c) ≡ laid t (cs ++ (c ∷ []))
stored_clause t cs c =
    let n : length cs ≡ 0 + length (map packed cs) = omega (arith, length-map cs packed) in
    ap (λ k. set (laid t cs) k (packed c)) n ∙ laid_more t 0 (map packed cs) (packed c) ∙ ap (sets t 0) (sym (map-append packed cs (c ∷ [])))

module _ {A : Type 0} (d : A) where
  -- Past the room there is nothing to change.
  set_anywhere : (n : ℕ) (l : List A) (x : A) → set (exactly n d l) (length l) x ≡ exactly n d (l ++ (x ∷ []))
  unfolding exactly
  set_anywhere zero l x = refl
  set_anywhere (suc n) [] x = refl
  set_anywhere (suc n) (y ∷ l) x = ap {B = List A} (λ r. y ∷ r) (set_anywhere n l x)

  laid_blank : (n : ℕ) (l xs : List A) → sets (exactly n d l) (length l) xs ≡ exactly n d (l ++ xs)
  laid_blank n l [] = ap (exactly n d) (sym (append-nil l))
  laid_blank n l (x ∷ xs) =
      let m : length (l ++ (x ∷ [])) ≡ suc (length l) = omega (arith, length-append l (x ∷ [])) in
      ap₂ (λ t k. sets t k xs) (set_anywhere n l x) (sym m) ∙ laid_blank n (l ++ (x ∷ [])) xs ∙ ap (exactly n d) (append_assoc l (x ∷ []) xs)

-- Into a blank table
pub laid_anew : (cs : List Clause) → laid (replicate most_clauses (packed no_clause)) cs ≡ packed_table cs
laid_anew cs = ap (λ t. sets t 0 (map packed cs)) (sym (exactly_none (packed no_clause) most_clauses)) ∙ laid_blank (packed no_clause) most_clauses [] (map packed cs)

-- ---- a header, without the table beside it

alone : (r : Result (Header × ℕ) (Refused ℕ)) (t : List records.Clause) → seen (λ x. x.0) (read_beside t r) ≡ read r
alone (Ok x) t = refl
alone (Err e) t = refl

kept_alone : (g : Got runfile.Header) (t : List records.Clause) → seen (λ x. x.0) (kept_beside t g) ≡ kept g
kept_alone (got h j) t = refl
kept_alone (bad n p) t = refl

pub read_alone : (r : Result (Header × ℕ) (Refused ℕ)) (g : Got runfile.Header) (t t' : List records.Clause) → read_beside t' r ≡ kept_beside t g → read r ≡ kept g
read_alone r g t t' e = sym (alone r t') ∙ ap (seen (λ x. x.0)) e ∙ kept_alone g t

-- .. and the table without the header
abbrev beside : {A B : Type 0} → B → Got (A × B) → B
beside y (got x j) = x.1
beside y (bad n p) = y

abbrev one_of : Bool → ℕ
one_of true = 1
one_of false = 0

pub table_left : (r : Result (Header × ℕ) (Refused ℕ)) (g : Got runfile.Header) (t t' : List records.Clause) → read_beside t' r ≡ kept_beside t g → is_err r ≡ false → t' ≡ laid t (input_of g)
table_left (Ok x) (got h j) t t' e o = ap (beside t) e
table_left (Ok x) (bad n p) t t' e o = no_value (sym e)
table_left (Err x) g t t' e o = let z : ◌≡◌ {A = ℕ} 1 0 = ap one_of o in absurd (omega arith)

pub none_read : (r : Result (Header × ℕ) (Refused ℕ)) (g : Got runfile.Header) (t t' : List records.Clause) → read_beside t' r ≡ kept_beside t g → is_err r ≡ true → input_of g ≡ []
none_read (Err x) (bad n p) t t' e o = refl
none_read (Err x) (got h j) t t' e o = no_value e
none_read (Ok x) g t t' e o = let z : ◌≡◌ {A = ℕ} 0 1 = ap one_of o in absurd (omega arith)
