-- What admission tells has one answer.
use Rattle.std.proofs.Common.{◌≡◌, ◌∙◌, ap, refl, sym, ℕ, Result, Ok, Err}
use Rattle.basis.specs.declared.Refusal.{Refusal}
use Rattle.basis.specs.declared.Refused as basis
use Rattle.basis.proofs.Numbered.{numbered, numbered_again}
use Rattle.calculus.specs.Admission.{Refused}
use Rattle.admission.specs.Offered.{ToldAtOnce, ToldOnce, told, told_at}

abbrev untold : {A : Type 0} → Result A ℕ → Result A Refusal
untold (Ok x) = Ok x
untold (Err n) = Err (numbered n)

told_again : {A : Type 0} (r : Result A Refusal) → untold (told r) ≡ r
told_again (Ok x) = refl
told_again (Err r) = ap (λ (n : Refusal). Err n) (numbered_again r)

pub told_once : ToldOnce
told_once A r s a e h = sym (told_again r) ∙ ap untold (e ∙ sym h) ∙ told_again s

abbrev untold_at : {A : Type 0} → Result A Refused → Result A (basis.Refused ℕ)
untold_at (Ok x) = Ok x
untold_at (Err r) = Err (record { refusal = numbered r.number; place = r.place })

told_at_again : {A : Type 0} (r : Result A (basis.Refused ℕ)) → untold_at (told_at r) ≡ r
told_at_again (Ok x) = refl
told_at_again (Err e) = ap (λ (r : Refusal). Err (record { refusal = r; place = e.place })) (numbered_again e.refusal)

pub told_at_once : ToldAtOnce
told_at_once A r s a e h = sym (told_at_again r) ∙ ap untold_at (e ∙ sym h) ∙ told_at_again s
