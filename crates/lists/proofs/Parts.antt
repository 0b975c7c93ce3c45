-- Lists joined of two parts.
use mathlib.Core.Path.{◌∙◌, ◌≡◌, ap, sym}
use mathlib.Core.List.{List, ◌++◌}
use native.Mathlib.Omega.{arith}
use lib.ListN.{drop, length, length-append}
use lib.Seq.{drop_at}

-- The ends of a list, equally long, are the same.
pub same_ends : {A : Type 0} (u v : List A) {a b : List A} → u ++ a ≡ v ++ b → length a ≡ length b → a ≡ b
same_ends u v {a} {b} e h =
    sym (drop_at u a (length u) (omega arith)) ∙ ap (drop (length u)) e ∙ drop_at v b (length u) (omega (arith, ap length e, length-append u a, length-append v b))
