-- Which entries are propagated literals.
use Rattle.std.specs.Prelude.{Bool, true, false}
use Rattle.trail.specs.declared.Kind.{Kind}
use Rattle.trail.specs.declared.Kind.TheVariants.{Background, Brought, Propagated, Decided}

-- An entry of this kind is a propagated literal.
abbrev pub is_propagated : Kind → Bool
is_propagated Background = false
is_propagated Brought = false
is_propagated Propagated = true
is_propagated Decided = false
