-- `fields::several` meets its contract. So many were read, whatever the calls read.
use Rattle.std.proofs.Common.{◌≡◌, ℕ, List}
use Rattle.runfile.specs.Readers.{Reader, got}
use Rattle.fields.specs.Views.{Calls, filled}
use Rattle.fields.proofs.several.Given as goal

abbrev pub invariant-loop-j : goal.invariant-loop-j
invariant-loop-j g l = (f : Reader g.row.T.Denot) (s : List ℕ) → Calls (goal.F-post g l.fn.one) f s → filled g.row.N l.fn.blank l.j f s l.initial.past ≡ got (record { n = l.j; at = l.values }) l.past
