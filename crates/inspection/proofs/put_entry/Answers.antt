-- By the entry's kind.
use mathlib.Core.Path.{ap, sym}
use borrow.Author.Rules.{rules}
use Rattle.trail.specs.Entries.{entry_as}
use Rattle.trail.specs.declared.Kind.{Kind}
use Rattle.text.proofs.Text.{and_then, as_text}
use Rattle.inspection.specs.StateText.{entry_text}
use Rattle.inspection.proofs.put_entry.Goals as goal

pub returns-in-Brought : goal.returns-in-Brought
returns-in-Brought c = record { wrote = as_text (sym (ap (λ (k : Kind). entry_text (entry_as k c.args.e)) c.in-Brought.is)) (and_then c.put_atom-next.ensures.wrote c.put_source.ensures.wrote); room = search rules }

pub returns-in-Propagated : goal.returns-in-Propagated
returns-in-Propagated c = record { wrote = as_text (sym (ap (λ (k : Kind). entry_text (entry_as k c.args.e)) c.in-Propagated.is)) (and_then c.put_literal-next.ensures.wrote c.put_step.ensures.wrote); room = search rules }

pub returns-in-Decided : goal.returns-in-Decided
returns-in-Decided c = record { wrote = as_text (sym (ap (λ (k : Kind). entry_text (entry_as k c.args.e)) c.in-Decided.is)) (and_then c.put_literal-next-in-Decided.ensures.wrote c.put_step-in-Decided.ensures.wrote); room = search rules }
