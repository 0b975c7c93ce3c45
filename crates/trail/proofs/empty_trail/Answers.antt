-- As many blank entries as there is room for.
use mathlib.Core.Path.{◌∙◌, ap, sym}
use lib.ListN.{replicate}
use Rattle.basis.specs.Limits.{most_entries}
use Rattle.lists.proofs.Arrays.{exactly_none}
use Rattle.trail.specs.Entries.{blank_entry, packed_trail}
use Rattle.trail.proofs.empty_trail.Goals as goal

pub returns : goal.returns
unfolding packed_trail
returns c = ap (replicate most_entries) c.blank_entry.ensures ∙ sym (exactly_none blank_entry most_entries)
