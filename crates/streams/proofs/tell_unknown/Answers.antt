-- The line that names an unknown word lies within the buffer.
use Rattle.std.proofs.Common.{rules, sym}
use Rattle.std.proofs.lemmas.List.{length-take-le}
use Rattle.words.proofs.Asked.{unknown_within}
use Rattle.streams.proofs.tell_unknown.Goals as goal

pub slice_bounds-line-end : goal.slice_bounds-line-end
slice_bounds-line-end c = unknown_within c.args.position (search rules) (search rules) c.put_unknown-count.ensures

pub slice_bounds-print-end : goal.slice_bounds-print-end
slice_bounds-print-end c = sym (length-take-le _ _ (unknown_within c.args.position (search rules) (search rules) c.put_unknown-count.ensures))
