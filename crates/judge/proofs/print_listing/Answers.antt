-- A listing lies within the buffer.
use Rattle.std.proofs.Common.{sym}
use Rattle.std.proofs.lemmas.List.{length-take-le}
use lib.ListN.{replicate}
use Rattle.judging.proofs.Judging.{lists_within}
use Rattle.judge.proofs.print_listing.Goals as goal

pub slice_bounds-text-end : goal.slice_bounds-text-end
slice_bounds-text-end c = rw c.in-Bytes.is at (lists_within c.args.file.now (replicate 54008 0) c.judge.new.out c.judge.result c.judge.ensures)

pub slice_bounds-print-end-in-Bytes : goal.slice_bounds-print-end-in-Bytes
slice_bounds-print-end-in-Bytes c = sym (length-take-le _ _ (rw c.in-Bytes.is at (lists_within c.args.file.now (replicate 54008 0) c.judge.new.out c.judge.result c.judge.ensures)))
