-- What was written lies within the buffer. How long that is a lemma says: it is too long to be counted out.
use Rattle.std.proofs.Common.{ℕ, sym, ◌∙◌}
use Rattle.std.proofs.lemmas.List.{length-replicate}
use lib.ListN.{replicate}
use Rattle.judging.proofs.Judging.{shows_numbers_within}
use Rattle.inspect.proofs.print_numbers.Goals as goal

pub slice_bounds-inspect_numbers-end : goal.slice_bounds-inspect_numbers-end
slice_bounds-inspect_numbers-end c = sym (length-replicate {0} {A = ℕ} 536558 0)

pub slice_bounds-print_text-end : goal.slice_bounds-print_text-end
slice_bounds-print_text-end c = sym (c.inspect_numbers-written.auto.out ∙ length-replicate {0} {A = ℕ} 536558 0)

pub print_text-requires : goal.print_text-requires
print_text-requires c = shows_numbers_within c.args.file.now (replicate 536558 0) c.inspect_numbers-written.new.out c.inspect_numbers-written.result c.inspect_numbers-written.ensures
