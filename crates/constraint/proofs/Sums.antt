-- No sum of bounds overflows.
use lib.Dec.{lit<}
use mir.Syntax.{w64}
use Rattle.integers.proofs.Order.{within_sum}
use Rattle.integers.proofs.Machine.{fits_of}
use Rattle.constraint.specs.Square.{NoOverflow}

pub no_overflow : NoOverflow
no_overflow = record {
  chain = λ t c S W i p hi hp. within_sum (S.small i p hi hp) W;
  long_chain = λ t c S W i p q j hi hp hq hj. within_sum (within_sum (S.small i p hi hp) W) (S.small q j hq hj);
  round = λ t c S W p q hp hq. within_sum W (S.small q p hq hp);
  held = λ z W. fits_of w64 W (lit< tt);
}
