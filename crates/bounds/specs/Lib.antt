-- Bounds between places, over any kind of bound: squares, one bound put in, values; ℤ as a kind of bound; and what is proved of the numbers
-- behind a yes.
pub mod Kinds
pub mod Squares
pub mod Whole
pub mod Choices
