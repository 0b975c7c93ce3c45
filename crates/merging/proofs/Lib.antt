-- Laws of merging over arrays, and the proofs of the functions.
pub mod Appending
pub mod Whole
pub mod Own
pub mod Says
