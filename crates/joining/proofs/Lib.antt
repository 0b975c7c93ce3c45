-- Laws of the parts of a merge, and the proofs of the functions.
pub mod Scratch
pub mod Closing
