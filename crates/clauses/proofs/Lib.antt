-- Laws of the records, and the proofs of the functions.
pub mod Records
pub mod Counts
