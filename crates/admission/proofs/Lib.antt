-- Laws of admission over records, and the proofs of the functions.
pub mod Judging
pub mod Tables
pub mod Says
pub mod Once
