-- Laws of stored trails and of the walks over them, and the proofs of the functions.
pub mod Walks
pub mod NotFalse
pub mod Stored
