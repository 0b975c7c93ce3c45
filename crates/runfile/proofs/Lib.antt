-- Laws of reading and writing, and the proofs of what specs/ states. Nothing here has to be read to believe it.
pub mod Given
pub mod Joined
pub mod Back
pub mod Times
pub mod Short
pub mod Longest
