-- Laws of instances and of the records that hold them, and the proofs of the functions.
pub mod Constants
pub mod Others
pub mod Fits
