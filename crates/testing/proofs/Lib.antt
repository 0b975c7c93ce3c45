-- Laws of what is gathered, of the constraint test's answers, of new atoms and of those that are free, and of what a Decide asks; and the proofs of the
-- functions.
pub mod Gathering
pub mod Asked
pub mod New
pub mod Free
pub mod Seeing
