-- The lists that a merge works on, and what it gives where that is within the limits.
pub mod Scratch
pub mod Fitted
