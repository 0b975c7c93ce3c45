-- The record of ground literals.
pub mod Listed
