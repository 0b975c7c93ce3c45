-- The constraint test for other languages: what its number says.
pub mod Export
