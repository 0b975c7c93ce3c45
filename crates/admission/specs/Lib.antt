-- How clause records offered from outside are read, and what admission answers.
pub mod Offered
