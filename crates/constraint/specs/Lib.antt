-- The constraint test: the record of numbers (Witnesses), what each of its answers says (Test), and what its private functions work on (Square).
pub mod Witnesses
pub mod Test
pub mod Square
