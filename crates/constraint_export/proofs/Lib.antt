-- The exported test's number, and the numbers that it notes, are unique.
pub mod Unique
