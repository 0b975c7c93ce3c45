-- Why the numbers are unique, and what a table's number says.
pub mod Unique
pub mod Codes
