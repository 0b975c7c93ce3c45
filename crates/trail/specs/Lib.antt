-- The array of entries as the calculus's trail, and what the functions over it answer.
pub mod Entries
pub mod Answers
