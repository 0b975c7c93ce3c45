-- Why the constraint test is right: unique answers, no overflow, the square step by step, and the numbers behind a yes.
pub mod Unique
pub mod Decided
pub mod Sums
pub mod Stands
pub mod Start
pub mod Steps
pub mod Numbers
pub mod Answers
