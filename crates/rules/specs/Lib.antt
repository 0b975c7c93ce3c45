-- Run states as the calculus's, and what each answer of a rule says.
pub mod Records
pub mod Answers
