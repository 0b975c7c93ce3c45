-- Clause records as the calculus's clauses.
pub mod Records
pub mod Counts
