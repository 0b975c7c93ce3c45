-- Why each rule's answer is the calculus's.
pub mod Runs
pub mod Told
pub mod Once
pub mod Asking
pub mod Naming
pub mod Testing
pub mod Growing
pub mod Propagating
pub mod Deciding
pub mod Conflicting
pub mod Resolving
pub mod Simple
pub mod Backtracking
pub mod Steps
pub mod Places
