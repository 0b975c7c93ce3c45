-- Steps as the calculus's, what a step looks at of the clause table, and what is asked of an entry.
pub mod Kinds
pub mod Steps
pub mod Looking
pub mod Trying
