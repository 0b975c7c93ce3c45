-- Why what is asked is what the calculus asks.
pub mod Steps
pub mod Sources
pub mod Brought
pub mod Finding
pub mod Trying
