-- The demands, from what the crates beneath promise.
pub mod Demands
pub mod Tools
