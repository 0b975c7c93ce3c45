-- What Decide weighs.
pub mod Weighing
