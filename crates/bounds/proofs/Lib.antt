-- The laws of squares of bounds.
pub mod Lower
pub mod Put
pub mod Same
pub mod Values
pub mod Depths
pub mod Draw
pub mod Bare
pub mod Decided
pub mod Choices
pub mod Numbers
