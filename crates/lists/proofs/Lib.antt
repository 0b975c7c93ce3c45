-- Laws of the lists and tests of specs/.

pub mod Tests
pub mod Denials
pub mod Members
pub mod Meanings
pub mod Counting
pub mod Walk
pub mod Arrays
pub mod Walks
pub mod Parts
pub mod Decided
