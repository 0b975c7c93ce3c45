-- What follows from the definitions by themselves.
pub mod Order
pub mod Choices
pub mod Denials
pub mod Numbered
pub mod RuleNumbers
