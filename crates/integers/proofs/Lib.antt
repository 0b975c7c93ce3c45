-- The laws of whole numbers.
pub mod Linear
pub mod Order
pub mod Machine
