-- Laws of texts written in turn, and of a literal's arguments.
pub mod Turns
pub mod Literals
