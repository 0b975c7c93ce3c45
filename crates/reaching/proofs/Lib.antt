-- What every state reached has, and what its steps hand on.
pub mod Reached
pub mod Handing
