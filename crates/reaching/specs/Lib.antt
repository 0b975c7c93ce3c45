-- That every step at a state reached hands on what is due, and one thing.
pub mod Handing
