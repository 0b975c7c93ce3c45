-- The user's three demands of the code, and that they can be met. The first that a reader opens is Demands.antt.
pub mod Demands
pub mod Tools
