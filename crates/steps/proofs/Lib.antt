-- How the parts of a step and of a file follow each other.
pub mod Said
pub mod Files
pub mod Decisions
