-- How the parts of a header follow each other. Nothing here has to be read to believe what the functions promise.
pub mod Loops
pub mod Parts
