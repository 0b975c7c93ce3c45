-- Laws of words.
pub mod Asked
