-- What is read of a file's steps, and of the whole file.
pub mod Records
