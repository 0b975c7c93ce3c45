-- What was written is the file's text, every file has one with numbers, and the theorem from bytes to bytes.
pub mod Numbers
pub mod Judging
pub mod EndToEnd
