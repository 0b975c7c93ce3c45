-- The run file. To be believed: Readers.antt and File.antt, which read like the paper, and the statements in Claims.antt.
pub mod Readers
pub mod File
pub mod Written
pub mod Claims
