-- The words of the command line: what they ask for, and the line that names an unknown one.
pub mod Words
