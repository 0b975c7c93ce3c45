-- What the reader's answers say, in terms of the run file's definition.
pub mod Views
