-- What the records of a header say.
pub mod Records
