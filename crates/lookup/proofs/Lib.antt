-- What a table's clauses mean, that a run file has them, and what the code's walks and stores leave.
pub mod Rows
pub mod Lengths
pub mod Numbers
pub mod Walks
pub mod Stores
pub mod Refusals
pub mod Making
pub mod Meaning
pub mod InFile
pub mod WrongTables
pub mod Every
