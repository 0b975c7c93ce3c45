-- Clauses from a lookup table. To be believed: Tables.antt, TableClauses.antt and Making.antt, which read like the request, and the statements
-- in Claims.antt. How strong they are: WrongTables.antt.
pub mod Tables
pub mod TableClauses
pub mod Making
pub mod Claims
pub mod WrongTables
