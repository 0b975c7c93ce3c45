-- Judging, and clauses from lookup tables, for programs in other languages: what the numbers say.
pub mod Export
