-- A state with its clauses: its record, and what admission and one step answer.
pub mod States
pub mod Runs
