-- What the records of a state say.
pub mod States
