-- What every other crate is said in: the paper's limits and refusal numbers, the versions of the file, the atom, the numbers it is read over,
-- `Possible`, and the numbers behind a yes.
pub mod Limits
pub mod Refusals
pub mod RuleNumbers
pub mod Versions
pub mod Numbers
pub mod Atoms
pub mod Choices
