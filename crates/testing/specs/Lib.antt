-- What the constraint test is asked, which of the step's atoms are new, and whether all are undefined.
pub mod Asked
pub mod New
