-- What stands beneath the steps' lines, the run so far, how it ends, and that all of it is unique.
pub mod Numbers
pub mod Outlines
pub mod Running
pub mod Ending
pub mod Once
