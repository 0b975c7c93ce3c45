-- Why what is weighed is the calculus's answer, that it is unique, and what an accepted decision comes to.
pub mod Rising
pub mod Weighing
pub mod Once
pub mod Accepted
