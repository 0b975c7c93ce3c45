-- The laws and proofs behind the calculus's theorems. Nothing here has to be read to believe them.

pub mod Merged
pub mod Instances
pub mod Truths
pub mod Derived
pub mod OnTrail
pub mod Cuts
pub mod Computed
pub mod Asks
pub mod Answers
pub mod Admitting
pub mod Trails
pub mod Runs
pub mod Class
pub mod Levels
pub mod Invariant
pub mod Sound
pub mod Intact
pub mod Merges
pub mod Closed
pub mod Certificates
pub mod Handing
pub mod Examples
pub mod FalseTools
