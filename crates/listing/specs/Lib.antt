-- The listing. To be believed: Lines.antt and Listing.antt, which read like the paper's section "Program and listing", and the statements in Claims.antt.
-- Records.antt says the last line of a run record, for the contract of the function that writes it.
pub mod Lines
pub mod Records
pub mod Listing
pub mod Claims
