-- Laws of two's complement, of the parts of a literal and of a clause, and of the loops over a clause's atoms and literals.
pub mod Words
pub mod Parts
pub mod Members
