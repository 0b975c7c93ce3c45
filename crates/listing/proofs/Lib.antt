-- Laws of listings.
pub mod Lines
pub mod Once
pub mod First
pub mod Every
pub mod NoModel
pub mod Lengths
