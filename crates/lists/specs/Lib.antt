-- Lists and tests that compute, for the calculus and the code over it.
pub mod Lists
pub mod Walk
pub mod Tests
pub mod Arrays
