-- Text as bytes: words, numbers in decimal digits, and what a writer leaves in a lent buffer.
pub mod Text
