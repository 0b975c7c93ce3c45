-- Laws of text and of what writers leave.
pub mod Text
pub mod Signed
