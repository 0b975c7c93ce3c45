-- Laws of judged fields, and the numbers that bytes make. Nothing here has to be read to believe what the functions promise.
pub mod Laws
pub mod Bytes
pub mod Turns
