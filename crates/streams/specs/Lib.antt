-- Standard input read into a lent buffer.
pub mod Streams
