-- What merging gives back as records, and how atoms are put together.
pub mod Results
pub mod Added
