pub mod Trailers
pub mod Entries
pub mod Results
