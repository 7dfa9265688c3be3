pub mod Putting
pub mod Reading
pub mod Examples
pub mod Results
