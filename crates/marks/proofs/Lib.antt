pub mod Reading
pub mod Ways
pub mod Saying
pub mod Results
