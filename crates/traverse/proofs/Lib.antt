pub mod Scanning
pub mod Traversing
pub mod Saying
pub mod Results
