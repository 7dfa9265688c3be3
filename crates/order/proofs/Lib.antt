pub mod Ordered
pub mod Saying
pub mod Results
