pub mod Words
pub mod Saying
pub mod Results
