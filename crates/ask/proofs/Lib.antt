pub mod Reading
pub mod Looking
pub mod Exactly
pub mod Saying
pub mod Results
