pub mod Sound
pub mod Saying
pub mod Results
