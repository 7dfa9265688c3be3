pub mod Stages
pub mod Saying
pub mod Results
