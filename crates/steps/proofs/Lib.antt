pub mod Walking
pub mod Saying
pub mod Results
