pub mod Walking
pub mod Filling
pub mod Results
pub mod Saying
