pub mod Saying
pub mod Results
pub mod Widths
