pub mod Trials
pub mod Results
