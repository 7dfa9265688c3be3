pub mod Schedule
pub mod Joined
pub mod Results
