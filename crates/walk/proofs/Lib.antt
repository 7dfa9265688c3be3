pub mod Steps
pub mod Lists
pub mod Following
pub mod Saying
pub mod Results
