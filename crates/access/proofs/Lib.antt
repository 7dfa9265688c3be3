pub mod Halving
pub mod Looks
pub mod Stores
pub mod Saying
pub mod Results
