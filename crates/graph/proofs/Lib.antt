pub mod Passing
pub mod Views
pub mod Standing
pub mod Spots
pub mod Saying
pub mod Results
