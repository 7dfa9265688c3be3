pub mod Trailing
pub mod Results
