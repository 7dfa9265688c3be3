pub mod Backs
pub mod Results
