pub mod Placing
pub mod Spotting
pub mod Results
