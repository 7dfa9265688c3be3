pub mod Fitting
pub mod Opens
pub mod Same
pub mod Results
