pub mod Acceptance
pub mod Demands
pub mod Results
